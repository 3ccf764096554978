-- What spells a text is read as it.
use Rattle.std.proofs.Common.{◌≡◌, ℕ, false, List, [], ◌∷◌, ◌++◌, refl, ap, ◌∙◌, sym, subst, append_assoc, append-nil}
use Rattle.std.specs.Prelude.{Option, None, Some}
use Rattle.ng_base.specs.Cells.{Cell}
use Rattle.ng_tags.specs.References.{Read, character}
use Rattle.ng_tags.specs.Texts.{ends, decoded, with_character, text_from, text_run}
use Rattle.ng_tags.specs.Spelling.{Reads, no_more, itself, by_reference, ampersand, Ended}
use Rattle.ng_tags.specs.declared.fault.HtmlFault.{HtmlFault}
use Rattle.ng_tags.specs.declared.texts.Decoded.{Decoded}
use Rattle.ng_tags.specs.declared.until.Until.{Until}
use Rattle.ng_tags.specs.declared.until.Until.TheVariants as until
use Rattle.ng_tags.proofs.TextTurns.{text_on, text_stops}
use Rattle.ng_tags.proofs.NoReferences.{none_read}
use Rattle.ng_tags.proofs.ReferenceComplete.{plain_on, referred_on, alone_on}

-- an `&` ends no text
pub amp_goes_on : (u : Until) (c : ℕ) (cs : List Cell) → c ≡ 38 → ends u c cs ≡ false
amp_goes_on until.Tag c cs h = subst (λ (n : ℕ). ends until.Tag n cs ≡ false) (sym h) refl
amp_goes_on until.Double c cs h = subst (λ (n : ℕ). ends until.Double n cs ≡ false) (sym h) refl
amp_goes_on until.Single c cs h = subst (λ (n : ℕ). ends until.Single n cs ≡ false) (sym h) refl
amp_goes_on until.Space c cs h = subst (λ (n : ℕ). ends until.Space n cs ≡ false) (sym h) refl
amp_goes_on (until.EndTag m) c cs h = subst (λ (n : ℕ). ends (until.EndTag m) n cs ≡ false) (sym h) refl

-- one character more, and what follows
character_on : (u : Until) (s t : List ℕ) (f : Option HtmlFault) (c : Cell) (cs more rest : List Cell) (x : ℕ) → ends u c.0 cs ≡ false → character c.0 cs ≡ (Some x, more) →
    text_from u (decoded (s ++ x ∷ []) f) more ≡ (decoded ((s ++ x ∷ []) ++ t) f, rest) → text_from u (decoded s f) (c ∷ cs) ≡ (decoded (s ++ x ∷ t) f, rest)
character_on u s t f c cs more rest x e h i =
    text_on u (decoded s f) c cs e
    ∙ (ap (λ (r : Read). text_from u (with_character (decoded s f) c.1 r.0) r.1) h
    ∙ (i ∙ ap (λ (v : List ℕ). let q : Decoded × List Cell = (decoded v f, rest) in q) (append_assoc s (x ∷ []) t)))

pub reads_on : (u : Until) (f : Option HtmlFault) (rest us : List Cell) (t : List ℕ) → Reads u rest us t → Ended u rest → (s : List ℕ) → text_from u (decoded s f) (us ++ rest) ≡ (decoded (s ++ t) f, rest)
reads_on u f [] us t no_more e s = ap (λ (v : List ℕ). let q : Decoded × List Cell = (decoded v f, []) in q) (sym (append-nil s))
reads_on u f (c ∷ cs) us t no_more e s =
    text_stops u (decoded s f) c cs e ∙ ap (λ (v : List ℕ). let q : Decoded × List Cell = (decoded v f, c ∷ cs) in q) (sym (append-nil s))
reads_on u f rest us t (itself c vs v n a r) e s = character_on u s v f c (vs ++ rest) (vs ++ rest) rest c.0 n (plain_on c.0 (vs ++ rest) a) (reads_on u f rest vs v r e (s ++ c.0 ∷ []))
reads_on u f rest us t (by_reference c ws vs v x a n r) e s =
    ap (λ xs. text_from u (decoded s f) (c ∷ xs)) (append_assoc ws vs rest)
    ∙ character_on u s v f c (ws ++ (vs ++ rest)) (vs ++ rest) rest x (amp_goes_on u c.0 (ws ++ (vs ++ rest)) a) (referred_on c.0 x ws (vs ++ rest) a n) (reads_on u f rest vs v r e (s ++ x ∷ []))
reads_on u f rest us t (ampersand c vs v a n r) e s = character_on u s v f c (vs ++ rest) (vs ++ rest) rest 38 (amp_goes_on u c.0 (vs ++ rest) a) (alone_on c.0 (vs ++ rest) a (none_read (vs ++ rest) n)) (reads_on u f rest vs v r e (s ++ 38 ∷ []))

pub reads_run : (u : Until) (us rest : List Cell) (t : List ℕ) → Reads u rest us t → Ended u rest → text_run u (us ++ rest) ≡ (decoded t None, rest)
reads_run u us rest t r e = reads_on u None rest us t r e []
