-- One character of a text more.
use Rattle.std.proofs.Common.{◌≡◌, ◌<◌, ℕ, zero, suc, Bool, true, false, List, [], ◌∷◌, length, refl, ap, ◌∙◌, arith}
use Rattle.std.specs.Prelude.{◌&&◌, ◌==◌, ◌++◌, not, Some, is_some, if◌then◌else◌}
use Rattle.ng_base.specs.Cells.{Cell}
use Rattle.ng_base.proofs.Binds.{if_true, if_false}
use Rattle.ng_tags.specs.References.{character, Read, or_itself, reference}
use Rattle.ng_tags.specs.Texts.{ends, may_end, goes_on, tag_follows, past_end_tag, decoded, with_character, text_within, text_from}
use Rattle.ng_tags.specs.declared.texts.Decoded.{Decoded}
use Rattle.ng_tags.specs.declared.until.Until.{Until}
use Rattle.ng_tags.specs.declared.until.Until.TheVariants as until
use Rattle.ng_tags.proofs.Shorter.{character_less}

pub same_if : {A : Type 0} (b : Bool) (x y z : A) → (b ≡ false → y ≡ z) → (if b then x else y) ≡ (if b then x else z)
same_if true x y z f = refl
same_if false x y z f = f refl

-- any room for what is left is enough
pub same_room : (k j : ℕ) (u : Until) (d : Decoded) (cs : List Cell) → length cs < k → length cs < j → text_within k u d cs ≡ text_within j u d cs
same_room zero j u d cs h i = absurd (omega arith)
same_room (suc k) zero u d cs h i = absurd (omega arith)
same_room (suc k) (suc j) u d [] h i = refl
same_room (suc k) (suc j) u d (c ∷ cs) h i =
    let r = character c.0 cs in
    let less = character_less c.0 cs in
    same_if (ends u c.0 cs) (d, c ∷ cs) (text_within k u (with_character d c.1 r.0) r.1) (text_within j u (with_character d c.1 r.0) r.1)
    (λ e. same_room k j u (with_character d c.1 r.0) r.1 (omega (arith, less)) (omega (arith, less)))

pub text_on : (u : Until) (d : Decoded) (c : Cell) (cs : List Cell) → ends u c.0 cs ≡ false → text_from u d (c ∷ cs) ≡ text_from u (with_character d c.1 (character c.0 cs).0) (character c.0 cs).1
text_on u d c cs h =
    let r = character c.0 cs in
    let less = character_less c.0 cs in
    if_false (ends u c.0 cs) (d, c ∷ cs) (text_within (suc (length cs)) u (with_character d c.1 r.0) r.1) h
    ∙ same_room (suc (length cs)) (suc (length r.1)) u (with_character d c.1 r.0) r.1 (omega (arith, less)) (omega arith)

pub text_stops : (u : Until) (d : Decoded) (c : Cell) (cs : List Cell) → ends u c.0 cs ≡ true → text_from u d (c ∷ cs) ≡ (d, c ∷ cs)
text_stops u d c cs h =
    let r = character c.0 cs in
    if_true (ends u c.0 cs) (d, c ∷ cs) (text_within (suc (length cs)) u (with_character d c.1 r.0) r.1) h

not_ended : (u : Until) (c : ℕ) (cs : List Cell) → may_end u c ≡ false → ends u c cs ≡ false
not_ended until.Tag c cs h = ap (λ b. b && tag_follows cs) h
not_ended until.Double c cs h = h
not_ended until.Single c cs h = h
not_ended until.Space c cs h = h
not_ended (until.EndTag n) c cs h = ap (λ b. b && is_some (past_end_tag n cs)) h

neither : (a b : Bool) → (not a && not b) ≡ true → (a ≡ false) × (b ≡ false)
neither true b h = absurd (cc)
neither false true h = absurd (cc)
neither false false h = (refl, refl)

-- a character that stands for itself
pub text_goes_on : (u : Until) (d : Decoded) (c : Cell) (cs : List Cell) → goes_on u c.0 ≡ true → text_from u d (c ∷ cs) ≡ text_from u (decoded (d.text ++ c.0 ∷ []) d.fault) cs
text_goes_on u d c cs h =
    let apart = neither (c.0 == 38) (may_end u c.0) h in
    text_on u d c cs (not_ended u c.0 cs apart.1)
    ∙ ap (λ (r : Read). text_from u (with_character d c.1 r.0) r.1) (if_false (c.0 == 38) (or_itself cs (reference cs)) (Some c.0, cs) apart.0)

pub ruleset text_turns = (text_on, text_stops, text_goes_on, character_less)
