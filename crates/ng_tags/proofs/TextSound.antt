-- What is read as a text is spelled so.
use Rattle.std.proofs.Common.{◌≡◌, ◌<◌, ℕ, zero, suc, false, List, [], ◌∷◌, ◌++◌, length, refl, ap, ◌∙◌, sym, subst, arith, inl, inr, append_assoc, append-nil}
use Rattle.std.specs.Prelude.{Option, None, Some}
use Rattle.ng_base.specs.Cells.{Cell}
use Rattle.ng_base.proofs.Binds.{chosen}
use Rattle.ng_tags.specs.References.{character}
use Rattle.ng_tags.specs.Texts.{ends, with_character, text_within, text_from}
use Rattle.ng_tags.specs.Spelling.{Reads, no_more, itself, by_reference, ampersand, NoReference, Ended}
use Rattle.ng_tags.specs.declared.texts.Decoded.{Decoded}
use Rattle.ng_tags.specs.declared.until.Until.{Until}
use Rattle.ng_tags.proofs.Shorter.{character_less}
use Rattle.ng_tags.proofs.NoReferences.{none_spelled}
use Rattle.ng_tags.proofs.ReferenceSound.{CharacterRead, plain, referred, alone, character_is}

-- a text behind what was read
pub record TextRead (u : Until) (d e : Decoded) (cs rest : List Cell) : Type 0 where
  pub us : List Cell
  pub t : List ℕ
  pub whole : cs ≡ us ++ rest
  pub text : e.text ≡ d.text ++ t
  pub reads : Reads u rest us t
  pub ended : Ended u rest
  pub no_fault : d.fault ≡ None

nothing_read : (u : Until) (d e : Decoded) (cs rest : List Cell) → d ≡ e → cs ≡ rest → Ended u cs → e.fault ≡ None → TextRead u d e cs rest
nothing_read u d e cs rest h i s n = record {
  us = [];
  t = [];
  whole = i;
  text = sym (ap (λ (x : Decoded). x.text) h) ∙ sym (append-nil d.text);
  reads = no_more;
  ended = subst (Ended u) i s;
  no_fault = ap (λ (x : Decoded). x.fault) h ∙ n;
}

-- one character and a text
pub one_read : (u : Until) (d : Decoded) (x : ℕ) (us : List Cell) (c : Cell) (cs more rest : List Cell) (t : List ℕ) → CharacterRead c cs x more → more ≡ us ++ rest → ends u c.0 cs ≡ false → Reads u rest us t →
    (vs : List Cell) × (c ∷ cs ≡ vs ++ rest) × Reads u rest vs (x ∷ t)
one_read u d x us c cs more rest t (plain n) w e r =
    (c ∷ us, ap (λ xs. c ∷ xs) w, itself c us t (ap (ends u c.0) (sym w) ∙ e) n r)
one_read u d x us c cs more rest t (referred y ms i f) w e r =
    (c ∷ (f.us ++ us), ap (λ xs. c ∷ xs) (f.whole ∙ (ap (λ xs. f.us ++ xs) w ∙ sym (append_assoc f.us us rest))), by_reference c f.us us t x i f.names r)
one_read u d x us c cs more rest t (alone i n) w e r =
    (c ∷ us, ap (λ xs. c ∷ xs) w, ampersand c us t i (subst NoReference w (none_spelled cs n)) r)

abbrev TextsRead : ℕ → Type 0
TextsRead k = (u : Until) (d e : Decoded) (cs rest : List Cell) → length cs < k → text_within k u d cs ≡ (e, rest) → e.fault ≡ None → TextRead u d e cs rest

more_read : (k : ℕ) (u : Until) (d e : Decoded) (c : Cell) (cs rest : List Cell) (o : Option ℕ) (more : List Cell) → TextsRead k → length more < k → character c.0 cs ≡ (o, more) → ends u c.0 cs ≡ false →
    text_within k u (with_character d c.1 o) more ≡ (e, rest) → e.fault ≡ None → TextRead u d e (c ∷ cs) rest
more_read k u d e c cs rest None more ih l i s h n =
    let r = ih u (with_character d c.1 None) e more rest l h n in
    absurd (cc (r.no_fault))
more_read k u d e c cs rest (Some x) more ih l i s h n =
    let r = ih u (with_character d c.1 (Some x)) e more rest l h n in
    let one = one_read u d x r.us c cs more rest r.t (character_is c cs x more i) r.whole s r.reads in
    record {
      us = one.0;
      t = x ∷ r.t;
      whole = one.1;
      text = r.text ∙ append_assoc d.text (x ∷ []) r.t;
      reads = one.2;
      ended = r.ended;
      no_fault = r.no_fault;
    }

texts_read : (k : ℕ) → TextsRead k
texts_read zero u d e cs rest l h n = absurd (omega arith)
texts_read (suc k) u d e [] rest l h n = nothing_read u d e [] rest (ap (λ p. p.0) h) (ap (λ p. p.1) h) tt n
texts_read (suc k) u d e (c ∷ cs) rest l h n =
    let r = character c.0 cs in
    let less = character_less c.0 cs in
    elim (chosen (ends u c.0 cs) (d, c ∷ cs) (text_within k u (with_character d c.1 r.0) r.1) (e, rest) h) [
      | inl g ↦ nothing_read u d e (c ∷ cs) rest (ap (λ p. p.0) g.1) (ap (λ p. p.1) g.1) g.0 n
      | inr g ↦ more_read k u d e c cs rest r.0 r.1 (texts_read k) (omega (arith, less)) refl g.0 g.1 n
    ]

pub text_read : (u : Until) (d e : Decoded) (cs rest : List Cell) → text_from u d cs ≡ (e, rest) → e.fault ≡ None → TextRead u d e cs rest
text_read u d e cs rest h n = texts_read (suc (length cs)) u d e cs rest (omega arith) h n
