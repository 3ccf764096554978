-- The first bad reference of a text.
use Rattle.std.proofs.Common.{◌≡◌, ◌<◌, ℕ, zero, suc, Bool, true, false, List, [], ◌∷◌, ◌++◌, length, refl, ap, ◌∙◌, sym, arith, inl, inr, append_assoc, append-nil}
use Rattle.std.specs.Prelude.{Option, None, Some, if◌then◌else◌, ◌==◌}
use Rattle.ng_base.specs.Cells.{Cell}
use Rattle.ng_base.proofs.Binds.{chosen, if_true}
use Rattle.ng_tags.specs.Free.{fault, met_or}
use Rattle.ng_tags.specs.References.{Read, reference, or_itself, character}
use Rattle.ng_tags.specs.Texts.{ends, decoded, no_text, with_character, text_within, text_from, text_run}
use Rattle.ng_tags.specs.Spelling.{Reads, no_more, itself, by_reference, ampersand}
use Rattle.ng_tags.specs.Refusals.{IsBadReference, BadAt}
use Rattle.ng_tags.specs.declared.fault.HtmlFault.{HtmlFault}
use Rattle.ng_tags.specs.declared.fault.HtmlKind.TheVariants as kind
use Rattle.ng_tags.specs.declared.texts.Decoded.{Decoded}
use Rattle.ng_tags.specs.declared.until.Until.{Until}
use Rattle.ng_tags.proofs.Runs.{is_code, code_is}
use Rattle.ng_tags.proofs.Shorter.{character_less}
use Rattle.ng_tags.proofs.TextTurns.{text_on}
use Rattle.ng_tags.proofs.ReferenceSound.{character_is, reference_is}
use Rattle.ng_tags.proofs.ReferenceComplete.{reference_on, plain_on, referred_on, alone_on}
use Rattle.ng_tags.proofs.NoReferences.{number_begins, number_refers, none_read}
use Rattle.ng_tags.proofs.TextSound.{one_read}
use Rattle.ng_tags.proofs.TextComplete.{amp_goes_on}

-- a fault stays
fault_stays : (k : ℕ) (u : Until) (d : Decoded) (cs : List Cell) (g : HtmlFault) → d.fault ≡ Some g → (text_within k u d cs).0.fault ≡ Some g
fault_stays zero u d cs g h = h
fault_stays (suc k) u d [] g h = h
fault_stays (suc k) u d (c ∷ cs) g h =
    let r = character c.0 cs in
    by_test (ends u c.0 cs) (fault_stays k u (with_character d c.1 r.0) r.1 g (with_stays r.0))
  where
    with_stays : (o : Option ℕ) → (with_character d c.1 o).fault ≡ Some g
    with_stays (Some x) = h
    with_stays None = ap (λ (f : Option HtmlFault). let q : Option HtmlFault = Some (met_or f (fault kind.BadReference c.1)) in q) h

    by_test : (b : Bool) → (text_within k u (with_character d c.1 (character c.0 cs).0) (character c.0 cs).1).0.fault ≡ Some g →
        (if b then (let q : Decoded × List Cell = (d, c ∷ cs) in q) else text_within k u (with_character d c.1 (character c.0 cs).0) (character c.0 cs).1).0.fault ≡ Some g
    by_test true i = h
    by_test false i = i

abbrev first_in : Option Read → Option ℕ → Option ℕ
first_in None o = o
first_in (Some r) o = r.0

-- a character that is refused is a bad reference
bad_itself : (cs rest : List Cell) (o : Option Read) → reference cs ≡ o → or_itself cs o ≡ (None, rest) → reference cs ≡ Some (None, rest)
bad_itself cs rest None e h = let f : Some 38 ≡ None = ap (λ (r : Read). r.0) h in absurd (cc (f))
bad_itself cs rest (Some r) e h = e ∙ ap Some h

bad_character : (c : Cell) (cs rest : List Cell) → character c.0 cs ≡ (None, rest) → (c.0 ≡ 38) × IsBadReference cs
bad_character c cs rest h =
    elim (chosen (c.0 == 38) (or_itself cs (reference cs)) (Some c.0, cs) (None, rest) h) [
      | inl g ↦
          let r = bad_itself cs rest (reference cs) refl g.1 in (
            is_code c.0 38 g.0,
            record {
              is_number = number_begins cs rest r;
              names_none = λ x vs more e n.
                  let s : Some (Some x, more) ≡ Some (None, rest) = sym (reference_on x vs more n) ∙ (ap reference (sym e) ∙ r) in
                  let t : Some x ≡ None = ap (λ (q : Option Read). first_in q None) s in
                  cc (t);
            },
          )
      | inr g ↦ let f : Some c.0 ≡ None = ap (λ (r : Read). r.0) g.1 in absurd (cc (f))
    ]

-- the first fault of a text is that of a bad reference
pub record FirstBad (u : Until) (f : HtmlFault) (cs : List Cell) : Type 0 where
  pub p : ℕ
  pub is_fault : f ≡ fault kind.BadReference p
  pub bad : BadAt u p cs

abbrev TextsBad : ℕ → Type 0
TextsBad k = (u : Until) (d : Decoded) (cs : List Cell) (f : HtmlFault) → length cs < k → d.fault ≡ None → (text_within k u d cs).0.fault ≡ Some f → FirstBad u f cs

abbrev fault_in : HtmlFault → Option HtmlFault → HtmlFault
fault_in g None = g
fault_in g (Some f) = f

none_bad : (u : Until) (d : Decoded) (f : HtmlFault) (cs : List Cell) → d.fault ≡ None → d.fault ≡ Some f → FirstBad u f cs
none_bad u d f cs h i = let e : None ≡ Some f = sym h ∙ i in absurd (cc (e))

one_bad : (k : ℕ) (u : Until) (d : Decoded) (c : Cell) (cs : List Cell) (f : HtmlFault) (o : Option ℕ) (more : List Cell) → TextsBad k → length more < k → character c.0 cs ≡ (o, more) → ends u c.0 cs ≡ false → d.fault ≡ None →
    (text_within k u (with_character d c.1 o) more).0.fault ≡ Some f → FirstBad u f (c ∷ cs)
one_bad k u d c cs f None more ih l e s n h =
    let b = bad_character c cs more e in
    let here = fault kind.BadReference c.1 in
    let with_it : (with_character d c.1 None).fault ≡ Some here = ap (λ (g : Option HtmlFault). let q : Option HtmlFault = Some (met_or g here) in q) n in
    let same : Some here ≡ Some f = sym (fault_stays k u (with_character d c.1 None) more here with_it) ∙ h in
    record {
      p = c.1;
      is_fault = sym (ap (fault_in here) same);
      bad = record { before = []; t = []; amp = c; behind = cs; whole = refl; reads = no_more; is_amp = b.0; place = refl; is_bad = b.1 };
    }
one_bad k u d c cs f (Some x) more ih l e s n h =
    let r = ih u (with_character d c.1 (Some x)) more f l n h in
    let b = r.bad in
    let one = one_read u d x b.before c cs more (b.amp ∷ b.behind) b.t (character_is c cs x more e) b.whole s b.reads in
    record {
      p = r.p;
      is_fault = r.is_fault;
      bad = record { before = one.0; t = x ∷ b.t; amp = b.amp; behind = b.behind; whole = one.1; reads = one.2; is_amp = b.is_amp; place = b.place; is_bad = b.is_bad };
    }

texts_bad : (k : ℕ) → TextsBad k
texts_bad zero u d cs f l n h = absurd (omega arith)
texts_bad (suc k) u d [] f l n h = none_bad u d f [] n h
texts_bad (suc k) u d (c ∷ cs) f l n h = by_test (texts_bad k) (ends u c.0 cs) refl h
  where
    by_test : TextsBad k → (b : Bool) → ends u c.0 cs ≡ b → (if b then (let q : Decoded × List Cell = (d, c ∷ cs) in q) else text_within k u (with_character d c.1 (character c.0 cs).0) (character c.0 cs).1).0.fault ≡ Some f → FirstBad u f (c ∷ cs)
    by_test ih true e i = none_bad u d f (c ∷ cs) n i
    by_test ih false e i =
        let less = character_less c.0 cs in
        one_bad k u d c cs f (character c.0 cs).0 (character c.0 cs).1 ih (omega (arith, less)) refl e n i

pub text_bad : (u : Until) (cs : List Cell) (f : HtmlFault) → (text_run u cs).0.fault ≡ Some f → FirstBad u f cs
text_bad u cs f h = texts_bad (suc (length cs)) u no_text cs f (omega arith) refl h

-- what reads as a text is passed by
past_character : (u : Until) (s t : List ℕ) (f : Option HtmlFault) (c : Cell) (cs more rest : List Cell) (x : ℕ) → ends u c.0 cs ≡ false → character c.0 cs ≡ (Some x, more) →
    text_from u (decoded (s ++ x ∷ []) f) more ≡ text_from u (decoded ((s ++ x ∷ []) ++ t) f) rest → text_from u (decoded s f) (c ∷ cs) ≡ text_from u (decoded (s ++ x ∷ t) f) rest
past_character u s t f c cs more rest x e h i =
    text_on u (decoded s f) c cs e
    ∙ (ap (λ (r : Read). text_from u (with_character (decoded s f) c.1 r.0) r.1) h
    ∙ (i ∙ ap (λ (v : List ℕ). text_from u (decoded v f) rest) (append_assoc s (x ∷ []) t)))

reads_past : (u : Until) (f : Option HtmlFault) (rest us : List Cell) (t : List ℕ) → Reads u rest us t → (s : List ℕ) → text_from u (decoded s f) (us ++ rest) ≡ text_from u (decoded (s ++ t) f) rest
reads_past u f rest us t no_more s = ap (λ (v : List ℕ). text_from u (decoded v f) rest) (sym (append-nil s))
reads_past u f rest us t (itself c vs v n a r) s = past_character u s v f c (vs ++ rest) (vs ++ rest) rest c.0 n (plain_on c.0 (vs ++ rest) a) (reads_past u f rest vs v r (s ++ c.0 ∷ []))
reads_past u f rest us t (by_reference c ws vs v x a n r) s =
    ap (λ xs. text_from u (decoded s f) (c ∷ xs)) (append_assoc ws vs rest)
    ∙ past_character u s v f c (ws ++ (vs ++ rest)) (vs ++ rest) rest x (amp_goes_on u c.0 (ws ++ (vs ++ rest)) a) (referred_on c.0 x ws (vs ++ rest) a n) (reads_past u f rest vs v r (s ++ x ∷ []))
reads_past u f rest us t (ampersand c vs v a n r) s = past_character u s v f c (vs ++ rest) (vs ++ rest) rest 38 (amp_goes_on u c.0 (vs ++ rest) a) (alone_on c.0 (vs ++ rest) a (none_read (vs ++ rest) n)) (reads_past u f rest vs v r (s ++ 38 ∷ []))

known_bad : (c : ℕ) (cs : List Cell) (r : Read) → c ≡ 38 → reference cs ≡ Some r → IsBadReference cs → (character c cs).0 ≡ None
known_bad c cs (None, rest) h e b = ap (λ (q : Read). q.0) (if_true (c == 38) (or_itself cs (reference cs)) (Some c, cs) (code_is c 38 h)) ∙ ap (λ (o : Option Read). (or_itself cs o).0) e
known_bad c cs (Some x, rest) h e b = let r = reference_is x cs rest e in absurd (b.names_none x r.us rest r.whole r.names)

-- a bad reference is the first fault of its text
pub bad_text : (u : Until) (p : ℕ) (cs : List Cell) → BadAt u p cs → (text_run u cs).0.fault ≡ Some (fault kind.BadReference p)
bad_text u p cs b =
    let c = b.amp in
    let d = decoded ([] ++ b.t) None in
    let refers = number_refers b.behind b.is_bad.is_number in
    let none : (character c.0 b.behind).0 ≡ None = known_bad c.0 b.behind refers.0 b.is_amp refers.1 b.is_bad in
    let more = (character c.0 b.behind).1 in
    let here = fault kind.BadReference c.1 in
    let on : text_run u cs ≡ text_from u (with_character d c.1 None) more =
    ap (text_run u) b.whole
    ∙ (reads_past u None (c ∷ b.behind) b.before b.t b.reads []
    ∙ (text_on u d c b.behind (amp_goes_on u c.0 b.behind b.is_amp)
    ∙ ap (λ (o : Option ℕ). text_from u (with_character d c.1 o) more) none)) in
    ap (λ (r : Decoded × List Cell). r.0.fault) on
    ∙ (fault_stays (suc (length more)) u (with_character d c.1 None) more here refl
    ∙ ap (λ (q : ℕ). let o : Option HtmlFault = Some (fault kind.BadReference q) in o) b.place)
