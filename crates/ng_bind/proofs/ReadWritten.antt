-- What is read is what is written, and the other way round.
use Rattle.std.proofs.Common.{◌≡◌, ℕ, Bool, true, false, List, [], ◌∷◌, ◌++◌, Option, Some, None, refl, ap, sym, ◌∙◌, subst, rules, append-nil, append_assoc, arith}
use Rattle.std.specs.Prelude.{◌≢◌, nat_eq, IsTrue, Result, Ok, Err, IfOk}
use Rattle.std.specs.List.{list_all}
use Rattle.std.proofs.lemmas.Bool.{and_parts, and_from, or_cases, eqb-true}
use Rattle.std.proofs.lemmas.Bool.Decides.{nat_tests}
use Rattle.ng_base.specs.Codes.{question_mark}
use Rattle.ng_language.specs.Letters.{is_space, is_in_name}
use Rattle.ng_language.specs.OneTime.{without_front}
use Rattle.ng_bind.specs.Written.{IsWritten, IsBlank, IsAlias, mark_of, optional_mark}
use Rattle.ng_base.specs.Meets.{Meets}
use Rattle.ng_bind.specs.Reading.{is_free, mode_at, mark_in, name_run, name_in, attr_of, ended, spec_named, spec_marked, spec_after, spec_of_mode, spec_at, spec_in}
use Rattle.ng_bind.specs.declared.spec.BindFault.{BindFault}
use Rattle.ng_bind.specs.declared.spec.BindFault.TheVariants.{BadBinding, Memory}
use Rattle.ng_bind.specs.declared.spec.BindMode.{BindMode}
use Rattle.ng_bind.specs.declared.spec.BindMode.TheVariants.{AtText, TwoWay, OneWay, Call}
use Rattle.ng_bind.specs.declared.spec.Spec.{Spec}

-- a character of white space is in no name, and one of a name is neither white space nor a question mark
space_apart : (c : ℕ) → is_space c ≡ true → is_in_name c ≡ false
space_apart c h = grind (arith, nat_tests)

name_apart : (c : ℕ) → is_in_name c ≡ true → is_space c ≡ false
name_apart c h = grind (arith, nat_tests)

name_unmarked : (c : ℕ) → is_in_name c ≡ true → nat_eq c question_mark ≡ false
name_unmarked c h = grind (arith, nat_tests)

-- Written is read.

-- white space in front is passed over
past_blank : (w x : List ℕ) → IsBlank w → without_front (w ++ x) ≡ without_front x
past_blank [] x h = refl
past_blank (c ∷ w) x h = let both = and_parts (is_space c) (list_all is_space w) h in rw both.0 (past_blank w x both.1)

blank_gone : (w : List ℕ) → IsBlank w → without_front w ≡ []
blank_gone w h = ap without_front (sym (append-nil w)) ∙ past_blank w [] h

-- a name is read whole, up to white space or the end
name_before : (done name after : List ℕ) → list_all is_in_name name ≡ true → IsBlank after → name_run done (name ++ after) ≡ (done ++ name, after)
name_before done [] [] h b = rw append-nil refl
name_before done [] (c ∷ cs) h b = let apart = space_apart c (and_parts (is_space c) (list_all is_space cs) b).0 in rw (apart, append-nil) refl
name_before done (c ∷ name) after h b =
    let both = and_parts (is_in_name c) (list_all is_in_name name) h in
    rw both.0 (name_before (done ++ c ∷ []) name after both.1 b ∙ ap (λ (xs : List ℕ). (xs, after)) (append_assoc done (c ∷ []) name))

-- what stands after the marks is read as its name
alias_read : (mode : BindMode) (optional : Bool) (attr : Option (List ℕ)) (name after : List ℕ) → IsAlias attr name → IsBlank after → spec_named mode optional (name_in (without_front (name ++ after))) ≡ Ok (record { mode = mode; optional = optional; attr = attr })
alias_read mode optional None name after a b = rw (a, blank_gone after b) refl
alias_read mode optional (Some []) name after a b = absurd (a.1 refl)
alias_read mode optional (Some (c ∷ cs)) name after a b =
    let both = and_parts (is_in_name c) (list_all is_in_name cs) a.2 in
    rw (a.0, name_apart c both.0, name_before [] (c ∷ cs) after a.2 b, blank_gone after b) refl

-- no question mark stands before a name
alias_unmarked : (attr : Option (List ℕ)) (name after : List ℕ) → IsAlias attr name → IsBlank after → mark_in (without_front (name ++ after)) ≡ (false, without_front (name ++ after))
alias_unmarked None name after a b = rw (a, blank_gone after b) refl
alias_unmarked (Some []) name after a b = absurd (a.1 refl)
alias_unmarked (Some (c ∷ cs)) name after a b =
    let both = and_parts (is_in_name c) (list_all is_in_name cs) a.2 in
    rw (a.0, name_apart c both.0, name_unmarked c both.0) refl

marks_read : (mode : BindMode) (optional : Bool) (attr : Option (List ℕ)) (w v name after : List ℕ) → IsBlank w → IsBlank v → IsAlias attr name → IsBlank after → spec_after mode (w ++ (optional_mark optional ++ (v ++ (name ++ after)))) ≡ Ok (record { mode = mode; optional = optional; attr = attr })
marks_read mode true attr w v name after h k a b = rw (past_blank w (question_mark ∷ (v ++ (name ++ after))) h, past_blank v (name ++ after) k) (alias_read mode true attr name after a b)
marks_read mode false attr w v name after h k a b = rw (past_blank w (v ++ (name ++ after)) h, past_blank v (name ++ after) k, alias_unmarked attr name after a b) (alias_read mode false attr name after a b)

mode_read : (mode : BindMode) (w rest : List ℕ) → IsBlank w → spec_in (w ++ mark_of mode ∷ rest) ≡ spec_after mode rest
mode_read AtText w rest h = rw (past_blank w (mark_of AtText ∷ rest) h) refl
mode_read TwoWay w rest h = rw (past_blank w (mark_of TwoWay ∷ rest) h) refl
mode_read OneWay w rest h = rw (past_blank w (mark_of OneWay ∷ rest) h) refl
mode_read Call w rest h = rw (past_blank w (mark_of Call ∷ rest) h) refl

-- a binding is read as it is written
pub written_read : (text : List ℕ) (s : Spec) → IsWritten text s → spec_in text ≡ Ok s
written_read text s i = ap spec_in i.whole ∙ mode_read s.mode i.before _ i.blank_before ∙ marks_read s.mode s.optional s.attr i.after_mode i.after_mark i.name i.after i.blank_after_mode i.blank_after_mark i.alias i.blank_after

-- Read is written.

-- the white space in front of a text
record Front (cs : List ℕ) : Type 0 where
  blank : List ℕ
  is : cs ≡ blank ++ without_front cs
  spaces : IsBlank blank

front_of : (c : ℕ) (cs : List ℕ) (b : Bool) → is_space c ≡ b → Front cs → Front (c ∷ cs)
front_of c cs true e f = record { blank = c ∷ f.blank; is = rw e (ap (λ (xs : List ℕ). c ∷ xs) f.is); spaces = and_from (is_space c) (list_all is_space f.blank) e f.spaces }
front_of c cs false e f = record { blank = []; is = rw e refl; spaces = refl }

front : (cs : List ℕ) → Front cs
front [] = record { blank = []; is = refl; spaces = refl }
front (c ∷ cs) = front_of c cs (is_space c) refl (front cs)

-- a text of which nothing is left is blank
gone_blank : (cs : List ℕ) → without_front cs ≡ [] → IsBlank cs
gone_blank cs e = let f = front cs in let whole : cs ≡ f.blank = f.is ∙ ap (λ (xs : List ℕ). f.blank ++ xs) e ∙ append-nil f.blank in rw whole f.spaces

-- the name in front of a text
record Named (done cs : List ℕ) : Type 0 where
  name : List ℕ
  read : (name_run done cs).0 ≡ done ++ name
  is : cs ≡ name ++ (name_run done cs).1
  letters : list_all is_in_name name ≡ true

named_of : (done : List ℕ) (c : ℕ) (cs : List ℕ) (b : Bool) → is_in_name c ≡ b → Named (done ++ c ∷ []) cs → Named done (c ∷ cs)
named_of done c cs true e n = record { name = c ∷ n.name; read = rw e (n.read ∙ append_assoc done (c ∷ []) n.name); is = rw e (ap (λ (xs : List ℕ). c ∷ xs) n.is); letters = and_from (is_in_name c) (list_all is_in_name n.name) e n.letters }
named_of done c cs false e n = record { name = []; read = rw (e, append-nil) refl; is = rw e refl; letters = refl }

named : (done cs : List ℕ) → Named done cs
named done [] = record { name = []; read = sym (append-nil done); is = refl; letters = refl }
named done (c ∷ cs) = named_of done c cs (is_in_name c) refl (named (done ++ c ∷ []) cs)

ended_ok : (cs : List ℕ) (r s : Spec) → ended cs r ≡ Ok s → (cs ≡ []) × (r ≡ s)
ended_ok [] r s e = (refl, cc)
ended_ok (c ∷ cs) r s e = absurd (cc)

attr_alias : (name : List ℕ) → list_all is_in_name name ≡ true → IsAlias (attr_of name) name
attr_alias [] h = refl
attr_alias (c ∷ cs) h = (refl, λ e. (cc), h)

-- whether a question mark stands next: what stands there is a mark and white space
record Marked (cs : List ℕ) : Type 0 where
  blank : List ℕ
  is : cs ≡ optional_mark (mark_in cs).0 ++ (blank ++ (mark_in cs).1)
  spaces : IsBlank blank

marked_of : (c : ℕ) (cs : List ℕ) (b : Bool) → nat_eq c question_mark ≡ b → Marked (c ∷ cs)
marked_of c cs true e = let f = front cs in let same : c ≡ question_mark = eqb-true c question_mark e in record { blank = f.blank; is = rw (e, same) (ap (λ (xs : List ℕ). question_mark ∷ xs) f.is); spaces = f.spaces }
marked_of c cs false e = record { blank = []; is = rw e refl; spaces = refl }

marked : (cs : List ℕ) → Marked cs
marked [] = record { blank = []; is = refl; spaces = refl }
marked (c ∷ cs) = marked_of c cs (nat_eq c question_mark) refl

-- a mode is read from its mark
mode_mark : (c : ℕ) (mode : BindMode) → mode_at c ≡ Some mode → c ≡ mark_of mode
mode_mark c mode e = by_at (nat_eq c 64) refl (nat_eq c 61) refl (nat_eq c 60) refl (nat_eq c 38) refl
  where
    by_at : (k : Bool) → nat_eq c 64 ≡ k → (l : Bool) → nat_eq c 61 ≡ l → (m : Bool) → nat_eq c 60 ≡ m → (n : Bool) → nat_eq c 38 ≡ n → c ≡ mark_of mode
    by_at true t l u m v n w = let x = rw t at e in let y : AtText ≡ mode = cc in eqb-true c 64 t ∙ ap mark_of y
    by_at false t true u m v n w = let x = rw (t, u) at e in let y : TwoWay ≡ mode = cc in eqb-true c 61 u ∙ ap mark_of y
    by_at false t false u true v n w = let x = rw (t, u, v) at e in let y : OneWay ≡ mode = cc in eqb-true c 60 v ∙ ap mark_of y
    by_at false t false u false v true w = let x = rw (t, u, v, w) at e in let y : Call ≡ mode = cc in eqb-true c 38 w ∙ ap mark_of y
    by_at false t false u false v false w = let x = rw (t, u, v, w) at e in absurd (cc)

after_written : (before : List ℕ) (mode : BindMode) (cs : List ℕ) (s : Spec) → IsBlank before → spec_after mode cs ≡ Ok s → IsWritten (before ++ mark_of mode ∷ cs) s
after_written before mode cs s h e =
    let f = front cs in
    let m = marked (without_front cs) in
    let n = named [] (mark_in (without_front cs)).1 in
    let r = name_in (mark_in (without_front cs)).1 in
    let ok = ended_ok (without_front r.1) (record { mode = mode; optional = (mark_in (without_front cs)).0; attr = attr_of r.0 }) s e in
    let whole : cs ≡ f.blank ++ (optional_mark (mark_in (without_front cs)).0 ++ (m.blank ++ (n.name ++ r.1))) = f.is ∙ ap (λ (xs : List ℕ). f.blank ++ xs) (m.is ∙ ap (λ (xs : List ℕ). optional_mark (mark_in (without_front cs)).0 ++ (m.blank ++ xs)) n.is) in
    let P : Spec → Type 0 = λ x. IsWritten (before ++ mark_of mode ∷ cs) x in
    subst P ok.1 (record {
      before = before;
      after_mode = f.blank;
      after_mark = m.blank;
      name = n.name;
      after = r.1;
      whole = ap (λ (xs : List ℕ). before ++ mark_of mode ∷ xs) whole;
      alias = rw n.read (attr_alias n.name n.letters);
      blank_before = h;
      blank_after_mode = f.spaces;
      blank_after_mark = m.spaces;
      blank_after = gone_blank r.1 ok.0;
    })

at_written : (before : List ℕ) (c : ℕ) (cs : List ℕ) (s : Spec) (o : Option BindMode) → mode_at c ≡ o → IsBlank before → spec_of_mode o cs ≡ Ok s → IsWritten (before ++ c ∷ cs) s
at_written before c cs s None m h e = absurd (cc)
at_written before c cs s (Some mode) m h e = rw (mode_mark c mode m) (after_written before mode cs s h e)

front_written : (before cs : List ℕ) (s : Spec) → IsBlank before → spec_at cs ≡ Ok s → IsWritten (before ++ cs) s
front_written before [] s h e = absurd (cc)
front_written before (c ∷ cs) s h e = at_written before c cs s (mode_at c) refl h e

-- what is read is a binding
pub read_written : (text : List ℕ) (s : Spec) → spec_in text ≡ Ok s → IsWritten text s
read_written text s e = let f = front text in rw f.is (front_written f.blank (without_front text) s f.spaces e)

-- The same of an answer.

pub answer_written : (text cs : List ℕ) (r : Result Spec BindFault) → cs ≡ text → Meets is_free (spec_in cs) r → IfOk r (IsWritten text)
answer_written text cs (Ok s) e m = read_written text s (ap spec_in (sym e) ∙ m)
answer_written text cs (Err f) e m = tt

pub answer_read : (text cs : List ℕ) (r : Result Spec BindFault) → cs ≡ text → Meets is_free (spec_in cs) r → (s : Spec) → IsWritten text s → Meets is_free (Ok s) r
answer_read text cs r e m s i = let P : Result Spec BindFault → Type 0 = λ a. Meets is_free a r in subst P (ap spec_in e ∙ written_read text s i) m

pub answer_refused : (text cs : List ℕ) (r : Result Spec BindFault) → cs ≡ text → Meets is_free (spec_in cs) r → ((s : Spec) → IsWritten text s → ⊥) → Meets is_free (Err BadBinding) r
answer_refused text cs (Ok s) e m none = absurd (none s (answer_written text cs (Ok s) e m))
answer_refused text cs (Err BadBinding) e m none = λ h. refl
answer_refused text cs (Err (Memory x)) e m none = λ h. absurd (cc)
