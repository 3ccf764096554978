-- What is read from a script is spelled so, what is spelled so is read, and the refusal is that of the first line that is refused.
use Rattle.std.proofs.Common.{◌≡◌, ◌≤◌, ◌<◌, ◌+◌, ◌⊎◌, inl, inr, length, arith, ℕ, nat_le, Bool, true, false, List, [], ◌∷◌, ◌++◌, ap, sym, ◌∙◌, refl, subst, if◌then◌else◌, append_assoc, append-nil, length-append}
use Rattle.std.proofs.lemmas.Bool.Decides.{nat_tests}
use Rattle.std.specs.Prelude.{Result, Ok, Err}
use Rattle.std.specs.Str.{chars, IsUtf8, is_utf8}
use Rattle.std.proofs.lemmas.Str.{is_utf8-from_IsUtf8, IsUtf8-from_is_utf8}
use Rattle.ng_base.specs.Meets.{◌>>=◌}
use Rattle.ng_base.proofs.Binds.{bind_ok, bind_err, if_true, if_false}
use Rattle.ng_script.specs.Acts.{Act, Entry}
use Rattle.ng_script.specs.Commanding.{command_of}
use Rattle.ng_script.specs.Lines.{trimmed, lines}
use Rattle.ng_script.specs.Readings.{AreCommands, IsScript, RefusesLine, Refuses}
use Rattle.ng_script.specs.Scripts.{most, fault, is_skipped, entry, in_line, with_line, commands_from, ill_formed_line, script_of}
use Rattle.ng_script.specs.Spelling.{Spells}
use Rattle.ng_script.specs.declared.fault.ScriptFault.{ScriptFault}
use Rattle.ng_script.specs.declared.fault.ScriptKind.{ScriptKind}
use Rattle.ng_script.specs.declared.fault.ScriptKind.TheVariants as kinds
use Rattle.ng_script.proofs.CommandLaws.{command_is, command_read}
use Rattle.ng_script.proofs.ScriptBytes.{text_read, no_text_read}
use Rattle.ng_script.proofs.Trimmed.{stands}

abbrev Answer : Type 0
Answer = Result (List Entry) ScriptFault

answers_same : (x y : List Entry) → (let r : Answer = Ok x in r) ≡ Ok y → x ≡ y
answers_same x y e = cc

faults_same : (f g : ScriptFault) → (let r : Answer = Err f in r) ≡ Err g → f ≡ g
faults_same f g e = cc

is_full : (n m : ℕ) → nat_le m n ≡ true → m ≤ n
is_full n m h = grind (arith, nat_tests)

is_free_yet : (n m : ℕ) → nat_le m n ≡ false → n < m
is_free_yet n m h = grind (arith, nat_tests)

free_yet : (n m : ℕ) → n < m → nat_le m n ≡ false
free_yet n m h = grind (arith, nat_tests)

full : (n m : ℕ) → n ≡ m → nat_le m n ≡ true
full n m h = grind (arith, nat_tests)

abbrev placed : ℕ → List Entry → List ℕ → Result Act ScriptKind → Answer
placed n done t r = in_line n r >>= λ a. Ok (done ++ entry n t a ∷ [])

-- a line more
abbrev Taken : ℕ → List Entry → List ℕ → List Entry → Type 0
Taken n done t x =
    ((is_skipped t ≡ true) × (x ≡ done))
    ⊎ ((is_skipped t ≡ false) × (a : Act) × (x ≡ done ++ entry n t a ∷ []) × (command_of t ≡ Ok a) × (length done < most))

placed_ok : (n : ℕ) (done : List Entry) (t : List ℕ) (x : List Entry) (r : Result Act ScriptKind) → placed n done t r ≡ Ok x → (a : Act) × (x ≡ done ++ entry n t a ∷ []) × (r ≡ Ok a)
placed_ok n done t x (Ok a) h = (a, sym (answers_same (done ++ entry n t a ∷ []) x h), refl)
placed_ok n done t x (Err k) h = absurd (cc)

taken_by : (n : ℕ) (done : List Entry) (t : List ℕ) (x : List Entry) (b k : Bool) → is_skipped t ≡ b → nat_le most (length done) ≡ k
    → (if b then Ok done else if k then Err (fault n kinds.TooMany) else placed n done t (command_of t)) ≡ Ok x → Taken n done t x
taken_by n done t x true k e f h = inl (e, sym (answers_same done x h))
taken_by n done t x false true e f h = absurd (cc)
taken_by n done t x false false e f h = let p = placed_ok n done t x (command_of t) h in inr (e, p.0, p.1, p.2, is_free_yet (length done) most f)

taken : (n : ℕ) (done : List Entry) (t : List ℕ) (x : List Entry) → with_line n done t ≡ Ok x → Taken n done t x
taken n done t x h = taken_by n done t x (is_skipped t) (nat_le most (length done)) refl refl h

-- the commands of lines, after those that were read
abbrev Found : ℕ → List Entry → List (List ℕ) → List Entry → Type 0
Found n done ls es = (fs : List Entry) × (es ≡ done ++ fs) × AreCommands n fs ls × (length es ≤ most)

found_line : (n : ℕ) (done : List Entry) (l : List ℕ) (ls : List (List ℕ)) (x es : List Entry) → Taken (n + 1) done (trimmed l) x → Found (n + 1) x ls es → Found n done (l ∷ ls) es
found_line n done l ls x es (inl t) f = (f.0, f.1 ∙ ap (λ (y : List Entry). y ++ f.0) t.1, inl (t.0, f.2), f.3)
found_line n done l ls x es (inr t) f =
    let e = entry (n + 1) (trimmed l) t.1 in (
      e ∷ f.0,
      f.1 ∙ (ap (λ (y : List Entry). y ++ f.0) t.2 ∙ append_assoc done (e ∷ []) f.0),
      inr (t.0, t.1, f.0, refl, command_is (trimmed l) t.1 (stands l t.0) t.3, f.2),
      f.3,
    )

grown : (n : ℕ) (done : List Entry) (t : List ℕ) (x : List Entry) → length done ≤ most → Taken n done t x → length x ≤ most
grown n done t x h (inl k) = omega (arith, h, ap length k.1)
grown n done t x h (inr k) = omega (arith, k.4, ap length k.2, length-append done (entry n t k.1 ∷ []))

found_from : (n : ℕ) (done : List Entry) (ls : List (List ℕ)) (es : List Entry) → length done ≤ most → commands_from n done ls ≡ Ok es → Found n done ls es
found_from n done [] es h e =
    let s = answers_same done es e in
    ([], sym s ∙ sym (append-nil done), refl, omega (arith, h, ap length s))
found_from n done (l ∷ ls) es h e =
    let f : List Entry → Answer = λ xs. commands_from (n + 1) xs ls in
    let b = bind_ok (with_line (n + 1) done (trimmed l)) f es e in
    let t = taken (n + 1) done (trimmed l) b.0 b.1 in
    found_line n done l ls b.0 es t (found_from (n + 1) b.0 ls es (grown (n + 1) done (trimmed l) b.0 h t) b.2)

-- reading on after lines that are commands
skip_line : (n : ℕ) (done : List Entry) (t : List ℕ) → is_skipped t ≡ true → with_line n done t ≡ Ok done
skip_line n done t h = if_true (is_skipped t) (Ok done) (if nat_le most (length done) then Err (fault n kinds.TooMany) else placed n done t (command_of t)) h

add_line : (n : ℕ) (done : List Entry) (t : List ℕ) (a : Act) → is_skipped t ≡ false → length done < most → Spells a t → with_line n done t ≡ Ok (done ++ entry n t a ∷ [])
add_line n done t a h l s =
    if_false (is_skipped t) (Ok done) (if nat_le most (length done) then Err (fault n kinds.TooMany) else placed n done t (command_of t)) h
    ∙ (if_false (nat_le most (length done)) (Err (fault n kinds.TooMany)) (placed n done t (command_of t)) (free_yet (length done) most l)
    ∙ ap (placed n done t) (command_read a t s))

read_on : (n : ℕ) (done fs : List Entry) (ls more : List (List ℕ)) → AreCommands n fs ls → length (done ++ fs) ≤ most → commands_from n done (ls ++ more) ≡ commands_from (n + length ls) (done ++ fs) more
read_on n done fs [] more r h =
    let e : done ≡ done ++ fs = sym (append-nil done) ∙ ap (λ (y : List Entry). done ++ y) (sym r) in
    let z : n ≡ n + 0 = omega arith in
    ap (λ (y : List Entry). commands_from n y more) e ∙ ap (λ (k : ℕ). commands_from k (done ++ fs) more) z
read_on n done fs (l ∷ ls) more (inl r) h =
    let f : List Entry → Answer = λ xs. commands_from (n + 1) xs (ls ++ more) in
    let z : n + 1 + length ls ≡ n + length (l ∷ ls) = omega arith in
    ap (λ (x : Answer). x >>= f) (skip_line (n + 1) done (trimmed l) r.0)
    ∙ (read_on (n + 1) done fs ls more r.1 h ∙ ap (λ (k : ℕ). commands_from k (done ++ fs) more) z)
read_on n done fs (l ∷ ls) more (inr r) h =
    let e = entry (n + 1) (trimmed l) r.1 in
    let f : List Entry → Answer = λ xs. commands_from (n + 1) xs (ls ++ more) in
    let whole : (done ++ e ∷ []) ++ r.2 ≡ done ++ fs = append_assoc done (e ∷ []) r.2 ∙ ap (λ (y : List Entry). done ++ y) (sym r.3) in
    let room : length done < most = omega (arith, h, length-append done fs, ap length r.3) in
    let z : n + 1 + length ls ≡ n + length (l ∷ ls) = omega arith in
    ap (λ (x : Answer). x >>= f) (add_line (n + 1) done (trimmed l) r.1 r.0 room r.4)
    ∙ (read_on (n + 1) (done ++ e ∷ []) r.2 ls more r.5 (subst (λ (y : List Entry). length y ≤ most) (sym whole) h)
    ∙ (ap (λ (y : List Entry). commands_from (n + 1 + length ls) y more) whole ∙ ap (λ (k : ℕ). commands_from k (done ++ fs) more) z))

-- a line that is refused
abbrev Wrong : ℕ → List Entry → List ℕ → ScriptFault → Type 0
Wrong n done t f = (is_skipped t ≡ false) × (k : ScriptKind) × (f ≡ fault n k) × RefusesLine (length done) t k

placed_err : (n : ℕ) (done : List Entry) (t : List ℕ) (f : ScriptFault) (r : Result Act ScriptKind) → placed n done t r ≡ Err f → (k : ScriptKind) × (f ≡ fault n k) × (r ≡ Err k)
placed_err n done t f (Ok a) h = absurd (cc)
placed_err n done t f (Err k) h = (k, sym (faults_same (fault n k) f h), refl)

no_spelling : (t : List ℕ) (k : ScriptKind) → command_of t ≡ Err k → (a : Act) → Spells a t → ⊥
no_spelling t k h a s = let e = command_read a t s in cc

wrong_by : (n : ℕ) (done : List Entry) (t : List ℕ) (f : ScriptFault) (b k : Bool) → is_skipped t ≡ b → nat_le most (length done) ≡ k → length done ≤ most
    → (if b then Ok done else if k then Err (fault n kinds.TooMany) else placed n done t (command_of t)) ≡ Err f → Wrong n done t f
wrong_by n done t f true k e g l h = absurd (cc)
wrong_by n done t f false true e g l h = (e, kinds.TooMany, sym (faults_same (fault n kinds.TooMany) f h), inl (omega (arith, l, is_full (length done) most g), refl))
wrong_by n done t f false false e g l h =
    let p = placed_err n done t f (command_of t) h in
    (e, p.0, p.1, inr (is_free_yet (length done) most g, no_spelling t p.0 p.2, p.2))

wrong : (n : ℕ) (done : List Entry) (t : List ℕ) (f : ScriptFault) → length done ≤ most → with_line n done t ≡ Err f → Wrong n done t f
wrong n done t f l h = wrong_by n done t f (is_skipped t) (nat_le most (length done)) refl refl l h

pub record WrongAt (n : ℕ) (done : List Entry) (ls : List (List ℕ)) (f : ScriptFault) : Type 0 where
  pub before : List (List ℕ)
  pub line : List ℕ
  pub after : List (List ℕ)
  pub commands : List Entry
  pub kind : ScriptKind
  pub whole : ls ≡ before ++ line ∷ after
  pub read : AreCommands n commands before
  pub few : length (done ++ commands) ≤ most
  pub stands : is_skipped (trimmed line) ≡ false
  pub refused : RefusesLine (length (done ++ commands)) (trimmed line) kind
  pub is : f ≡ fault (n + length before + 1) kind

wrong_later : (n : ℕ) (done : List Entry) (l : List ℕ) (ls : List (List ℕ)) (x : List Entry) (f : ScriptFault) → Taken (n + 1) done (trimmed l) x → WrongAt (n + 1) x ls f → WrongAt n done (l ∷ ls) f
wrong_later n done l ls x f (inl t) w =
    let z : n + 1 + length w.before + 1 ≡ n + length (l ∷ w.before) + 1 = omega arith in
    let same : x ++ w.commands ≡ done ++ w.commands = ap (λ (y : List Entry). y ++ w.commands) t.1 in
    record {
      before = l ∷ w.before;
      line = w.line;
      after = w.after;
      commands = w.commands;
      kind = w.kind;
      whole = ap (λ (y : List (List ℕ)). l ∷ y) w.whole;
      read = inl (t.0, w.read);
      few = subst (λ (y : List Entry). length y ≤ most) same w.few;
      stands = w.stands;
      refused = subst (λ (y : List Entry). RefusesLine (length y) (trimmed w.line) w.kind) same w.refused;
      is = w.is ∙ ap (λ (m : ℕ). fault m w.kind) z;
    }
wrong_later n done l ls x f (inr t) w =
    let e = entry (n + 1) (trimmed l) t.1 in
    let z : n + 1 + length w.before + 1 ≡ n + length (l ∷ w.before) + 1 = omega arith in
    let same : x ++ w.commands ≡ done ++ e ∷ w.commands = ap (λ (y : List Entry). y ++ w.commands) t.2 ∙ append_assoc done (e ∷ []) w.commands in
    record {
      before = l ∷ w.before;
      line = w.line;
      after = w.after;
      commands = e ∷ w.commands;
      kind = w.kind;
      whole = ap (λ (y : List (List ℕ)). l ∷ y) w.whole;
      read = inr (t.0, t.1, w.commands, refl, command_is (trimmed l) t.1 (stands l t.0) t.3, w.read);
      few = subst (λ (y : List Entry). length y ≤ most) same w.few;
      stands = w.stands;
      refused = subst (λ (y : List Entry). RefusesLine (length y) (trimmed w.line) w.kind) same w.refused;
      is = w.is ∙ ap (λ (m : ℕ). fault m w.kind) z;
    }

wrong_here : (n : ℕ) (done : List Entry) (l : List ℕ) (ls : List (List ℕ)) (f : ScriptFault) → length done ≤ most → Wrong (n + 1) done (trimmed l) f → WrongAt n done (l ∷ ls) f
wrong_here n done l ls f h w =
    let same : done ≡ done ++ [] = sym (append-nil done) in
    let z : n + 1 ≡ n + 0 + 1 = omega arith in
    record {
      before = [];
      line = l;
      after = ls;
      commands = [];
      kind = w.1;
      whole = refl;
      read = refl;
      few = subst (λ (y : List Entry). length y ≤ most) same h;
      stands = w.0;
      refused = subst (λ (y : List Entry). RefusesLine (length y) (trimmed l) w.1) same w.3;
      is = w.2 ∙ ap (λ (m : ℕ). fault m w.1) z;
    }

wrong_from : (n : ℕ) (done : List Entry) (ls : List (List ℕ)) (f : ScriptFault) → length done ≤ most → commands_from n done ls ≡ Err f → WrongAt n done ls f
wrong_from n done [] f h e = absurd (cc)
wrong_from n done (l ∷ ls) f h e =
    let g : List Entry → Answer = λ xs. commands_from (n + 1) xs ls in
    by (bind_err (with_line (n + 1) done (trimmed l)) g f e) (λ x k b. wrong_from (n + 1) x ls f k b)
  where
    by : ((with_line (n + 1) done (trimmed l) ≡ Err f) ⊎ ((x : List Entry) × (with_line (n + 1) done (trimmed l) ≡ Ok x) × (commands_from (n + 1) x ls ≡ Err f)))
        → ((x : List Entry) → length x ≤ most → commands_from (n + 1) x ls ≡ Err f → WrongAt (n + 1) x ls f) → WrongAt n done (l ∷ ls) f
    by (inl w) later = wrong_here n done l ls f h (wrong (n + 1) done (trimmed l) f h w)
    by (inr b) later =
        let t = taken (n + 1) done (trimmed l) b.0 b.1 in
        wrong_later n done l ls b.0 f t (later b.0 (grown (n + 1) done (trimmed l) b.0 h t) b.2)

refuse_line : (n : ℕ) (done : List Entry) (t : List ℕ) (k : ScriptKind) → is_skipped t ≡ false → RefusesLine (length done) t k → with_line n done t ≡ Err (fault n k)
refuse_line n done t k s (inl r) =
    if_false (is_skipped t) (Ok done) (if nat_le most (length done) then Err (fault n kinds.TooMany) else placed n done t (command_of t)) s
    ∙ (if_true (nat_le most (length done)) (Err (fault n kinds.TooMany)) (placed n done t (command_of t)) (full (length done) most r.0)
    ∙ ap (λ (x : ScriptKind). let a : Answer = Err (fault n x) in a) (sym r.1))
refuse_line n done t k s (inr r) =
    if_false (is_skipped t) (Ok done) (if nat_le most (length done) then Err (fault n kinds.TooMany) else placed n done t (command_of t)) s
    ∙ (if_false (nat_le most (length done)) (Err (fault n kinds.TooMany)) (placed n done t (command_of t)) (free_yet (length done) most r.0)
    ∙ ap (placed n done t) r.2)

-- whole files
some_at_first : 0 ≤ most
some_at_first = omega arith

pub script_is_read : (bs : List ℕ) (es : List Entry) → IsScript es bs → script_of bs ≡ Ok es
script_is_read bs es h =
    let ls = lines (chars bs) in
    text_read bs h.0
    ∙ (ap (commands_from 0 []) (sym (append-nil ls)) ∙ read_on 0 [] es ls [] h.2 h.1)

pub refusal_is_answered : (bs : List ℕ) (f : ScriptFault) → Refuses bs f → script_of bs ≡ Err f
refusal_is_answered bs f (inl h) = no_text_read bs h.0 ∙ ap (λ (x : ScriptFault). let a : Answer = Err x in a) (sym h.1)
refusal_is_answered bs f (inr h) =
    let r = h.1 in
    let g : List Entry → Answer = λ xs. commands_from (0 + length r.before + 1) xs r.after in
    let z : 0 + length r.before + 1 ≡ length r.before + 1 = omega arith in
    text_read bs h.0
    ∙ (ap (commands_from 0 []) r.whole
    ∙ (read_on 0 [] r.commands r.before (r.line ∷ r.after) r.read r.few
    ∙ (ap (λ (x : Answer). x >>= g) (refuse_line (0 + length r.before + 1) r.commands (trimmed r.line) r.kind r.stands r.refused)
    ∙ ap (λ (x : ScriptFault). let a : Answer = Err x in a) (ap (λ (m : ℕ). fault m r.kind) z ∙ sym r.is))))

utf8_or_not : (bs : List ℕ) → IsUtf8 bs ⊎ (IsUtf8 bs → ⊥)
utf8_or_not bs = by (is_utf8 bs) refl
  where
    by : (b : Bool) → is_utf8 bs ≡ b → IsUtf8 bs ⊎ (IsUtf8 bs → ⊥)
    by true h = inl (IsUtf8-from_is_utf8 bs h)
    by false h = inr (λ u. let t = is_utf8-from_IsUtf8 bs u in cc)

pub read_is_script : (bs : List ℕ) (es : List Entry) → script_of bs ≡ Ok es → IsScript es bs
read_is_script bs es h = by (utf8_or_not bs)
  where
    by : (IsUtf8 bs ⊎ (IsUtf8 bs → ⊥)) → IsScript es bs
    by (inl u) =
        let f = found_from 0 [] (lines (chars bs)) es some_at_first (sym (text_read bs u) ∙ h) in
        (u, f.3, subst (λ (x : List Entry). AreCommands 0 x (lines (chars bs))) (sym f.1) f.2)
    by (inr n) = let e = no_text_read bs n in absurd (cc)

pub answer_is_refusal : (bs : List ℕ) (f : ScriptFault) → script_of bs ≡ Err f → Refuses bs f
answer_is_refusal bs f h = by (utf8_or_not bs)
  where
    by : (IsUtf8 bs ⊎ (IsUtf8 bs → ⊥)) → Refuses bs f
    by (inl u) =
        let w = wrong_from 0 [] (lines (chars bs)) f some_at_first (sym (text_read bs u) ∙ h) in
        let z : 0 + length w.before + 1 ≡ length w.before + 1 = omega arith in
        inr (
          u,
          record {
            before = w.before;
            line = w.line;
            after = w.after;
            commands = w.commands;
            kind = w.kind;
            whole = w.whole;
            read = w.read;
            few = w.few;
            stands = w.stands;
            refused = w.refused;
            is = w.is ∙ ap (λ (m : ℕ). fault m w.kind) z;
          },
        )
    by (inr n) = inl (n, faults_same f (fault (ill_formed_line bs) kinds.Utf8) (sym h ∙ no_text_read bs n))
