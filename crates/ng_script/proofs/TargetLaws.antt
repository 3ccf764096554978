-- What is read as a target is spelled so, and what is spelled so is read.
use Rattle.std.proofs.Common.{◌≡◌, ◌<◌, ◌≤◌, ◌+◌, ◌-◌, ◌*◌, ◌==◌, ◌&&◌, length, arith, ℕ, nat_lt, Bool, true, false, not, List, [], ◌∷◌, ◌++◌, Option, None, Some, ap, sym, ◌∙◌, refl, subst, if◌then◌else◌, append_assoc}
use Rattle.std.proofs.lemmas.Bool.{and_parts}
use Rattle.std.proofs.lemmas.Bool.Decides.{nat_tests}
use Rattle.std.proofs.lemmas.Grind.{common_steps}
use Rattle.std.proofs.lemmas.List.Folds.{list_all-append}
use Rattle.std.specs.Prelude.{Result, Ok, Err}
use Rattle.std.specs.List.{list_all}
use Rattle.std.specs.Option.{unwrap_or}
use Rattle.ng_base.specs.Codes.{number_sign, slash, digit_zero}
use Rattle.ng_base.specs.Meets.{◌>>=◌}
use Rattle.ng_base.specs.declared.path.Target.{Target}
use Rattle.ng_base.specs.declared.path.Target.TheVariants as target
use Rattle.ng_base.proofs.Binds.{bind_ok, if_true, if_false}
use Rattle.ng_language.specs.Choice.{when_some}
use Rattle.std.specs.Char.{is_ascii_digit}
use Rattle.ng_language.specs.Spelling.{value_on}
use Rattle.ng_language.proofs.LexSound.{both, code_is}
use Rattle.ng_script.specs.Targets.{IsPath, IsTarget, has_no_blank, with_digit, numbers_from, as_path, id_of, target_of}
use Rattle.ng_script.specs.Words.{is_blank}
use Rattle.ng_script.specs.declared.fault.ScriptKind.{ScriptKind}
use Rattle.ng_script.specs.declared.fault.ScriptKind.TheVariants as kinds

value_le : (n : ℕ) (ds : List ℕ) → n ≤ value_on n ds
value_le n [] = omega arith
value_le n (d ∷ ds) = let h = value_le (10 * n + (d - 48)) ds in omega (arith, h)

not_slash : (d : ℕ) → is_ascii_digit d ≡ true → (d == slash) ≡ false
not_slash d h = grind (arith, common_steps)

digit_solid : (d : ℕ) → is_ascii_digit d ≡ true → not (is_blank d) ≡ true
digit_solid d h = grind (arith, common_steps)

below : (x : ℕ) → x < 4294967296 → nat_lt x 4294967296 ≡ true
below x h = grind (arith, nat_tests)

is_below : (x : ℕ) → nat_lt x 4294967296 ≡ true → x < 4294967296
is_below x h = grind (arith, nat_tests)

abbrev pub next_value : Option ℕ → ℕ → ℕ
next_value now c = 10 * unwrap_or now 0 + (c - digit_zero)

digit_taken : (now : Option ℕ) (d : ℕ) → is_ascii_digit d ≡ true → next_value now d < 4294967296 → with_digit now d ≡ Some (next_value now d)
digit_taken now d h l = if_true (is_ascii_digit d && nat_lt (next_value now d) 4294967296) (Some (next_value now d)) None (both (is_ascii_digit d) (nat_lt (next_value now d) 4294967296) h (below (next_value now d) l))

abbrev Numbers : Type 0
Numbers = Result (List ℕ) ScriptKind

abbrev no_target : Numbers
no_target = Err kinds.BadTarget

abbrev pub Filled : Option ℕ → List ℕ → Type 0
Filled None ds = 0 < length ds
Filled (Some n) ds = Unit {0}

abbrev pub Low : Option ℕ → Type 0
Low None = Unit {0}
Low (Some n) = n < 4294967296

-- the digits of a number that is being read, and the numbers after it
abbrev pub Continues : Option ℕ → List ℕ → List ℕ → Type 0
Continues now [] cs = ⊥
Continues now (m ∷ ms) cs = (ds : List ℕ) × (rest : List ℕ) × (cs ≡ ds ++ rest) × (list_all is_ascii_digit ds ≡ true) × (value_on (unwrap_or now 0) ds ≡ m) × (m < 4294967296) × Filled now ds × IsPath ms rest

abbrev Sound : List ℕ → Option ℕ → List ℕ → List ℕ → Type 0
Sound done now cs ns = (ms : List ℕ) × (ns ≡ done ++ ms) × Continues now ms cs

filled_by : (now : Option ℕ) (c : ℕ) (ds : List ℕ) → Filled now (c ∷ ds)
filled_by None c ds = omega arith
filled_by (Some n) c ds = tt

longer_digits : (done : List ℕ) (now : Option ℕ) (c : ℕ) (cs ns ms : List ℕ) → is_ascii_digit c ≡ true → ns ≡ done ++ ms → Continues (Some (next_value now c)) ms cs → Sound done now (c ∷ cs) ns
longer_digits done now c cs ns [] h e k = absurd k
longer_digits done now c cs ns (m ∷ ms) h e k = (m ∷ ms, e, (c ∷ k.0, k.1, ap (λ (t : List ℕ). c ∷ t) k.2, both (is_ascii_digit c) (list_all is_ascii_digit k.0) h k.3, k.4, k.5, filled_by now c k.0, k.7))

digit_step : (done : List ℕ) (now : Option ℕ) (c : ℕ) (cs ns : List ℕ) (b : Bool) → (is_ascii_digit c && nat_lt (next_value now c) 4294967296) ≡ b
    → when_some (if b then Some (next_value now c) else None) (λ n. numbers_from done (Some n) cs) no_target ≡ Ok ns
    → ((n : ℕ) → n < 4294967296 → numbers_from done (Some n) cs ≡ Ok ns → Sound done (Some n) cs ns) → Sound done now (c ∷ cs) ns
digit_step done now c cs ns true h e ih =
    let p = and_parts (is_ascii_digit c) (nat_lt (next_value now c) 4294967296) h in
    let s = ih (next_value now c) (is_below (next_value now c) p.1) e in
    longer_digits done now c cs ns s.0 p.0 s.1 s.2
digit_step done now c cs ns false h e ih = absurd (cc)

more_path : (c : ℕ) (cs ms : List ℕ) → c ≡ slash → Continues None ms cs → IsPath ms (c ∷ cs)
more_path c cs [] e k = absurd k
more_path c cs (m ∷ ms) e k = (k.0, k.1, (ap (λ (x : ℕ). x ∷ cs) e ∙ ap (λ (t : List ℕ). slash ∷ t) k.2), (k.3, k.6, k.4, k.5), k.7)

none_step : (done : List ℕ) (c : ℕ) (cs ns : List ℕ) (a : Bool)
    → (if a then no_target else when_some (with_digit None c) (λ n. numbers_from done (Some n) cs) no_target) ≡ Ok ns
    → ((n : ℕ) → n < 4294967296 → numbers_from done (Some n) cs ≡ Ok ns → Sound done (Some n) cs ns) → Sound done None (c ∷ cs) ns
none_step done c cs ns true e ih = absurd (cc)
none_step done c cs ns false e ih = digit_step done None c cs ns (is_ascii_digit c && nat_lt (next_value None c) 4294967296) refl e ih

some_step : (done : List ℕ) (n c : ℕ) (cs ns : List ℕ) (a : Bool) → c == slash ≡ a → n < 4294967296
    → (if a then numbers_from (done ++ n ∷ []) None cs else when_some (with_digit (Some n) c) (λ m. numbers_from done (Some m) cs) no_target) ≡ Ok ns
    → (numbers_from (done ++ n ∷ []) None cs ≡ Ok ns → Sound (done ++ n ∷ []) None cs ns)
    → ((m : ℕ) → m < 4294967296 → numbers_from done (Some m) cs ≡ Ok ns → Sound done (Some m) cs ns) → Sound done (Some n) (c ∷ cs) ns
some_step done n c cs ns true h l e next ih =
    let s = next e in
    (n ∷ s.0, s.1 ∙ append_assoc done (n ∷ []) s.0, ([], c ∷ cs, refl, refl, refl, l, tt, more_path c cs s.0 (code_is c slash h) s.2))
some_step done n c cs ns false h l e next ih = digit_step done (Some n) c cs ns (is_ascii_digit c && nat_lt (next_value (Some n) c) 4294967296) refl e ih

numbers_are : (done : List ℕ) (now : Option ℕ) (cs ns : List ℕ) → Low now → numbers_from done now cs ≡ Ok ns → Sound done now cs ns
numbers_are done None [] ns l e = absurd (cc)
numbers_are done (Some n) [] ns l e = (n ∷ [], (cc), ([], [], refl, refl, refl, l, tt, refl))
numbers_are done None (c ∷ cs) ns l e = none_step done c cs ns (c == slash) e (λ n low h. numbers_are done (Some n) cs ns low h)
numbers_are done (Some n) (c ∷ cs) ns l e = some_step done n c cs ns (c == slash) refl l e (λ h. numbers_are (done ++ n ∷ []) None cs ns tt h) (λ m low h. numbers_are done (Some m) cs ns low h)

-- what digits add
taken_none : (done : List ℕ) (d : ℕ) (cs : List ℕ) → is_ascii_digit d ≡ true → next_value None d < 4294967296 → numbers_from done None (d ∷ cs) ≡ numbers_from done (Some (next_value None d)) cs
taken_none done d cs h l =
    if_false (d == slash) no_target (when_some (with_digit None d) (λ n. numbers_from done (Some n) cs) no_target) (not_slash d h)
    ∙ ap (λ (o : Option ℕ). when_some o (λ n. numbers_from done (Some n) cs) no_target) (digit_taken None d h l)

taken_some : (done : List ℕ) (n d : ℕ) (cs : List ℕ) → is_ascii_digit d ≡ true → next_value (Some n) d < 4294967296 → numbers_from done (Some n) (d ∷ cs) ≡ numbers_from done (Some (next_value (Some n) d)) cs
taken_some done n d cs h l =
    if_false (d == slash) (numbers_from (done ++ n ∷ []) None cs) (when_some (with_digit (Some n) d) (λ m. numbers_from done (Some m) cs) no_target) (not_slash d h)
    ∙ ap (λ (o : Option ℕ). when_some o (λ m. numbers_from done (Some m) cs) no_target) (digit_taken (Some n) d h l)

digits_on : (ds rest done : List ℕ) (now : Option ℕ) (m : ℕ) → list_all is_ascii_digit ds ≡ true → value_on (unwrap_or now 0) ds ≡ m → m < 4294967296 → Filled now ds → numbers_from done now (ds ++ rest) ≡ numbers_from done (Some m) rest
digits_on [] rest done None m a v l f = absurd (omega (arith, f))
digits_on [] rest done (Some n) m a v l f = ap (λ (k : ℕ). numbers_from done (Some k) rest) v
digits_on (d ∷ ds) rest done None m a v l f =
    let p = and_parts (is_ascii_digit d) (list_all is_ascii_digit ds) a in
    let low : next_value None d < 4294967296 = omega (arith, value_le (next_value None d) ds, v, l) in
    taken_none done d (ds ++ rest) p.0 low ∙ digits_on ds rest done (Some (next_value None d)) m p.1 v l tt
digits_on (d ∷ ds) rest done (Some n) m a v l f =
    let p = and_parts (is_ascii_digit d) (list_all is_ascii_digit ds) a in
    let low : next_value (Some n) d < 4294967296 = omega (arith, value_le (next_value (Some n) d) ds, v, l) in
    taken_some done n d (ds ++ rest) p.0 low ∙ digits_on ds rest done (Some (next_value (Some n) d)) m p.1 v l tt

path_on : (done : List ℕ) (m : ℕ) (ms rest : List ℕ) → IsPath ms rest → numbers_from done (Some m) rest ≡ Ok (done ++ m ∷ ms)
path_on done m [] rest h = ap (numbers_from done (Some m)) h
path_on done m (n ∷ ms) rest h =
    ap (numbers_from done (Some m)) h.2
    ∙ (digits_on h.0 h.1 (done ++ m ∷ []) None n h.3.0 h.3.2 h.3.3 h.3.1
    ∙ (path_on (done ++ m ∷ []) n ms h.1 h.4 ∙ ap (λ (t : List ℕ). let r : Numbers = Ok t in r) (append_assoc done (m ∷ []) (n ∷ ms))))

digits_solid : (ds : List ℕ) → list_all is_ascii_digit ds ≡ true → has_no_blank ds ≡ true
digits_solid [] h = refl
digits_solid (d ∷ ds) h = let p = and_parts (is_ascii_digit d) (list_all is_ascii_digit ds) h in both (not (is_blank d)) (has_no_blank ds) (digit_solid d p.0) (digits_solid ds p.1)

path_solid : (ns cs : List ℕ) → IsPath ns cs → has_no_blank cs ≡ true
path_solid [] cs h = ap has_no_blank h
path_solid (n ∷ ns) cs h =
    ap has_no_blank h.2 ∙ (list_all-append (λ c. not (is_blank c)) h.0 h.1 ∙ both (has_no_blank h.0) (has_no_blank h.1) (digits_solid h.0 h.3.0) (path_solid ns h.1 h.4))

-- a target is a word
pub target_solid : (t : Target) (cs : List ℕ) → IsTarget t cs → has_no_blank cs ≡ true
target_solid (target.Id n) cs h = ap has_no_blank h.0 ∙ h.2
target_solid (target.Path ns) cs h = path_solid ns cs h.1

same_ok : {A E : Type 0} (x y : A) → (let r : Result A E = Ok x in r) ≡ Ok y → x ≡ y
same_ok x y e = cc

id_is : (c : ℕ) (cs : List ℕ) (t : Target) → c ≡ number_sign → id_of cs ≡ Ok t → has_no_blank (c ∷ cs) ≡ true → IsTarget t (c ∷ cs)
id_is c [] t e h n = absurd (cc)
id_is c (d ∷ ds) t e h n =
    let same : target.Id (d ∷ ds) ≡ t = cc in
    subst (λ (u : Target). IsTarget u (c ∷ d ∷ ds)) same (ap (λ (x : ℕ). x ∷ d ∷ ds) e, omega arith, (and_parts (not (is_blank c)) (has_no_blank (d ∷ ds)) n).1)

path_is : (c : ℕ) (cs : List ℕ) (t : Target) → c ≡ slash → (numbers_from [] None cs >>= as_path) ≡ Ok t → IsTarget t (c ∷ cs)
path_is c cs t e h =
    let b = bind_ok (numbers_from [] None cs) as_path t h in
    let s = numbers_are [] None cs b.0 tt b.1 in
    let same : target.Path b.0 ≡ t = cc in
    subst (λ (u : Target). IsTarget u (c ∷ cs)) same (filled s.0 b.0 s.1 s.2, subst (λ (ns : List ℕ). IsPath ns (c ∷ cs)) (sym s.1) (more_path c cs s.0 e s.2))
  where
    filled : (ms ns : List ℕ) → ns ≡ ms → Continues None ms cs → 0 < length ns
    filled [] ns e k = absurd k
    filled (m ∷ ms) ns e k = omega (arith, ap length e)

pub target_is : (cs : List ℕ) (t : Target) → has_no_blank cs ≡ true → target_of cs ≡ Ok t → IsTarget t cs
target_is [] t n h = absurd (cc)
target_is (c ∷ cs) t n h = by_sign (c == number_sign) refl h
  where
    by_slash : (b : Bool) → c == slash ≡ b → (if b then (numbers_from [] None cs >>= as_path) else Err kinds.BadTarget) ≡ Ok t → IsTarget t (c ∷ cs)
    by_slash true e h = path_is c cs t (code_is c slash e) h
    by_slash false e h = absurd (cc)

    by_sign : (b : Bool) → c == number_sign ≡ b → (if b then id_of cs else if c == slash then (numbers_from [] None cs >>= as_path) else Err kinds.BadTarget) ≡ Ok t → IsTarget t (c ∷ cs)
    by_sign true e h = id_is c cs t (code_is c number_sign e) h n
    by_sign false e h = by_slash (c == slash) refl h

id_read : (n : List ℕ) → 0 < length n → id_of n ≡ Ok (target.Id n)
id_read [] h = absurd (omega (arith, h))
id_read (c ∷ n) h = refl

pub target_read : (t : Target) (cs : List ℕ) → IsTarget t cs → target_of cs ≡ Ok t
target_read (target.Id n) cs h = ap target_of h.0 ∙ id_read n h.1
target_read (target.Path []) cs h = absurd (omega (arith, h.0))
target_read (target.Path (n ∷ ns)) cs h =
    let p = h.1 in
    ap target_of p.2
    ∙ ap (λ (r : Numbers). r >>= as_path) (digits_on p.0 p.1 [] None n p.3.0 p.3.2 p.3.3 p.3.1 ∙ path_on [] n ns p.1 p.4)
