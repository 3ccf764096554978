-- The nodes by name, in runs.
use Rattle.std.proofs.Common.{◌≡◌, ◌<◌, ◌≤◌, ◌+◌, ◌/◌, ◌-◌, ℕ, suc, zero, Bool, true, false, List, [], ◌∷◌, ◌++◌, Option, Some, None, Result, Ok, Err, refl, ap, sym, subst, ◌∙◌, length, get_or, cond, arith, is_some, option_map}
use Rattle.std.specs.Prelude.{◌==◌, slice_get, slice_set, if◌then◌else◌, IsSome, OnOk}
use Rattle.std.specs.List.{AllByRecursion, remove}
use Rattle.std.specs.Map.{set_value}
use Rattle.std.proofs.Math.Nat.{lt_of_not-le}
use Rattle.std.proofs.lemmas.Bool.{eqb-true, eq-eqb, ne_eqb}
use Rattle.std.proofs.lemmas.Nat.{div-add-mod', le-div}
use Rattle.ng_dom.specs.Records.{Rows, Runs, number_of, under, or_none, rows_of, node_at, node_set, live_in, AllAbove, AllBelow, Rises, IsRun, AreRuns, IsKept, name_in, row_in, row_at, row_set, run_set, run_left, row_gone, row_pushed}
use Rattle.ng_dom.specs.declared.record.Record.{Record}
use Rattle.ng_dom.proofs.Rising.{all_get, get_is, above_none, under_here, value_set_is, all_set, rises_set, length_set, under_set, all_removed, rises_removed, length_removed, under_removed, all_pushed, rises_pushed, length_pushed, under_pushed, below_all}

-- ---- numbers of runs

pub number_up : (m n : ℕ) → m ≤ n → number_of m ≤ number_of n
number_up m n le = let whole = div-add-mod' m 64 in le-div (m / 64) n 64 (omega arith) (omega (arith, whole))

pub number_below : (m n : ℕ) → number_of m < number_of n → m < n
number_below m n l = lt_of_not-le (λ le. let up = number_up n m le in absurd (omega arith))

-- names of different runs differ
other_name : (q n : ℕ) (k : ℕ) → number_of n ≡ k → (number_of q == k) ≡ false → (q == n) ≡ false
other_name q n k is t = ne_eqb q n (λ s. absurd (let two : true ≡ false = sym (eq-eqb (number_of q) k (ap number_of s ∙ is)) ∙ t in cc))

-- a change of what stands under one name: of the rows of its run, and of no others
change : (rs ss : Runs) (n q : ℕ) (o : Option Record) (es : Rows)
    → ((k : ℕ) → rows_of k ss ≡ cond (k == number_of n) es (rows_of k rs))
    → under q es ≡ cond (q == n) o (under q (rows_of (number_of n) rs))
    → node_at ss q ≡ cond (q == n) o (node_at rs q)
change rs ss n q o es runs rows = by_test (number_of q == number_of n) refl
  where
    by_test : (b : Bool) → (number_of q == number_of n) ≡ b → node_at ss q ≡ cond (q == n) o (node_at rs q)
    by_test true t =
        let same : number_of q ≡ number_of n = eqb-true (number_of q) (number_of n) t in
        ap (under q) (runs (number_of q) ∙ ap (λ (b : Bool). cond b es (rows_of (number_of q) rs)) t) ∙ (rows ∙ ap (λ (k : ℕ). cond (q == n) o (under q (rows_of k rs))) (sym same))
    by_test false t =
        ap (under q) (runs (number_of q) ∙ ap (λ (b : Bool). cond b es (rows_of (number_of q) rs)) t) ∙ sym (ap (λ (b : Bool). cond b o (node_at rs q)) (other_name q n (number_of n) refl t))

-- what stands under a number is another list of rows
rows_by : (o : Option Rows) (b : Bool) (es : Rows) → or_none (cond b (Some es) o) ≡ cond b es (or_none o)
rows_by o true es = refl
rows_by o false es = refl

gone_by : (o : Option Rows) (b : Bool) → or_none (cond b None o) ≡ cond b [] (or_none o)
gone_by o true = refl
gone_by o false = refl

-- ---- a place

get_by : (o : Option (ℕ × Rows)) (j n : ℕ) → name_in (row_in o j) ≡ Some n → (r : ℕ × Rows) × (o ≡ Some r)
get_by None j n h = absurd (cc)
get_by (Some r) j n h = (r, refl)

pub row_by : (o : Option (ℕ × Record)) (n : ℕ) → name_in o ≡ Some n → (e : ℕ × Record) × (o ≡ Some e) × (e.0 ≡ n)
row_by None n h = absurd (cc)
row_by (Some e) n h = (e, refl, (let same : e.0 ≡ n = cc in same))

-- the run and the row of a place with a name
pub record Found (rs : Runs) (i j n : ℕ) : Type 0 where
  pub run : ℕ × Rows
  pub row : ℕ × Record
  pub run_is : slice_get rs i ≡ Some run
  pub row_is : slice_get run.1 j ≡ Some row
  pub named : row.0 ≡ n
  pub numbered : run.0 ≡ number_of n
  pub good : IsRun run

pub found : (rs : Runs) (i j n : ℕ) → AreRuns rs → name_in (row_at rs i j) ≡ Some n → Found rs i j n
found rs i j n runs h =
    let r = get_by (slice_get rs i) j n h in
    let e = row_by (slice_get r.0.1 j) n (ap (λ o. name_in (row_in o j)) (sym r.1) ∙ h) in
    let good : IsRun r.0 = all_get IsRun rs i r.0 runs r.1 in
    let num : number_of e.0.0 ≡ r.0.0 = all_get (λ x. number_of x.0 ≡ r.0.0) r.0.1 j e.0 good.named e.1 in
    record { run = r.0; row = e.0; run_is = r.1; row_is = e.1; named = e.2; numbered = sym num ∙ ap number_of e.2; good = good }

pub rows_found : (rs : Runs) (i j n : ℕ) (f : Found rs i j n) → Rises rs → rows_of (number_of n) rs ≡ f.run.1
rows_found rs i j n f r = ap or_none (under_here rs i (number_of n) f.run r f.run_is f.numbered)

pub node_found : (rs : Runs) (i j n : ℕ) → Rises rs → AreRuns rs → name_in (row_at rs i j) ≡ Some n → node_at rs n ≡ option_map (λ e. e.1) (row_at rs i j)
node_found rs i j n r runs h =
    let f = found rs i j n runs h in
    ap (under n) (rows_found rs i j n f r) ∙ under_here f.run.1 j n f.row f.good.rises f.row_is f.named
    ∙ sym (ap (λ o. option_map (λ (e : ℕ × Record). e.1) (row_in o j)) f.run_is ∙ ap (option_map (λ (e : ℕ × Record). e.1)) f.row_is)

-- what an index reads
pub run_read : {X : Type 0} (es : List (ℕ × X)) (i k : ℕ) (r : ℕ × X) → name_in (slice_get es i) ≡ Some k → r ≡ get_or es i r → (slice_get es i ≡ Some r) × (r.0 ≡ k)
run_read {X} es i k r h is = by_row (slice_get es i) refl h
  where
    by_row : (o : Option (ℕ × X)) → slice_get es i ≡ o → name_in o ≡ Some k → (slice_get es i ≡ Some r) × (r.0 ≡ k)
    by_row None g h = absurd (cc)
    by_row (Some e) g h =
        let same : e ≡ r = sym (is ∙ get_is es i e r g) in
        let named : e.0 ≡ k = cc in
        (g ∙ ap Some same, ap (λ (t : ℕ × X). t.0) (sym same) ∙ named)

pub node_missed : (rs : Runs) (i n : ℕ) (r : ℕ × Rows) (es : Rows) → Rises rs → name_in (slice_get rs i) ≡ Some (number_of n) → r ≡ get_or rs i r → es ≡ r.1 → under n es ≡ None → node_at rs n ≡ None
node_missed rs i n r es up h is same none =
    let g = run_read rs i (number_of n) r h is in
    ap (λ o. under n (or_none o)) (under_here rs i (number_of n) r up g.0 g.1) ∙ (ap (under n) (sym same) ∙ none)

pub place_found : (rs : Runs) (i j n k : ℕ) (r : ℕ × Rows) (es : Rows) → name_in (slice_get rs i) ≡ Some k → r ≡ get_or rs i r → es ≡ r.1 → name_in (slice_get es j) ≡ Some n → name_in (row_at rs i j) ≡ Some n
place_found rs i j n k r es h is same there =
    let g = run_read rs i k r h is in
    ap (λ o. name_in (row_in o j)) g.0 ∙ (ap (λ (fs : Rows). name_in (slice_get fs j)) (sym same) ∙ there)

-- a place that has a row
pub place_run : (rs : Runs) (i j : ℕ) (r : ℕ × Rows) → IsSome (row_at rs i j) → r ≡ get_or rs i r → slice_get rs i ≡ Some r
place_run rs i j r h is = by_run (slice_get rs i) refl h
  where
    by_run : (o : Option (ℕ × Rows)) → slice_get rs i ≡ o → IsSome (row_in o j) → slice_get rs i ≡ Some r
    by_run None g h = absurd (cc)
    by_run (Some e) g h = g ∙ ap Some (sym (is ∙ get_is rs i e r g))

some_within : {X : Type 0} (es : List X) (i : ℕ) → IsSome (slice_get es i) → i < length es
some_within [] i h = absurd (cc)
some_within (e ∷ es) zero h = omega arith
some_within (e ∷ es) (suc i) h = omega (arith, some_within es i h)

pub run_within : (rs : Runs) (i j : ℕ) → IsSome (row_at rs i j) → i < length rs
run_within [] i j h = absurd (cc)
run_within (r ∷ rs) zero j h = omega arith
run_within (r ∷ rs) (suc i) j h = omega (arith, run_within rs i j h)

pub row_within : (rs : Runs) (i j : ℕ) (r : ℕ × Rows) → IsSome (row_at rs i j) → slice_get rs i ≡ Some r → j < length r.1
row_within rs i j r h g = some_within r.1 j (subst (λ o. IsSome (row_in o j)) g h)

pub row_read : (rs : Runs) (i j : ℕ) (r : ℕ × Rows) → slice_get rs i ≡ Some r → row_at rs i j ≡ slice_get r.1 j
row_read rs i j r g = ap (λ o. row_in o j) g

pub on_ok : {T E : Type 0} {P Q : Type 0} (r : Result T E) → (P → Q) → OnOk r P → OnOk r Q
on_ok (Ok x) f p = f p
on_ok (Err e) f p = tt

-- ---- another node under a name

pub run_set_is : (rs : Runs) (i j : ℕ) (r : ℕ × Rows) (x : Record) → slice_get rs i ≡ Some r → run_set rs i j x ≡ slice_set rs i (r.0, row_set r.1 j x)
run_set_is [] i j r x g = refl
run_set_is (s ∷ rs) zero j r x g = let same : s ≡ r = cc in ap (λ (t : ℕ × Rows). (t.0, row_set t.1 j x) ∷ rs) same
run_set_is (s ∷ rs) (suc i) j r x g = ap (λ (ss : Runs). s ∷ ss) (run_set_is rs i j r x g)

set_at : (rs : Runs) (i : ℕ) (r : ℕ × Rows) (es : Rows) → slice_get rs i ≡ Some r → row_set rs i es ≡ slice_set rs i (r.0, es)
set_at [] i r es g = refl
set_at (s ∷ rs) zero r es g = let same : s ≡ r = cc in ap (λ (t : ℕ × Rows). (t.0, es) ∷ rs) same
set_at (s ∷ rs) (suc i) r es g = ap (λ (ss : Runs). s ∷ ss) (set_at rs i r es g)

pub node_set_is : (rs : Runs) (i j n : ℕ) (x : Record) → Rises rs → AreRuns rs → name_in (row_at rs i j) ≡ Some n → run_set rs i j x ≡ node_set rs n x
node_set_is rs i j n x r runs h =
    let f = found rs i j n runs h in
    let rows : set_value (λ k. n == k) (rows_of (number_of n) rs) x ≡ row_set f.run.1 j x = ap (λ (es : Rows). set_value (λ k. n == k) es x) (rows_found rs i j n f r) ∙ value_set_is f.run.1 j n f.row x f.good.rises f.row_is f.named in
    sym (ap (λ (es : Rows). set_value (λ k. number_of n == k) rs es) rows ∙ (value_set_is rs i (number_of n) f.run (row_set f.run.1 j x) r f.run_is f.numbered ∙ (set_at rs i f.run (row_set f.run.1 j x) f.run_is ∙ sym (run_set_is rs i j f.run x f.run_is))))

pub rises_run_set : (rs : Runs) (i j : ℕ) (x : Record) → Rises rs → Rises (run_set rs i j x)
rises_run_set [] i j x r = tt
rises_run_set (s ∷ rs) zero j x r = (r.0, r.1)
rises_run_set (s ∷ rs) (suc i) j x r = (above_run_set s.0 rs i r.0, rises_run_set rs i j x r.1)
  where
    above_run_set : (m : ℕ) (rs : Runs) (i : ℕ) → AllAbove m rs → AllAbove m (run_set rs i j x)
    above_run_set m [] i a = tt
    above_run_set m (s ∷ rs) zero a = (a.0, a.1)
    above_run_set m (s ∷ rs) (suc i) a = (a.0, above_run_set m rs i a.1)

run_with : (r : ℕ × Rows) (j : ℕ) (x : Record) → IsRun r → IsRun (r.0, row_set r.1 j x)
run_with r j x g = record {
  rises = rises_set r.1 j x g.rises;
  named = all_set (λ m. number_of m ≡ r.0) r.1 j x g.named;
  some = subst (λ (k : ℕ). 0 < k) (sym (length_set r.1 j x)) g.some;
}

pub runs_run_set : (rs : Runs) (i j : ℕ) (x : Record) → AreRuns rs → AreRuns (run_set rs i j x)
runs_run_set [] i j x a = tt
runs_run_set (s ∷ rs) zero j x a = (run_with s j x a.0, a.1)
runs_run_set (s ∷ rs) (suc i) j x a = (a.0, runs_run_set rs i j x a.1)

pub live_run_set : (rs : Runs) (i j : ℕ) (x : Record) → live_in (run_set rs i j x) ≡ live_in rs
live_run_set [] i j x = refl
live_run_set (s ∷ rs) zero j x = ap (λ (k : ℕ). k + live_in rs) (length_set s.1 j x)
live_run_set (s ∷ rs) (suc i) j x = ap (λ (k : ℕ). length s.1 + k) (live_run_set rs i j x)

pub kept_run_set : (live : ℕ) (rs : Runs) (i j : ℕ) (x : Record) → IsKept live rs → IsKept live (run_set rs i j x)
kept_run_set live rs i j x k = record {
  rises = rises_run_set rs i j x k.rises;
  runs = runs_run_set rs i j x k.runs;
  counted = k.counted ∙ sym (live_run_set rs i j x);
}

some_rows : (n : ℕ) (o : Option Rows) → is_some (under n (or_none o)) ≡ true → is_some o ≡ true
some_rows n None h = absurd (cc)
some_rows n (Some es) h = refl

pub node_at-set : (rs : Runs) (n q : ℕ) (x : Record) → is_some (node_at rs n) ≡ true → node_at (node_set rs n x) q ≡ cond (q == n) (Some x) (node_at rs q)
node_at-set rs n q x h =
    let es : Rows = set_value (λ k. n == k) (rows_of (number_of n) rs) x in
    change rs (node_set rs n x) n q (Some x) es
    (λ k. ap or_none (under_set rs (number_of n) k es (some_rows n (under (number_of n) rs) h)) ∙ rows_by (under k rs) (k == number_of n) es)
    (under_set (rows_of (number_of n) rs) n q x h)

length-value : (es : Rows) (n : ℕ) (x : Record) → length (set_value (λ k. n == k) es x) ≡ length es
length-value [] n x = refl
length-value (e ∷ es) n x = by_test (n == e.0) (length-value es n x)
  where
    by_test : (b : Bool) → length (set_value (λ k. n == k) es x) ≡ length es → length (cond b ((e.0, x) ∷ es) (e ∷ set_value (λ k. n == k) es x)) ≡ suc (length es)
    by_test true rest = refl
    by_test false rest = ap suc rest

live_value : (rs : Runs) (k : ℕ) (es : Rows) → length es ≡ length (rows_of k rs) → live_in (set_value (λ m. k == m) rs es) ≡ live_in rs
live_value [] k es l = refl
live_value (r ∷ rs) k es l = by_test (k == r.0) l (live_value rs k es)
  where
    by_test : (b : Bool) → length es ≡ length (or_none (cond b (Some r.1) (under k rs))) → (length es ≡ length (rows_of k rs) → live_in (set_value (λ m. k == m) rs es) ≡ live_in rs) → live_in (cond b ((r.0, es) ∷ rs) (r ∷ set_value (λ m. k == m) rs es)) ≡ length r.1 + live_in rs
    by_test true l rest = ap (λ (m : ℕ). m + live_in rs) l
    by_test false l rest = ap (λ (m : ℕ). length r.1 + m) (rest l)

pub live-set : (rs : Runs) (n : ℕ) (x : Record) → live_in (node_set rs n x) ≡ live_in rs
live-set rs n x = live_value rs (number_of n) (set_value (λ k. n == k) (rows_of (number_of n) rs) x) (length-value (rows_of (number_of n) rs) n x)

-- ---- a node is taken out

left_rows : (m k : ℕ) (es : Rows) (rs : Runs) → AllAbove m rs → rows_of k (run_left m es rs) ≡ cond (k == m) es (rows_of k rs)
left_rows m k [] rs a = by_test (k == m) refl
  where
    by_test : (b : Bool) → (k == m) ≡ b → rows_of k rs ≡ cond b [] (rows_of k rs)
    by_test true t = ap or_none (above_none k rs (subst (λ (x : ℕ). AllAbove x rs) (sym (eqb-true k m t)) a))
    by_test false t = refl
left_rows m k (e ∷ es) rs a = rows_by (under k rs) (k == m) (e ∷ es)

gone_rows : (rs : Runs) (i j n k : ℕ) (f : Found rs i j n) → Rises rs → rows_of k (row_gone rs i j) ≡ cond (k == number_of n) (remove f.run.1 j) (rows_of k rs)
gone_rows [] i j n k f r = absurd (let e = f.run_is in cc)
gone_rows (s ∷ rs) zero j n k f r =
    let e : Some s ≡ Some f.run = f.run_is in
    let same : s ≡ f.run = cc in
    let num : s.0 ≡ number_of n = ap (λ (t : ℕ × Rows). t.0) same ∙ f.numbered in
    left_rows s.0 k (remove s.1 j) rs r.0 ∙ (both s.0 (remove s.1 j) ∙ (ap (λ (m : ℕ). cond (k == m) (remove s.1 j) (rows_of k (s ∷ rs))) num ∙ ap (λ (t : ℕ × Rows). cond (k == number_of n) (remove t.1 j) (rows_of k (s ∷ rs))) same))
  where
    by_test : (b : Bool) (es : Rows) → cond b es (rows_of k rs) ≡ cond b es (or_none (cond b (Some s.1) (under k rs)))
    by_test true es = refl
    by_test false es = refl

    both : (m : ℕ) (es : Rows) → cond (k == s.0) es (rows_of k rs) ≡ cond (k == s.0) es (rows_of k (s ∷ rs))
    both m es = by_test (k == s.0) es
gone_rows (s ∷ rs) (suc i) j n k f r =
    let g : Found rs i j n = record { run = f.run; row = f.row; run_is = f.run_is; row_is = f.row_is; named = f.named; numbered = f.numbered; good = f.good } in
    let more : s.0 < f.run.0 = all_get (λ x. s.0 < x.0) rs i f.run r.0 f.run_is in
    let num = f.numbered in
    by_test (number_of n) (λ u. omega arith) (remove f.run.1 j) (gone_rows rs i j n k g r.1) (k == s.0) refl
  where
    by_test : (m : ℕ) → (s.0 ≡ m → ⊥) → (es : Rows) → rows_of k (row_gone rs i j) ≡ cond (k == m) es (rows_of k rs) → (b : Bool) → (k == s.0) ≡ b → or_none (cond b (Some s.1) (under k (row_gone rs i j))) ≡ cond (k == m) es (or_none (cond b (Some s.1) (under k rs)))
    by_test m apart es rest true t = rw (ne_eqb k m (λ u. apart (sym (eqb-true k s.0 t) ∙ u))) refl
    by_test m apart es rest false t = rest

pub node_at-gone : (rs : Runs) (i j n q : ℕ) → Rises rs → AreRuns rs → name_in (row_at rs i j) ≡ Some n → node_at (row_gone rs i j) q ≡ cond (q == n) None (node_at rs q)
node_at-gone rs i j n q r runs h =
    let f = found rs i j n runs h in
    change rs (row_gone rs i j) n q None (remove f.run.1 j) (λ k. gone_rows rs i j n k f r)
    (under_removed f.run.1 j n q f.row f.good.rises f.row_is f.named ∙ ap (λ (es : Rows). cond (q == n) None (under q es)) (sym (rows_found rs i j n f r)))

above_left : (m k : ℕ) (es : Rows) (rs : Runs) → m < k → AllAbove m rs → AllAbove m (run_left k es rs)
above_left m k [] rs l a = a
above_left m k (e ∷ es) rs l a = (l, a)

rises_left : (k : ℕ) (es : Rows) (rs : Runs) → AllAbove k rs → Rises rs → Rises (run_left k es rs)
rises_left k [] rs a r = r
rises_left k (e ∷ es) rs a r = (a, r)

above_gone : (m : ℕ) (rs : Runs) (i j : ℕ) → AllAbove m rs → AllAbove m (row_gone rs i j)
above_gone m [] i j a = tt
above_gone m (s ∷ rs) zero j a = above_left m s.0 (remove s.1 j) rs a.0 a.1
above_gone m (s ∷ rs) (suc i) j a = (a.0, above_gone m rs i j a.1)

pub rises_gone : (rs : Runs) (i j : ℕ) → Rises rs → Rises (row_gone rs i j)
rises_gone [] i j r = tt
rises_gone (s ∷ rs) zero j r = rises_left s.0 (remove s.1 j) rs r.0 r.1
rises_gone (s ∷ rs) (suc i) j r = (above_gone s.0 rs i j r.0, rises_gone rs i j r.1)

runs_left : (k : ℕ) (es : Rows) (rs : Runs) → Rises es → AllByRecursion (λ e. number_of e.0 ≡ k) es → AreRuns rs → AreRuns (run_left k es rs)
runs_left k [] rs r n a = a
runs_left k (e ∷ es) rs r n a = (record { rises = r; named = n; some = omega arith }, a)

pub runs_gone : (rs : Runs) (i j : ℕ) → AreRuns rs → AreRuns (row_gone rs i j)
runs_gone [] i j a = tt
runs_gone (s ∷ rs) zero j a = runs_left s.0 (remove s.1 j) rs (rises_removed s.1 j a.0.rises) (all_removed (λ e. number_of e.0 ≡ s.0) s.1 j a.0.named) a.1
runs_gone (s ∷ rs) (suc i) j a = (a.0, runs_gone rs i j a.1)

live_left : (k : ℕ) (es : Rows) (rs : Runs) → live_in (run_left k es rs) ≡ length es + live_in rs
live_left k [] rs = omega arith
live_left k (e ∷ es) rs = refl

pub live_gone : (rs : Runs) (i j : ℕ) (e : ℕ × Record) → row_at rs i j ≡ Some e → live_in (row_gone rs i j) + 1 ≡ live_in rs
live_gone [] i j e h = absurd (cc)
live_gone (s ∷ rs) zero j e h = let one = live_left s.0 (remove s.1 j) rs in let two = length_removed s.1 j e h in omega (arith, one, two)
live_gone (s ∷ rs) (suc i) j e h = omega (arith, live_gone rs i j e h)

-- ---- a node is put after all others

module _ (n : ℕ) (x : Record) where
  -- a run whose rows are some has a name that was given
  given : (r : ℕ × Rows) → IsRun r → ((q : ℕ) → n ≤ q → number_of q ≡ r.0 → under q r.1 ≡ None) → r.0 ≤ number_of n
  given (k, []) g h = absurd (omega (arith, g.some))
  given (k, e ∷ es) g h = subst (λ (m : ℕ). m ≤ number_of n) g.named.0 (number_up e.0 n (omega (arith, lt_of_not-le first)))
    where
      first : n ≤ e.0 → ⊥
      first le = let two : Some e.1 ≡ None = ap (λ (b : Bool). cond b (Some e.1) (under e.0 es)) (sym (eq-eqb e.0 e.0 refl)) ∙ h e.0 le g.named.0 in absurd (cc)

  head_free : (r : ℕ × Rows) (rs : Runs) → ((q : ℕ) → n ≤ q → node_at (r ∷ rs) q ≡ None) → (q : ℕ) → n ≤ q → number_of q ≡ r.0 → under q r.1 ≡ None
  head_free r rs h q le is = ap (λ (b : Bool). under q (or_none (cond b (Some r.1) (under (number_of q) rs)))) (sym (eq-eqb (number_of q) r.0 is)) ∙ h q le

  tail_free : (r : ℕ × Rows) (rs : Runs) → AllAbove r.0 rs → ((q : ℕ) → n ≤ q → node_at (r ∷ rs) q ≡ None) → (q : ℕ) → n ≤ q → node_at rs q ≡ None
  tail_free r rs a h q le = by_test (number_of q == r.0) refl (h q le)
    where
      by_test : (b : Bool) → (number_of q == r.0) ≡ b → under q (or_none (cond b (Some r.1) (under (number_of q) rs))) ≡ None → node_at rs q ≡ None
      by_test true t none = ap (λ o. under q (or_none o)) (above_none (number_of q) rs (subst (λ (m : ℕ). AllAbove m rs) (sym (eqb-true (number_of q) r.0 t)) a))
      by_test false t none = none

  -- the rows of other runs have other names
  other_none : (es : Rows) (q k : ℕ) → AllByRecursion (λ e. number_of e.0 ≡ k) es → (number_of q ≡ k → ⊥) → under q es ≡ None
  other_none [] q k a apart = refl
  other_none (e ∷ es) q k a apart = rw (ne_eqb q e.0 (λ s. apart (ap number_of s ∙ a.0))) (other_none es q k a.1 apart)

  all_below : (r : ℕ × Rows) → IsRun r → ((q : ℕ) → n ≤ q → number_of q ≡ r.0 → under q r.1 ≡ None) → AllBelow n r.1
  all_below r g h = below_all r.1 n (λ q le. by_test q le (number_of q == r.0) refl)
    where
      by_test : (q : ℕ) → n ≤ q → (b : Bool) → (number_of q == r.0) ≡ b → under q r.1 ≡ None
      by_test q le true t = h q le (eqb-true (number_of q) r.0 t)
      by_test q le false t = other_none r.1 q r.0 g.named (λ s. absurd (let two : true ≡ false = sym (eq-eqb (number_of q) r.0 s) ∙ t in cc))

  abbrev IsUpto : Runs → Type 0
  IsUpto rs = AllByRecursion (λ r. r.0 ≤ number_of n) rs

  upto : (rs : Runs) → Rises rs → AreRuns rs → ((q : ℕ) → n ≤ q → node_at rs q ≡ None) → IsUpto rs
  upto [] r a h = tt
  upto (s ∷ rs) r a h = (given s a.0 (head_free s rs h), upto rs r.1 a.1 (tail_free s rs r.0 h))

  abbrev run_one : ℕ × Rows
  run_one = (number_of n, (n, x) ∷ [])

  -- a run that is passed by
  past : (r : ℕ × Rows) (rs ss : Runs) (k : ℕ) → (number_of n == r.0) ≡ false → rows_of k ss ≡ cond (k == number_of n) (rows_of (number_of n) rs ++ (n, x) ∷ []) (rows_of k rs) → rows_of k (r ∷ ss) ≡ cond (k == number_of n) (rows_of (number_of n) (r ∷ rs) ++ (n, x) ∷ []) (rows_of k (r ∷ rs))
  past r rs ss k f rest = by_test (k == r.0) refl ∙ sym (ap (λ (b : Bool). cond (k == number_of n) (or_none (cond b (Some r.1) (under (number_of n) rs)) ++ (n, x) ∷ []) (rows_of k (r ∷ rs))) f)
    where
      by_test : (b : Bool) → (k == r.0) ≡ b → or_none (cond b (Some r.1) (under k ss)) ≡ cond (k == number_of n) (rows_of (number_of n) rs ++ (n, x) ∷ []) (or_none (cond b (Some r.1) (under k rs)))
      by_test true t = rw (ne_eqb k (number_of n) (λ s. absurd (let two : true ≡ false = sym (eq-eqb (number_of n) r.0 (sym s ∙ eqb-true k r.0 t)) ∙ f in cc))) refl
      by_test false t = rest

  none_past : (k : ℕ) → rows_of k (run_one ∷ []) ≡ cond (k == number_of n) ([] ++ (n, x) ∷ []) []
  none_past k = rows_by None (k == number_of n) ((n, x) ∷ [])

  pushed_rows : (rs : Runs) → Rises rs → IsUpto rs → (k : ℕ) → rows_of k (row_pushed n x rs) ≡ cond (k == number_of n) (rows_of (number_of n) rs ++ (n, x) ∷ []) (rows_of k rs)
  pushed_rows [] r a k = none_past k
  pushed_rows (s ∷ []) r a k = by_number (s.0 == number_of n) refl
    where
      here : s.0 ≡ number_of n → (b : Bool) → (k == s.0) ≡ b → or_none (cond b (Some (s.1 ++ (n, x) ∷ [])) None) ≡ cond b (s.1 ++ (n, x) ∷ []) (or_none (cond b (Some s.1) None))
      here is true t = refl
      here is false t = refl

      by_number : (b : Bool) → (s.0 == number_of n) ≡ b → rows_of k (if b then (s.0, s.1 ++ (n, x) ∷ []) ∷ [] else s ∷ run_one ∷ []) ≡ cond (k == number_of n) (rows_of (number_of n) (s ∷ []) ++ (n, x) ∷ []) (rows_of k (s ∷ []))
      by_number true t =
          let is : s.0 ≡ number_of n = eqb-true s.0 (number_of n) t in
          let found : rows_of (number_of n) (s ∷ []) ≡ s.1 = ap (λ (b : Bool). or_none (cond b (Some s.1) None)) (eq-eqb (number_of n) s.0 (sym is)) in
          here is (k == s.0) refl ∙ (ap (λ (m : ℕ). cond (k == m) (s.1 ++ (n, x) ∷ []) (rows_of k (s ∷ []))) is ∙ sym (ap (λ (es : Rows). cond (k == number_of n) (es ++ (n, x) ∷ []) (rows_of k (s ∷ []))) found))
      by_number false t = past s [] (run_one ∷ []) k (ne_eqb (number_of n) s.0 (λ u. absurd (let two : true ≡ false = sym (eq-eqb s.0 (number_of n) (sym u)) ∙ t in cc))) (none_past k)
  pushed_rows (s ∷ t ∷ rs) r a k =
      let less : s.0 < t.0 = r.0.0 in
      let most : t.0 ≤ number_of n = a.1.0 in
      past s (t ∷ rs) (row_pushed n x (t ∷ rs)) k (ne_eqb (number_of n) s.0 (λ u. omega arith)) (pushed_rows (t ∷ rs) r.1 a.1 k)

  above_pushed : (m : ℕ) (rs : Runs) → m < number_of n → AllAbove m rs → AllAbove m (row_pushed n x rs)
  above_pushed m [] l a = (l, tt)
  above_pushed m (s ∷ []) l a = by_number (s.0 == number_of n)
    where
      by_number : (b : Bool) → AllAbove m (if b then (s.0, s.1 ++ (n, x) ∷ []) ∷ [] else s ∷ run_one ∷ [])
      by_number true = (a.0, tt)
      by_number false = (a.0, (l, tt))
  above_pushed m (s ∷ t ∷ rs) l a = (a.0, above_pushed m (t ∷ rs) l a.1)

  rises_more : (rs : Runs) → Rises rs → IsUpto rs → Rises (row_pushed n x rs)
  rises_more [] r a = (tt, tt)
  rises_more (s ∷ []) r a = by_number (s.0 == number_of n) refl
    where
      by_number : (b : Bool) → (s.0 == number_of n) ≡ b → Rises (if b then (s.0, s.1 ++ (n, x) ∷ []) ∷ [] else s ∷ run_one ∷ [])
      by_number true t = (tt, tt)
      by_number false t =
          let most : s.0 ≤ number_of n = a.0 in
          let apart : s.0 ≡ number_of n → ⊥ = λ u. absurd (let two : true ≡ false = sym (eq-eqb s.0 (number_of n) u) ∙ t in cc) in
          ((omega (arith, most, apart), tt), (tt, tt))
  rises_more (s ∷ t ∷ rs) r a =
      let less : s.0 < t.0 = r.0.0 in
      let most : t.0 ≤ number_of n = a.1.0 in
      (above_pushed s.0 (t ∷ rs) (omega arith) r.0, rises_more (t ∷ rs) r.1 a.1)

  good_one : IsRun run_one
  good_one = record { rises = (tt, tt); named = (refl, tt); some = omega arith }

  runs_more : (rs : Runs) → Rises rs → AreRuns rs → ((q : ℕ) → n ≤ q → node_at rs q ≡ None) → AreRuns (row_pushed n x rs)
  runs_more [] r a h = (good_one, tt)
  runs_more (s ∷ []) r a h = by_number (s.0 == number_of n) refl
    where
      by_number : (b : Bool) → (s.0 == number_of n) ≡ b → AreRuns (if b then (s.0, s.1 ++ (n, x) ∷ []) ∷ [] else s ∷ run_one ∷ [])
      by_number true t = (
        record {
          rises = rises_pushed s.1 n x a.0.rises (all_below s a.0 (head_free s [] h));
          named = all_pushed (λ e. number_of e.0 ≡ s.0) s.1 (n, x) a.0.named (sym (eqb-true s.0 (number_of n) t));
          some = omega (arith, length_pushed s.1 (n, x));
        },
        tt,
      )
      by_number false t = (a.0, (good_one, tt))
  runs_more (s ∷ t ∷ rs) r a h = (a.0, runs_more (t ∷ rs) r.1 a.1 (tail_free s (t ∷ rs) r.0 h))

  pub live_pushed : (rs : Runs) → live_in (row_pushed n x rs) ≡ live_in rs + 1
  live_pushed [] = refl
  live_pushed (s ∷ []) = by_number (s.0 == number_of n)
    where
      by_number : (b : Bool) → live_in (if b then (s.0, s.1 ++ (n, x) ∷ []) ∷ [] else s ∷ run_one ∷ []) ≡ live_in (s ∷ []) + 1
      by_number true = omega (arith, length_pushed s.1 (n, x))
      by_number false = omega arith
  live_pushed (s ∷ t ∷ rs) = omega (arith, live_pushed (t ∷ rs))

  pub node_at-pushed : (live : ℕ) (rs : Runs) → IsKept live rs → ((q : ℕ) → n ≤ q → node_at rs q ≡ None) → (q : ℕ) → node_at (row_pushed n x rs) q ≡ cond (q == n) (Some x) (node_at rs q)
  node_at-pushed live rs kept h q =
      change rs (row_pushed n x rs) n q (Some x) (rows_of (number_of n) rs ++ (n, x) ∷ []) (pushed_rows rs kept.rises (upto rs kept.rises kept.runs h))
      (under_pushed (rows_of (number_of n) rs) n q x (h n (omega arith)))

  pub kept_pushed : (live : ℕ) (rs : Runs) → IsKept live rs → ((q : ℕ) → n ≤ q → node_at rs q ≡ None) → IsKept (live + 1) (row_pushed n x rs)
  kept_pushed live rs kept h = record {
    rises = rises_more rs kept.rises (upto rs kept.rises kept.runs h);
    runs = runs_more rs kept.rises kept.runs h;
    counted = ap (λ (k : ℕ). k + 1) kept.counted ∙ sym (live_pushed rs);
  }

  -- what the code does
  pub pushed_in : (rs : Runs) (i : ℕ) (r : ℕ × Rows) → slice_get rs i ≡ Some r → i + 1 ≡ length rs → r.0 ≡ number_of n → slice_set rs i (r.0, r.1 ++ (n, x) ∷ []) ≡ row_pushed n x rs
  pushed_in [] i r g l is = absurd (cc)
  pushed_in (s ∷ []) zero r g l is =
      let same : s ≡ r = cc in
      rw (eq-eqb s.0 (number_of n) (ap (λ (t : ℕ × Rows). t.0) same ∙ is)) (ap (λ (t : ℕ × Rows). (t.0, t.1 ++ (n, x) ∷ []) ∷ []) (sym same))
  pushed_in (s ∷ []) (suc i) r g l is = absurd (cc)
  pushed_in (s ∷ t ∷ rs) zero r g l is = absurd (omega arith)
  pushed_in (s ∷ t ∷ rs) (suc i) r g l is = ap (λ (ss : Runs). s ∷ ss) (pushed_in (t ∷ rs) i r g (omega arith) is)

  pub pushed_new : (rs : Runs) → ((i : ℕ) (r : ℕ × Rows) → slice_get rs i ≡ Some r → i + 1 ≡ length rs → r.0 ≡ number_of n → ⊥) → rs ++ run_one ∷ [] ≡ row_pushed n x rs
  pushed_new [] h = refl
  pushed_new (s ∷ []) h = rw (ne_eqb s.0 (number_of n) (λ u. h 0 s refl refl u)) refl
  pushed_new (s ∷ t ∷ rs) h = ap (λ (ss : Runs). s ∷ ss) (pushed_new (t ∷ rs) (λ i r g l u. h (suc i) r g (omega arith) u))

pub kept_gone : (live : ℕ) (rs : Runs) (i j : ℕ) (e : ℕ × Record) → IsKept live rs → row_at rs i j ≡ Some e → IsKept (live - 1) (row_gone rs i j)
kept_gone live rs i j e kept h =
    let one = live_gone rs i j e h in
    let two = kept.counted in
    record {
      rises = rises_gone rs i j kept.rises;
      runs = runs_gone rs i j kept.runs;
      counted = omega arith;
    }

pub gone_in : (rs : Runs) (i j : ℕ) (r : ℕ × Rows) → slice_get rs i ≡ Some r → (remove r.1 j ≡ [] → ⊥) → slice_set rs i (r.0, remove r.1 j) ≡ row_gone rs i j
gone_in [] i j r g some = absurd (cc)
gone_in (s ∷ rs) zero j r g some =
    let same : s ≡ r = cc in
    by_rows (remove r.1 j) some ∙ ap (λ (t : ℕ × Rows). run_left t.0 (remove t.1 j) rs) (sym same)
  where
    by_rows : (es : Rows) → (es ≡ [] → ⊥) → (r.0, es) ∷ rs ≡ run_left r.0 es rs
    by_rows [] some = absurd (some refl)
    by_rows (e ∷ es) some = refl
gone_in (s ∷ rs) (suc i) j r g some = ap (λ (ss : Runs). s ∷ ss) (gone_in rs i j r g some)

pub gone_with : (rs : Runs) (i j : ℕ) (r t : ℕ × Rows) → slice_get rs i ≡ Some r → remove r.1 j ≡ [] → remove (slice_set rs i t) i ≡ row_gone rs i j
gone_with [] i j r t g none = absurd (cc)
gone_with (s ∷ rs) zero j r t g none =
    let same : s ≡ r = cc in
    let is : remove s.1 j ≡ [] = ap (λ (u : ℕ × Rows). remove u.1 j) same ∙ none in
    ap (λ (es : Rows). run_left s.0 es rs) (sym is)
gone_with (s ∷ rs) (suc i) j r t g none = ap (λ (ss : Runs). s ∷ ss) (gone_with rs i j r t g none)
