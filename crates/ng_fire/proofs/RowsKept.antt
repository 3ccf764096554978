-- Rows that are kept and stand in the order of their entries are some of those that stand.
use Rattle.std.proofs.Common.{◌≡◌, ◌∙◌, ◌+◌, ◌≤◌, ◌++◌, ℕ, suc, Bool, true, false, cond, true≢false, List, [], ◌∷◌, Option, None, Some, Result, Ok, Err, drop, map, option_map, slice_get, refl, ap, sym, subst, arith}
use Rattle.std.specs.Prelude.{nat_lt, if◌then◌else◌}
use Rattle.std.specs.List.{position_from}
use Rattle.std.specs.Option.{option_map_or}
use Rattle.std.proofs.lemmas.Bool.{ltb-false}
use Rattle.std.proofs.lemmas.Iterator.Adapters.{position_from-zero}
use Rattle.ng_blocks.specs.Plans.{has_double, gone_places, row_of, planned}
use Rattle.ng_blocks.specs.SameKeys.{same_key, same_key-Decides}
use Rattle.ng_blocks.specs.declared.keys.TrackKey.{TrackKey}
use Rattle.ng_blocks.specs.declared.plans.Plan.{Plan}
use Rattle.ng_blocks.specs.declared.plans.PlanFault.{PlanFault}
use Rattle.ng_blocks.specs.declared.plans.PlanFault.TheVariants.{Dupes}
use Rattle.ng_drawing.specs.Roles.{Entry, Role, a_body, a_row, a_named}
use Rattle.ng_fire.proofs.Parts.{none_part, part_at, part_before}
use Rattle.ng_rows.specs.RowsInOrder.{IsPart, in_order, is_for, place_after, stands_for}
use Rattle.ng_instances.specs.Instances.{Body}
use Rattle.ng_rows.proofs.SameRoles.{entry_is}
use Rattle.ng_rows.specs.RepeatRows.{Row, kept_from, kept_rows, key_of, keys_of, path_from, rows_from}
use Rattle.ng_rows.specs.Tracking.{Item}

-- ---- the row that an entry comes from has its key

found : (k : TrackKey) (n : ℕ) (bs : List Body) (i : ℕ) → position_from (same_key k) n (keys_of bs) ≡ Some i → (j : ℕ) × (i ≡ n + j) × ((b : Body) → slice_get bs j ≡ Some b → key_of b.role ≡ k)
found k n [] i is = absurd (cc)
found k n (x ∷ bs) i is = by (same_key k (key_of x.role)) refl is (found k (n + 1) bs i)
  where
    Found : Type 0
    Found = (j : ℕ) × (i ≡ n + j) × ((b : Body) → slice_get (x ∷ bs) j ≡ Some b → key_of b.role ≡ k)

    own : (b : Body) → same_key k (key_of x.role) ≡ true → x ≡ b → key_of b.role ≡ k
    own b e same = sym ((same_key-Decides k (key_of x.role)).0 e ∙ ap (λ (y : Body). key_of y.role) same)

    by : (t : Bool) → same_key k (key_of x.role) ≡ t → cond t (Some n) (position_from (same_key k) (n + 1) (keys_of bs)) ≡ Some i
        → (position_from (same_key k) (n + 1) (keys_of bs) ≡ Some i → (j : ℕ) × (i ≡ n + 1 + j) × ((b : Body) → slice_get bs j ≡ Some b → key_of b.role ≡ k)) → Found
    by true e is more = (let here : n ≡ i = cc in (0, omega (arith, here), λ b at. own b e (let same : x ≡ b = cc in same)))
    by false e is more = (let rest = more is in let far = rest.1 in (suc rest.0, omega (arith, far), rest.2))

has_key : (bs : List Body) (k : TrackKey) (i : ℕ) (b : Body) → row_of (keys_of bs) k ≡ Some i → slice_get bs i ≡ Some b → key_of b.role ≡ k
has_key bs k i b is at =
    let one = found k 0 bs i (sym (position_from-zero (same_key k) (keys_of bs)) ∙ is) in
    let far = one.1 in
    let same : one.0 ≡ i = omega (arith, far) in
    one.2 b (ap (slice_get bs) same ∙ at)

-- and so it is that of the entry, where it is for it
role_is : (k : TrackKey) (e : Entry) (r : Role) → key_of r ≡ k → is_for e r ≡ true → r ≡ a_row k e
role_is k e a_body key h = absurd (true≢false (sym h))
role_is k e (a_row l f) key h = ap (λ (x : TrackKey). a_row x f) key ∙ ap (a_row k) (sym (entry_is e f h))
role_is k e (a_named w) key h = absurd (true≢false (sym h))

-- ---- row by row

module _ (bs : List Body) (n : ℕ) (k : TrackKey) (e : Entry) (rs : List Row) (ps : List (Option ℕ)) (more : (m : ℕ) → in_order bs m rs ps ≡ true → IsPart (kept_rows rs) (drop m bs)) where
  abbrev next : Option ℕ → Bool
  next o = option_map_or (λ m. in_order bs m rs ps) o false

  abbrev kept : Option (List ℕ) → List Body
  kept p = kept_from p (a_row k e) ++ kept_rows rs

  by_body : (i : ℕ) → row_of (keys_of bs) k ≡ Some i → n ≤ i → (o : Option Body) → slice_get bs i ≡ o → (t : Bool) → stands_for e o ≡ t → next (if t then Some (i + 1) else None) ≡ true
      → IsPart (kept (option_map (λ (b : Body). b.path) o)) (drop n bs)
  by_body i is le o at false stands h = absurd (true≢false (sym h))
  by_body i is le None at true stands h = absurd (true≢false (sym stands))
  by_body i is le (Some b) at true stands h =
      part_before (kept (Some b.path)) bs n i le
      (subst (λ (r : Role). (let c : Body = record { path = b.path; role = r } in IsPart (c ∷ kept_rows rs) (drop i bs))) (role_is k e b.role (has_key bs k i b is at) stands)
      (part_at b (kept_rows rs) bs i at (more (i + 1) h)))

  by_place : (i : ℕ) → row_of (keys_of bs) k ≡ Some i → (t : Bool) → nat_lt i n ≡ t → next (if t then None else if stands_for e (slice_get bs i) then Some (i + 1) else None) ≡ true
      → IsPart (kept (path_from bs (Some i))) (drop n bs)
  by_place i is true lt h = absurd (true≢false (sym h))
  by_place i is false lt h = by_body i is (ltb-false i n lt) (slice_get bs i) refl (stands_for e (slice_get bs i)) refl h

  by_source : (p : Option ℕ) → row_of (keys_of bs) k ≡ p → next (place_after bs n e p) ≡ true → IsPart (kept (path_from bs p)) (drop n bs)
  by_source None is h = more n h
  by_source (Some i) is h = by_place i is (nat_lt i n) refl h

rows_part : (bs : List Body) (n : ℕ) (xs : List Item) (ks : List TrackKey) → in_order bs n (rows_from bs xs ks (map (row_of (keys_of bs)) ks)) (map (row_of (keys_of bs)) ks) ≡ true
    → IsPart (kept_rows (rows_from bs xs ks (map (row_of (keys_of bs)) ks))) (drop n bs)
rows_part bs n [] ks h = none_part (drop n bs)
rows_part bs n (x ∷ xs) [] h = none_part (drop n bs)
rows_part bs n (x ∷ xs) (k ∷ ks) h =
    by_source bs n k x.entry (rows_from bs xs ks (map (row_of (keys_of bs)) ks)) (map (row_of (keys_of bs)) ks) (λ m g. rows_part bs m xs ks g) (row_of (keys_of bs) k) refl h

-- those that are kept by a plan
pub plan_part : (bs : List Body) (xs : List Item) (ks : List TrackKey) (p : Plan) → planned (keys_of bs) ks ≡ Ok p → in_order bs 0 (rows_from bs xs ks p.from) p.from ≡ true → IsPart (kept_rows (rows_from bs xs ks p.from)) bs
plan_part bs xs ks p plan = by_double (has_double ks) refl plan
  where
    plain : Plan
    plain = record { gone = gone_places (keys_of bs) ks; from = map (row_of (keys_of bs)) ks }

    by_double : (b : Bool) → has_double ks ≡ b → cond {A = Result Plan PlanFault} b (Err Dupes) (Ok plain) ≡ Ok p → in_order bs 0 (rows_from bs xs ks p.from) p.from ≡ true → IsPart (kept_rows (rows_from bs xs ks p.from)) bs
    by_double true is other = absurd (cc)
    by_double false is there =
        let same : plain ≡ p = cc in
        subst (λ (p : Plan). in_order bs 0 (rows_from bs xs ks p.from) p.from ≡ true → IsPart (kept_rows (rows_from bs xs ks p.from)) bs) same (rows_part bs 0 xs ks)
