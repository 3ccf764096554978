-- Each row that stands is kept or gone.
use Rattle.std.proofs.Common.{◌≡◌, ◌+◌, ◌≤◌, ℕ, suc, Bool, true, false, cond, List, [], ◌∷◌, ◌++◌, length, length-append, map, slice_get, option_map, Option, None, Some, Result, Ok, Err, refl, ap, sym, subst, ◌∙◌, arith}
use Rattle.std.proofs.lemmas.List.{length-map}
use Rattle.ng_base.proofs.Binds.{bind_ok}
use Rattle.ng_base.specs.Objects.{Object}
use Rattle.ng_fire.proofs.Once.{sum_at, sum_from, at_place, sum_on, each_once}
use Rattle.ng_blocks.specs.Plans.{has_double, gone_places, row_of, planned}
use Rattle.ng_blocks.specs.declared.keys.TrackKey.{TrackKey}
use Rattle.ng_blocks.specs.declared.plans.Plan.{Plan}
use Rattle.ng_blocks.specs.declared.plans.PlanFault.{PlanFault}
use Rattle.ng_blocks.specs.declared.plans.PlanFault.TheVariants.{Dupes}
use Rattle.ng_drawing.specs.Roles.{Role}
use Rattle.ng_drawing.specs.Template.{Repeated}
use Rattle.ng_rows.specs.RepeatRows.{Row, kept_from, kept_rows, keys_of, path_from, role_for, rows_from}
use Rattle.ng_fire.specs.Repeats.{bodies_at, body_at}
use Rattle.ng_rows.specs.RepeatsOf.{RowsOfStand}
use Rattle.ng_fire.specs.RowsKnown.{KeptOrGone}
use Rattle.ng_rows.specs.Tracking.{Item, track_key, track_keys}
use Rattle.ng_rows.specs.TrackingOf.{ItemsStand}
use Rattle.ng_instances.specs.Instances.{Body, is_path}
use Rattle.ng_link.specs.Standing.{body_count}
use Rattle.ng_store.proofs.Sound.{stands_more}

module _ (q : List ℕ) where
  abbrev pub stands : Option Body → ℕ
  stands None = 0
  stands (Some b) = cond (is_path q b.path) 1 0

  -- whether the row at a place is on the path
  abbrev pub at_row : List Body → ℕ → ℕ
  at_row bs i = stands (slice_get bs i)

  pub gone_count : (bs : List Body) (is : List ℕ) → body_count q (bodies_at bs is) ≡ sum_at (at_row bs) is
  gone_count bs [] = refl
  gone_count bs (i ∷ is) = by_row (slice_get bs i) (gone_count bs is)
    where
      by_row : (o : Option Body) → body_count q (bodies_at bs is) ≡ sum_at (at_row bs) is → body_count q (body_at o ++ bodies_at bs is) ≡ stands o + sum_at (at_row bs) is
      by_row None more = omega (arith, more)
      by_row (Some b) more = omega (arith, more)

  kept_count : (bs : List Body) (xs : List Item) (ks : List TrackKey) (ps : List (Option ℕ)) → length xs ≡ length ps → length ks ≡ length ps
      → body_count q (kept_rows (rows_from bs xs ks ps)) ≡ sum_from (at_row bs) ps
  kept_count bs [] ks [] few same = refl
  kept_count bs [] ks (p ∷ ps) few same = absurd (omega (arith, few))
  kept_count bs (x ∷ xs) ks [] few same = absurd (omega (arith, few))
  kept_count bs (x ∷ xs) [] (p ∷ ps) few same = absurd (omega (arith, same))
  kept_count bs (x ∷ xs) (k ∷ ks) (p ∷ ps) few same = by_source p (kept_count bs xs ks ps (omega (arith, few)) (omega (arith, same)))
    where
      rest : List Row
      rest = rows_from bs xs ks ps

      by_row : (o : Option Body) (r : Role) → body_count q (kept_rows rest) ≡ sum_from (at_row bs) ps
          → body_count q (kept_from (option_map (λ (b : Body). b.path) o) r ++ kept_rows rest) ≡ stands o + sum_from (at_row bs) ps
      by_row None r more = omega (arith, more)
      by_row (Some b) r more = omega (arith, more)

      by_source : (p : Option ℕ) → body_count q (kept_rows rest) ≡ sum_from (at_row bs) ps
          → body_count q (kept_rows (record { item = x; key = k; from = path_from bs p } ∷ rest)) ≡ at_place (at_row bs) p + sum_from (at_row bs) ps
      by_source None more = omega (arith, more)
      by_source (Some i) more = by_row (slice_get bs i) (role_for (record { item = x; key = k; from = path_from bs (Some i) })) more

  all_count : (w : ℕ → ℕ) (i : ℕ) (bs : List Body) → ((j : ℕ) → w (i + j) ≡ at_row bs j) → sum_on w i (keys_of bs) ≡ body_count q bs
  all_count w i [] same = refl
  all_count w i (b ∷ bs) same =
      let first : w (i + 0) ≡ stands (Some b) = same 0 in
      let here : i ≡ i + 0 = omega arith in
      let more = all_count w (i + 1) bs (λ j. ap w (next j) ∙ same (suc j)) in
      let one = ap w here in
      omega (arith, first, one, more)
    where
      next : (j : ℕ) → i + 1 + j ≡ i + suc j
      next j = omega arith

  each_stands : (bs : List Body) (xs : List Item) (ks : List TrackKey) → has_double (keys_of bs) ≡ false → has_double ks ≡ false → length xs ≡ length ks
      → body_count q (kept_rows (rows_from bs xs ks (map (row_of (keys_of bs)) ks))) + body_count q (bodies_at bs (gone_places (keys_of bs) ks)) ≡ body_count q bs
  each_stands bs xs ks one differ few =
      let long = length-map ks (row_of (keys_of bs)) in
      let kept = kept_count bs xs ks (map (row_of (keys_of bs)) ks) (few ∙ sym long) (sym long) in
      let gone = gone_count bs (gone_places (keys_of bs) ks) in
      let once = each_once (at_row bs) (keys_of bs) ks one differ in
      let all = all_count (at_row bs) 0 bs (λ j. ap (at_row bs) (from_none j)) in
      omega (arith, kept, gone, once, all)
    where
      from_none : (j : ℕ) → 0 + j ≡ j
      from_none j = omega arith

-- what is planned keeps each row, or lets it go
pub kept_or_gone : (bs : List Body) (xs : List Item) (ks : List TrackKey) (p : Plan) → has_double (keys_of bs) ≡ false → planned (keys_of bs) ks ≡ Ok p → length xs ≡ length ks
    → KeptOrGone bs p.gone (rows_from bs xs ks p.from)
kept_or_gone bs xs ks p one plan few = by_double (has_double ks) refl plan
  where
    plain : Plan
    plain = record { gone = gone_places (keys_of bs) ks; from = map (row_of (keys_of bs)) ks }

    by_double : (b : Bool) → has_double ks ≡ b → cond {A = Result Plan PlanFault} b (Err Dupes) (Ok plain) ≡ Ok p → KeptOrGone bs p.gone (rows_from bs xs ks p.from)
    by_double true is other = absurd (cc)
    by_double false is there =
        let same : plain ≡ p = cc in
        subst (λ (p : Plan). KeptOrGone bs p.gone (rows_from bs xs ks p.from)) same (λ q. each_stands q bs xs ks one is few)

-- there are as many keys as items
pub as_many : (objects : List Object) (o : ℕ) (r : Repeated) (i : ℕ) (done : List TrackKey) (xs : List Item) (ks : List TrackKey) → track_keys objects o r i done xs ≡ Ok ks → length ks ≡ length done + length xs
as_many objects o r i done [] ks is = let same : done ≡ ks = cc in ap length (sym same) ∙ omega arith
as_many objects o r i done (x ∷ xs) ks is =
    let (k, key, more) = bind_ok (track_key objects o r r.track i x) (λ k. track_keys objects o r (suc i) (done ++ k ∷ []) xs) ks is in
    let rest = as_many objects o r (suc i) (done ++ k ∷ []) xs ks more in
    let longer = length-append done (k ∷ []) in
    omega (arith, rest, longer)

-- the values of rows name objects that are there, where those of their items do
pub rows_stand : (count : ℕ) (bs : List Body) (xs : List Item) (ks : List TrackKey) (ps : List (Option ℕ)) → ItemsStand count xs → RowsOfStand count (rows_from bs xs ks ps)
rows_stand count bs [] ks ps h = tt
rows_stand count bs (x ∷ xs) [] ps h = tt
rows_stand count bs (x ∷ xs) (k ∷ ks) [] h = tt
rows_stand count bs (x ∷ xs) (k ∷ ks) (p ∷ ps) h = (h.0, rows_stand count bs xs ks ps h.1)

pub rows_wider : (m n : ℕ) → m ≤ n → (rs : List Row) → RowsOfStand m rs → RowsOfStand n rs
rows_wider m n le [] h = tt
rows_wider m n le (r ∷ rs) h = (stands_more m n le r.item.value h.0, rows_wider m n le rs h.1)
