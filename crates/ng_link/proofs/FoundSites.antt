-- The watchers of sites that were put are found.
use Rattle.std.proofs.Common.{◌≡◌, ℕ, zero, suc, List, [], ◌∷◌, Some, None, ap, ◌∙◌, sym, slice_get}
use Rattle.std.specs.List.Sorted.{IsStrictlySortedBy}
use Rattle.std.specs.Ordering.{nat_cmp}
use Rattle.std.proofs.lemmas.Map.Keys.{sorted_tail}
use Rattle.ng_base.specs.declared.path.Key.{Key}
use Rattle.ng_drawing.specs.Template.{Site}
use Rattle.ng_watch.specs.Table.{Table, found}
use Rattle.ng_instances.specs.Rows.{Row, with_row, with_sites}
use Rattle.ng_link.proofs.Serials.{first_apart}
use Rattle.ng_instances.proofs.Rows.{fresh_watcher, row_found, sites_other, row_numbers, numbered_at}

-- each is found under its key
pub sites_found : (rs : List Row) (xs : List Site) (t : Table) (j : ℕ) (r : Row) (x : Site) → IsStrictlySortedBy nat_cmp (row_numbers rs) → slice_get rs j ≡ Some r → slice_get xs j ≡ Some x → r.kept ≡ None
    → found r.key (with_sites rs xs t) ≡ Some (fresh_watcher r x)
sites_found [] xs t j r x o at is none = absurd (cc)
sites_found (q ∷ rs) [] t j r x o at is none = absurd (cc)
sites_found (q ∷ rs) (y ∷ ys) t zero r x o at is none =
    let one : q ≡ r = cc in
    let two : y ≡ x = cc in
    let kept : q.kept ≡ None = ap (λ (s : Row). s.kept) one ∙ none in
    ap (λ (s : Row). found s.key (with_sites rs ys (with_row q y t))) (sym one)
    ∙ (sites_other rs ys (with_row q y t) q.key (λ i s there e. first_apart q.key.serial.0 (row_numbers rs) i s.key.serial.0 o (numbered_at rs i s there) (ap (λ (k : Key). k.serial.0) e))
    ∙ (row_found q y t kept ∙ (ap (λ (s : Row). Some (fresh_watcher s y)) one ∙ ap (λ (z : Site). Some (fresh_watcher r z)) two)))
sites_found (q ∷ rs) (y ∷ ys) t (suc j) r x o at is none = sites_found rs ys (with_row q y t) j r x (sorted_tail nat_cmp q.key.serial.0 (row_numbers rs) o) at is none
