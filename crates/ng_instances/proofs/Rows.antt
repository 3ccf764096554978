-- The watchers of sites that were put among others.
use Rattle.std.proofs.Common.{◌≡◌, ◌+◌, ℕ, suc, List, [], ◌∷◌, Option, Some, None, refl, ap, ◌∙◌, map, length, arith, slice_get}
use Rattle.std.specs.Prelude.{option_map}
use Rattle.std.proofs.lemmas.Option.{slice_get-map}
use Rattle.ng_base.specs.Views.{ViewTree}
use Rattle.ng_base.specs.declared.path.Key.{Key}
use Rattle.ng_drawing.specs.Template.{Site}
use Rattle.ng_watch.specs.Seen.{Watcher}
use Rattle.ng_watch.specs.Table.{Table, found, with_watch}
use Rattle.ng_build.specs.Building.{AllAt}
use Rattle.ng_instances.specs.Rows.{Row, watching_site, with_first, with_row, with_sites, spots_by}
use Rattle.ng_build.proofs.Tables.{put-other, put-same}
use Rattle.ng_instances.proofs.Keeping.{kept-other}

-- the watcher of a site that was linked just now and has kept nothing
abbrev pub fresh_watcher : Row → Site → Watcher
fresh_watcher r x = record { watch = watching_site r.object r.way x; kept = None }

first_other : (k q : Key) (v : Option ViewTree) (t : Table) → (q ≡ k → ⊥) → found q (with_first k v t) ≡ found q t
first_other k q None t ne = refl
first_other k q (Some v) t ne = kept-other k q (Some v) t ne

row_other : (r : Row) (x : Site) (t : Table) (k : Key) → (k ≡ r.key → ⊥) → found k (with_row r x t) ≡ found k t
row_other r x t k ne = first_other r.key k r.kept (with_watch r.key (watching_site r.object r.way x) t) ne ∙ put-other r.key k (fresh_watcher r x) t ne

pub row_found : (r : Row) (x : Site) (t : Table) → r.kept ≡ None → found r.key (with_row r x t) ≡ Some (fresh_watcher r x)
row_found r x t none =
    ap (λ (v : Option ViewTree). found r.key (with_first r.key v (with_watch r.key (watching_site r.object r.way x) t))) none ∙ put-same r.key (fresh_watcher r x) t

-- at a key that is none of theirs, the same is found
pub sites_other : (rs : List Row) (xs : List Site) (t : Table) (k : Key) → ((j : ℕ) (r : Row) → slice_get rs j ≡ Some r → k ≡ r.key → ⊥) → found k (with_sites rs xs t) ≡ found k t
sites_other [] xs t k apart = refl
sites_other (r ∷ rs) [] t k apart = refl
sites_other (r ∷ rs) (x ∷ xs) t k apart = sites_other rs xs (with_row r x t) k (λ j s at e. apart (suc j) s at e) ∙ row_other r x t k (λ e. apart 0 r refl e)

-- their numbers of registration
abbrev pub row_numbers : List Row → List ℕ
row_numbers rs = map (λ (r : Row). r.key.serial.0) rs

pub numbered_at : (rs : List Row) (j : ℕ) (r : Row) → slice_get rs j ≡ Some r → slice_get (row_numbers rs) j ≡ Some r.key.serial.0
numbered_at rs j r at = slice_get-map (λ (s : Row). s.key.serial.0) rs j ∙ ap (option_map (λ (s : Row). s.key.serial.0)) at

-- places at rising keys
pub all_at : (site : Key → Option ℕ) (keys : ℕ → Key) (n : ℕ) (xs : List ℕ) → ((j x : ℕ) → slice_get xs j ≡ Some x → site (keys (n + j)) ≡ Some x) → AllAt site keys n xs
all_at site keys n [] each = tt
all_at site keys n (x ∷ xs) each =
    let here : site (keys (n + 0)) ≡ Some x = each 0 x refl in (
      ap (λ (k : ℕ). site (keys k)) (let same : n ≡ n + 0 = omega arith in same) ∙ here,
      all_at site keys (n + 1) xs (λ j y e. ap (λ (k : ℕ). site (keys k)) (let same : n + 1 + j ≡ n + suc j = omega arith in same) ∙ each (suc j) y e),
    )

-- without nodes no place is entered
pub spots_end : (ss ns : List ℕ) (m : List (ℕ × ℕ)) → length ns ≡ 0 → spots_by ss ns m ≡ m
spots_end [] ns m e = refl
spots_end (s ∷ ss) [] m e = refl
spots_end (s ∷ ss) (n ∷ ns) m e = absurd (omega (arith, e))
