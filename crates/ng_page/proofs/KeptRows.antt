-- The rows of a repeat: those that are kept are some of those that stood, each at most once; and their roles are those of the entries.
use Rattle.std.proofs.Common.{◌≡◌, ◌≤◌, ◌<◌, ◌+◌, ℕ, zero, suc, Bool, true, false, List, [], ◌∷◌, ◌++◌, length, map, cond, Option, Some, None, Ok, Err, refl, ap, sym, subst, ◌∙◌, arith, slice_get, get_or, append-nil, append_assoc}
use Rattle.std.specs.Prelude.{◌||◌, ◌&&◌, option_map}
use Rattle.std.specs.List.{AllByRecursion}
use Rattle.std.proofs.lemmas.List.{map-append}
use Rattle.std.proofs.lemmas.List.Quantifiers.{position-Some}
use Rattle.std.proofs.lemmas.Slice.Eq.{bytes_eq-Decides}
use Rattle.ng_core.specs.Keeping.{stores}
use Rattle.ng_core.specs.State as act
use Rattle.ng_core.specs.State.{Run, ◌>>=◌}
use Rattle.ng_base.specs.Views.{ViewTree}
use Rattle.ng_blocks.specs.Plans.{is_among, has_double, row_of, gone_places, planned}
use Rattle.ng_blocks.specs.SameKeys.{same_key, same_key-Decides}
use Rattle.ng_blocks.specs.declared.keys.TrackKey.{TrackKey}
use Rattle.ng_blocks.specs.declared.plans.Plan.{Plan}
use Rattle.ng_blocks.specs.declared.plans.PlanFault.TheVariants.{Dupes}
use Rattle.ng_dom.specs.Lists.{put_at}
use Rattle.ng_drawing.specs.Roles.{Entry, Role, a_row, same_name, same_entry, are_rows}
use Rattle.ng_rows.specs.RepeatRows.{items_made, Row, path_from, rows_from, role_for, kept_from, kept_rows, as_fault}
use Rattle.ng_fire.specs.Repeats.{body_at, bodies_at}
use Rattle.ng_rows.specs.Tracking.{Item}
use Rattle.ng_language.specs.Snapshots.{same_view}
use Rattle.ng_instances.specs.Instances.{Body, is_path}
use Rattle.ng_link.specs.Standing.{body_count}
use Rattle.ng_link.proofs.PathsBelow.{same_path}
use Rattle.ng_value.proofs.Sameness.{same_view_self}
use Rattle.ng_write.specs.Making.{value_in}

all_append : (P : Body → Type 0) (bs cs : List Body) → AllByRecursion P bs → AllByRecursion P cs → AllByRecursion P (bs ++ cs)
all_append P [] cs one two = two
all_append P (b ∷ bs) cs one two = (one.0, all_append P bs cs one.1 two)

all_at : (P : Body → Type 0) (bs : List Body) (i : ℕ) (b : Body) → AllByRecursion P bs → slice_get bs i ≡ Some b → P b
all_at P [] i b all at = absurd (cc)
all_at P (c ∷ bs) zero b all at = let same : c ≡ b = cc in subst P same all.0
all_at P (c ∷ bs) (suc i) b all at = all_at P bs i b all.1 at

count_append : (q : List ℕ) (bs cs : List Body) → body_count q (bs ++ cs) ≡ body_count q bs + body_count q cs
count_append q [] cs = omega arith
count_append q (b ∷ bs) cs = let more = count_append q bs cs in omega (arith, more)

-- ---- a row that is kept is on the path of one that stood

from_cases : (P : List Body → Type 0) (bs : List Body) (p : Option ℕ) (r : Role) → P [] → ((i : ℕ) (b : Body) → p ≡ Some i → slice_get bs i ≡ Some b → P (record { path = b.path; role = r } ∷ [])) → P (kept_from (path_from bs p) r)
from_cases P bs None r none some = none
from_cases P bs (Some i) r none some = by_body (slice_get bs i) refl
  where
    by_body : (o : Option Body) → slice_get bs i ≡ o → P (kept_from (option_map (λ (b : Body). b.path) o) r)
    by_body None e = none
    by_body (Some b) e = some i b refl e

-- what holds of the paths of those that stood holds of those that are kept
pub all_kept : (P : Body → Type 0) → ((b c : Body) → c.path ≡ b.path → P b → P c) → (bs : List Body) → AllByRecursion P bs → (xs : List Item) (ks : List TrackKey) (ps : List (Option ℕ)) → AllByRecursion P (kept_rows (rows_from bs xs ks ps))
all_kept P same bs all [] ks ps = tt
all_kept P same bs all (x ∷ xs) [] ps = tt
all_kept P same bs all (x ∷ xs) (k ∷ ks) [] = tt
all_kept P same bs all (x ∷ xs) (k ∷ ks) (p ∷ ps) =
    all_append P (kept_from (path_from bs p) (a_row k x.entry)) (kept_rows (rows_from bs xs ks ps))
    (from_cases (AllByRecursion P) bs p (a_row k x.entry) tt (λ i b e at. (same b (record { path = b.path; role = a_row k x.entry }) refl (all_at P bs i b all at), tt)))
    (all_kept P same bs all xs ks ps)

module _ (q : List ℕ) where
  -- the path is that of the row at a place
  abbrev IsThere : List Body → ℕ → Type 0
  IsThere bs i = (b : Body) × (slice_get bs i ≡ Some b) × (is_path q b.path ≡ true)

  there_counted : (bs : List Body) (i : ℕ) → IsThere bs i → 0 < body_count q bs
  there_counted [] i h = let none = h.1 in absurd (cc)
  there_counted (b ∷ bs) zero h =
      let same : b ≡ h.0 = (let at = h.1 in cc) in
      let one : cond {A = ℕ} (is_path q b.path) 1 0 ≡ 1 = ap (λ (t : Bool). cond {A = ℕ} t 1 0) (ap (λ (c : Body). is_path q c.path) same ∙ h.2) in
      omega (arith, one)
  there_counted (b ∷ bs) (suc i) h = let more = there_counted bs i h in omega (arith, more)

  one_place : (bs : List Body) (i j : ℕ) → body_count q bs ≤ 1 → IsThere bs i → IsThere bs j → i ≡ j
  one_place [] i j few h g = let none = h.1 in absurd (cc)
  one_place (b ∷ bs) zero zero few h g = refl
  one_place (b ∷ bs) zero (suc j) few h g =
      let same : b ≡ h.0 = (let at = h.1 in cc) in
      let one : cond {A = ℕ} (is_path q b.path) 1 0 ≡ 1 = ap (λ (t : Bool). cond {A = ℕ} t 1 0) (ap (λ (c : Body). is_path q c.path) same ∙ h.2) in
      let more = there_counted bs j g in
      absurd (omega (arith, few, one, more))
  one_place (b ∷ bs) (suc i) zero few h g =
      let same : b ≡ g.0 = (let at = g.1 in cc) in
      let one : cond {A = ℕ} (is_path q b.path) 1 0 ≡ 1 = ap (λ (t : Bool). cond {A = ℕ} t 1 0) (ap (λ (c : Body). is_path q c.path) same ∙ g.2) in
      let more = there_counted bs i h in
      absurd (omega (arith, few, one, more))
  one_place (b ∷ bs) (suc i) (suc j) few h g = ap suc (one_place bs i j (omega (arith, few)) h g)

  -- ---- none is kept twice

  abbrev NotIn : ℕ → List (Option ℕ) → Type 0
  NotIn i ps = AllByRecursion (λ (p : Option ℕ). p ≡ Some i → ⊥) ps

  none_kept : (bs : List Body) (i : ℕ) → body_count q bs ≤ 1 → IsThere bs i → (xs : List Item) (ks : List TrackKey) (ps : List (Option ℕ)) → NotIn i ps → body_count q (kept_rows (rows_from bs xs ks ps)) ≡ 0
  none_kept bs i few there [] ks ps out = refl
  none_kept bs i few there (x ∷ xs) [] ps out = refl
  none_kept bs i few there (x ∷ xs) (k ∷ ks) [] out = refl
  none_kept bs i few there (x ∷ xs) (k ∷ ks) (p ∷ ps) out =
      let here : body_count q (kept_from (path_from bs p) (a_row k x.entry)) ≡ 0 = from_cases (λ (cs : List Body). body_count q cs ≡ 0) bs p (a_row k x.entry) refl (λ j b e at. by_path j b e at (is_path q b.path) refl) in
      let more = none_kept bs i few there xs ks ps out.1 in
      let all = count_append q (kept_from (path_from bs p) (a_row k x.entry)) (kept_rows (rows_from bs xs ks ps)) in
      omega (arith, here, more, all)
    where
      by_path : (j : ℕ) (b : Body) → p ≡ Some j → slice_get bs j ≡ Some b → (t : Bool) → is_path q b.path ≡ t → body_count q (record { path = b.path; role = a_row k x.entry } ∷ []) ≡ 0
      by_path j b e at true is = absurd (out.0 (e ∙ ap (λ (n : ℕ). Some n) (one_place bs j i few (b, at, is) there)))
      by_path j b e at false is = let none : cond {A = ℕ} (is_path q b.path) 1 0 ≡ 0 = ap (λ (t : Bool). cond {A = ℕ} t 1 0) is in omega (arith, none)

  each_none : (bs : List Body) → body_count q bs ≡ 0 → AllByRecursion (λ (b : Body). cond {A = ℕ} (is_path q b.path) 1 0 ≡ 0) bs
  each_none [] e = tt
  each_none (b ∷ bs) e = (omega (arith, e), each_none bs (omega (arith, e)))

  none_each : (bs : List Body) → AllByRecursion (λ (b : Body). cond {A = ℕ} (is_path q b.path) 1 0 ≡ 0) bs → body_count q bs ≡ 0
  none_each [] all = refl
  none_each (b ∷ bs) all = let here = all.0 in let more = none_each bs all.1 in omega (arith, here, more)

  -- what is kept on a path stood there
  pub kept_stood : (bs : List Body) (xs : List Item) (ks : List TrackKey) (ps : List (Option ℕ)) → 0 < body_count q (kept_rows (rows_from bs xs ks ps)) → 0 < body_count q bs
  kept_stood bs xs ks ps some = by_count (body_count q bs) refl
    where
      by_count : (n : ℕ) → body_count q bs ≡ n → 0 < body_count q bs
      by_count zero e =
          let none : body_count q (kept_rows (rows_from bs xs ks ps)) ≡ 0 = none_each (kept_rows (rows_from bs xs ks ps)) (all_kept (λ (b : Body). cond {A = ℕ} (is_path q b.path) 1 0 ≡ 0) (λ b c same h. ap (λ (p : List ℕ). cond {A = ℕ} (is_path q p) 1 0) same ∙ h) bs (each_none bs e) xs ks ps) in
          absurd (omega (arith, some, none))
      by_count (suc n) e = omega (arith, e)

-- no two places are one
abbrev pub AreApart : List (Option ℕ) → Type 0
AreApart [] = Unit {0}
AreApart (None ∷ ps) = AreApart ps
AreApart (Some i ∷ ps) = AllByRecursion (λ (p : Option ℕ). p ≡ Some i → ⊥) ps × AreApart ps

pub kept_once : (q : List ℕ) (bs : List Body) → body_count q bs ≤ 1 → (xs : List Item) (ks : List TrackKey) (ps : List (Option ℕ)) → AreApart ps → body_count q (kept_rows (rows_from bs xs ks ps)) ≤ 1
kept_once q bs few [] ks ps apart = omega arith
kept_once q bs few (x ∷ xs) [] ps apart = omega arith
kept_once q bs few (x ∷ xs) (k ∷ ks) [] apart = omega arith
kept_once q bs few (x ∷ xs) (k ∷ ks) (None ∷ ps) apart = kept_once q bs few xs ks ps apart
kept_once q bs few (x ∷ xs) (k ∷ ks) (Some j ∷ ps) apart = by_body (slice_get bs j) refl (kept_once q bs few xs ks ps apart.1)
  where
    rest : List Body
    rest = kept_rows (rows_from bs xs ks ps)

    by_path : (b : Body) → slice_get bs j ≡ Some b → (t : Bool) → is_path q b.path ≡ t → body_count q rest ≤ 1 → cond {A = ℕ} (is_path q b.path) 1 0 + body_count q rest ≤ 1
    by_path b at true is more =
        let none : body_count q rest ≡ 0 = none_kept q bs j few (b, at, is) xs ks ps apart.0 in
        let one : cond {A = ℕ} (is_path q b.path) 1 0 ≡ 1 = ap (λ (t : Bool). cond {A = ℕ} t 1 0) is in
        omega (arith, none, one)
    by_path b at false is more = let none : cond {A = ℕ} (is_path q b.path) 1 0 ≡ 0 = ap (λ (t : Bool). cond {A = ℕ} t 1 0) is in omega (arith, none, more)

    by_body : (o : Option Body) → slice_get bs j ≡ o → body_count q rest ≤ 1 → body_count q (kept_from (option_map (λ (b : Body). b.path) o) (a_row k x.entry) ++ rest) ≤ 1
    by_body None at more = more
    by_body (Some b) at more = by_path b at (is_path q b.path) refl more

-- rows that go are of those that stood
pub gone_stood : (bs : List Body) (is : List ℕ) → AllByRecursion (λ (b : Body). 0 < body_count b.path bs) (bodies_at bs is)
gone_stood bs [] = tt
gone_stood bs (i ∷ is) = all_append (λ (b : Body). 0 < body_count b.path bs) (body_at (slice_get bs i)) (bodies_at bs is) (by_body (slice_get bs i) refl) (gone_stood bs is)
  where
    by_body : (o : Option Body) → slice_get bs i ≡ o → AllByRecursion (λ (b : Body). 0 < body_count b.path bs) (body_at o)
    by_body None at = tt
    by_body (Some b) at = (there_counted b.path bs i (b, at, same_path b.path), tt)

-- ---- keys that differ have rows that differ

either_false : (b c : Bool) → (b || c) ≡ false → (b ≡ false) × (c ≡ false)
either_false true c e = absurd (cc)
either_false false c e = (refl, e)

key_there : (old : List TrackKey) (k : TrackKey) (i : ℕ) (d : TrackKey) → row_of old k ≡ Some i → k ≡ get_or old i d
key_there old k i d e = (same_key-Decides k (get_or old i d)).0 (position-Some (same_key k) old i d e).1

not_again : (old : List TrackKey) (k : TrackKey) (i : ℕ) → row_of old k ≡ Some i → (ks : List TrackKey) → is_among ks k ≡ false → AllByRecursion (λ (p : Option ℕ). p ≡ Some i → ⊥) (map (row_of old) ks)
not_again old k i at [] out = tt
not_again old k i at (l ∷ ks) out =
    let two = either_false (same_key k l) (is_among ks k) out in (
      (λ e. let same : k ≡ l = key_there old k i k at ∙ sym (key_there old l i k e) in let yes : true ≡ false = sym ((same_key-Decides k l).1 same) ∙ two.0 in cc),
      not_again old k i at ks two.1,
    )

pub rows_apart : (old ks : List TrackKey) → has_double ks ≡ false → AreApart (map (row_of old) ks)
rows_apart old [] e = tt
rows_apart old (k ∷ ks) e = by_place (row_of old k) refl (rows_apart old ks two.1)
  where
    two : (is_among ks k ≡ false) × (has_double ks ≡ false)
    two = either_false (is_among ks k) (has_double ks) e

    by_place : (o : Option ℕ) → row_of old k ≡ o → AreApart (map (row_of old) ks) → AreApart (o ∷ map (row_of old) ks)
    by_place None at more = more
    by_place (Some i) at more = (not_again old k i at ks two.0, more)

pub plan_is : (old ks : List TrackKey) (p : Plan) → as_fault (planned old ks) ≡ Ok p → (p.from ≡ map (row_of old) ks) × (has_double ks ≡ false)
plan_is old ks p e = by_double (has_double ks) refl e
  where
    plan : Plan
    plan = record { gone = gone_places old ks; from = map (row_of old) ks }

    by_double : (b : Bool) → has_double ks ≡ b → as_fault (cond b (Err Dupes) (Ok plan)) ≡ Ok p → (p.from ≡ map (row_of old) ks) × (has_double ks ≡ false)
    by_double true d e = absurd (cc)
    by_double false d e = let same : plan ≡ p = cc in (ap (λ (x : Plan). x.from) (sym same), d)

-- ---- the rows are those of the entries

abbrev entry_of : Item → Entry
entry_of x = x.entry

pub items_entries : (es : List Entry) (done : List Item) (c : act.State) (xs : List Item) → (items_made es done c).1 ≡ Ok xs → map entry_of xs ≡ map entry_of done ++ es
items_entries [] done c xs h = let same : done ≡ xs = cc in ap (map entry_of) (sym same) ∙ sym (append-nil (map entry_of done))
items_entries (e ∷ es) done c xs h = by_stored (stores e.value c) h (λ more d g. items_entries es more d xs g)
  where
    by_stored : (r : Run ViewTree) → ((r >>= λ t d. (let x : Item = record { entry = e; value = value_in t } in (d, Ok x))) >>= λ x d. items_made es (done ++ x ∷ []) d).1 ≡ Ok xs
        → ((more : List Item) (d : act.State) → (items_made es more d).1 ≡ Ok xs → map entry_of xs ≡ map entry_of more ++ es) → map entry_of xs ≡ map entry_of done ++ e ∷ es
    by_stored (d, Ok t) h all =
        let x : Item = record { entry = e; value = value_in t } in
        all (done ++ x ∷ []) d h ∙ (ap (λ (fs : List Entry). fs ++ es) (map-append entry_of done (x ∷ [])) ∙ append_assoc (map entry_of done) (e ∷ []) es)
    by_stored (d, Err f) h all = absurd (cc)

pub rows_entries : (bs : List Body) (xs : List Item) (ks : List TrackKey) (ps : List (Option ℕ)) → length ks ≡ length xs → length ps ≡ length ks → map (λ (r : Row). r.item.entry) (rows_from bs xs ks ps) ≡ map entry_of xs
rows_entries bs [] ks ps e f = refl
rows_entries bs (x ∷ xs) [] ps e f = absurd (omega (arith, e))
rows_entries bs (x ∷ xs) (k ∷ ks) [] e f = absurd (omega (arith, f))
rows_entries bs (x ∷ xs) (k ∷ ks) (p ∷ ps) e f = ap (λ (es : List Entry). x.entry ∷ es) (rows_entries bs xs ks ps (omega (arith, e)) (omega (arith, f)))

name_itself : (o : Option (List ℕ)) → same_name o o ≡ true
name_itself None = refl
name_itself (Some a) = (bytes_eq-Decides a a).1 refl

entry_itself : (e : Entry) → same_entry e e ≡ true
entry_itself e = ap (λ (b : Bool). b && same_view e.value e.value) (name_itself e.name) ∙ same_view_self e.value

pub own_rows : (rs : List Row) → are_rows (map (λ (r : Row). r.item.entry) rs) (map role_for rs) ≡ true
own_rows [] = refl
own_rows (r ∷ rs) = ap (λ (b : Bool). b && are_rows (map (λ (x : Row). x.item.entry) rs) (map role_for rs)) (entry_itself r.item.entry) ∙ own_rows rs

-- a body that is put behind so many
pub put_here : (n : ℕ) (b : Body) (bs rest : List Body) → length bs ≡ n → put_at n b (bs ++ rest) ≡ bs ++ b ∷ rest
put_here zero b [] rest e = refl
put_here (suc n) b [] rest e = absurd (omega (arith, e))
put_here zero b (c ∷ bs) rest e = absurd (omega (arith, e))
put_here (suc n) b (c ∷ bs) rest e = ap (λ (cs : List Body). c ∷ cs) (put_here n b bs rest (omega (arith, e)))
