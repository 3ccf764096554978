-- The scopes and keys of an instance that is linked, by what linking came to.
use Rattle.std.proofs.Common.{◌≡◌, ◌<◌, ◌+◌, ℕ, zero, suc, Bool, true, false, cond, List, [], ◌∷◌, Some, None, refl, ap, ◌∙◌, sym, subst, map, slice_get, slice_index_or, arith}
use Rattle.std.specs.Prelude.{◌==◌, ◌&&◌, ◌||◌, drop, unwrap_or}
use Rattle.std.specs.BTreeMap.{insert_entry, is_at}
use Rattle.std.specs.List.{AllByRecursion}
use Rattle.std.specs.List.Sorted.{IsStrictlySortedBy}
use Rattle.std.specs.Map.{lookup}
use Rattle.std.specs.Ordering.{is_eq, nat_cmp, match_ordering}
use Rattle.std.specs.declared.cmp.Ordering.{Ordering}
use Rattle.std.specs.declared.cmp.Ordering.TheVariants.{Less, Equal, Greater}
use Rattle.std.proofs.lemmas.Bool.{eqb-true}
use Rattle.std.proofs.lemmas.Cmp.{tied_itself, nat_cmp_total}
use Rattle.std.proofs.lemmas.Map.Keys.{sorted_tail}
use Rattle.ng_base.specs.declared.path.Key.{Key}
use Rattle.ng_behaviour.specs.Scopes.{Scope, path_at, live_at}
use Rattle.ng_drawing.specs.Template.{SiteScopes, Fragment}
use Rattle.ng_drawing.specs.declared.origin.Origin.{Origin}
use Rattle.ng_behaviour.specs.Keys.{begins}
use Rattle.ng_instances.specs.Changing.{any_on}
use Rattle.ng_link.specs.Calls.{page_on}
use Rattle.ng_instances.specs.Instances.{Inner, Page, inner_or, scope_number, scope_path, key_in, keys_of}
use Rattle.ng_instances.specs.Registering.{Ground, scope_in_ground, IsGrounded, Registered, own_mark, mark_at, Marks, mark_in, is_own, with_mark, marks_from, site_key, keys_on, row_at, rows_from, site_rows, any_lives}
use Rattle.ng_instances.specs.Rows.{Row}
use Rattle.ng_build.specs.Shape.{key_on, keys_by}
use Rattle.ng_link.specs.Standing.{IsBelow}
use Rattle.ng_build.proofs.Keys.{equal_numbers}
use Rattle.ng_build.proofs.Paths.{begins_itself}
use Rattle.ng_link.proofs.PathsBelow.{below_begins}
use Rattle.ng_link.proofs.Serials.{first_apart, not_at}

-- a mark is noted
mark_put : (s : ℕ) (m : SiteScopes) (ms : Marks) → mark_in (insert_entry nat_cmp ms s m) s ≡ m
mark_put s m [] = ap (λ (b : Bool). unwrap_or (cond b (Some m) None) own_mark) (ap is_eq (tied_itself nat_cmp_total s))
mark_put s m (e ∷ es) = by_order (nat_cmp s e.0) refl (mark_put s m es)
  where
    by_order : (o : Ordering) → nat_cmp s e.0 ≡ o → mark_in (insert_entry nat_cmp es s m) s ≡ m → mark_in (match_ordering o ((s, m) ∷ e ∷ es) ((e.0, m) ∷ es) (e ∷ insert_entry nat_cmp es s m)) s ≡ m
    by_order Less is more = ap (λ (b : Bool). unwrap_or (cond b (Some m) (lookup (is_at (nat_cmp s)) (e ∷ es))) own_mark) (ap is_eq (tied_itself nat_cmp_total s))
    by_order Equal is more = ap (λ (b : Bool). unwrap_or (cond b (Some m) (lookup (is_at (nat_cmp s)) es)) own_mark) (ap is_eq is)
    by_order Greater is more = ap (λ (b : Bool). unwrap_or (cond b (Some e.1) (lookup (is_at (nat_cmp s)) (insert_entry nat_cmp es s m))) own_mark) (ap is_eq is) ∙ more

mark_past : (s q : ℕ) (m : SiteScopes) (ms : Marks) → is_at (nat_cmp q) s ≡ false → mark_in (insert_entry nat_cmp ms s m) q ≡ mark_in ms q
mark_past s q m [] off = ap (λ (b : Bool). unwrap_or (cond b (Some m) None) own_mark) off
mark_past s q m (e ∷ es) off = by_order (nat_cmp s e.0) refl (mark_past s q m es off)
  where
    apart : is_eq (nat_cmp s e.0) ≡ true → is_at (nat_cmp q) e.0 ≡ false
    apart is = ap (is_at (nat_cmp q)) (sym (equal_numbers s e.0 is)) ∙ off

    by_order : (o : Ordering) → nat_cmp s e.0 ≡ o → mark_in (insert_entry nat_cmp es s m) q ≡ mark_in es q → mark_in (match_ordering o ((s, m) ∷ e ∷ es) ((e.0, m) ∷ es) (e ∷ insert_entry nat_cmp es s m)) q ≡ mark_in (e ∷ es) q
    by_order Less is more = ap (λ (b : Bool). unwrap_or (cond b (Some m) (lookup (is_at (nat_cmp q)) (e ∷ es))) own_mark) off
    by_order Equal is more =
        ap (λ (b : Bool). unwrap_or (cond b (Some m) (lookup (is_at (nat_cmp q)) es)) own_mark) (apart (ap is_eq is))
        ∙ sym (ap (λ (b : Bool). unwrap_or (cond b (Some e.1) (lookup (is_at (nat_cmp q)) es)) own_mark) (apart (ap is_eq is)))
    by_order Greater is more = by_test (is_at (nat_cmp q) e.0)
      where
        by_test : (b : Bool) → unwrap_or (cond b (Some e.1) (lookup (is_at (nat_cmp q)) (insert_entry nat_cmp es s m))) own_mark ≡ unwrap_or (cond b (Some e.1) (lookup (is_at (nat_cmp q)) es)) own_mark
        by_test true = refl
        by_test false = more

own_is : (m : SiteScopes) → is_own m ≡ true → own_mark ≡ m
own_is m e =
    let two = both (m.under == 0) (m.over == 0) e in
    let under : m.under ≡ 0 = eqb-true m.under 0 two.0 in
    let over : m.over ≡ 0 = eqb-true m.over 0 two.1 in
    ap (λ (n : ℕ). let x : SiteScopes = record { under = n; over = 0 } in x) (sym under) ∙ ap (λ (n : ℕ). let x : SiteScopes = record { under = m.under; over = n } in x) (sym over)
  where
    both : (b c : Bool) → (b && c) ≡ true → (b ≡ true) × (c ≡ true)
    both true c f = (refl, f)
    both false c f = absurd (cc)

with_here : (s : ℕ) (m : SiteScopes) (ms : Marks) → mark_in ms s ≡ own_mark → mark_in (with_mark s m ms) s ≡ m
with_here s m ms none = by_own (is_own m) refl
  where
    by_own : (b : Bool) → is_own m ≡ b → mark_in (cond b ms (insert_entry nat_cmp ms s m)) s ≡ m
    by_own true e = none ∙ own_is m e
    by_own false e = mark_put s m ms

with_other : (s q : ℕ) (m : SiteScopes) (ms : Marks) → is_at (nat_cmp q) s ≡ false → mark_in (with_mark s m ms) q ≡ mark_in ms q
with_other s q m ms off = by_own (is_own m)
  where
    by_own : (b : Bool) → mark_in (cond b ms (insert_entry nat_cmp ms s m)) q ≡ mark_in ms q
    by_own true = refl
    by_own false = mark_past s q m ms off

marks_other : (f : Fragment) (k : ℕ) (ss : List ℕ) (ms : Marks) (q : ℕ) → ((j s : ℕ) → slice_get ss j ≡ Some s → s ≡ q → ⊥) → mark_in (marks_from f k ss ms) q ≡ mark_in ms q
marks_other f k [] ms q apart = refl
marks_other f k (s ∷ ss) ms q apart = marks_other f (k + 1) ss (with_mark s (mark_at f k) ms) q (λ j t at. apart (suc j) t at) ∙ with_other s q (mark_at f k) ms (not_at q s (λ e. apart 0 s refl (sym e)))

marks_at : (f : Fragment) (k : ℕ) (ss : List ℕ) (ms : Marks) → IsStrictlySortedBy nat_cmp ss → ((j s : ℕ) → slice_get ss j ≡ Some s → mark_in ms s ≡ own_mark) → (i n : ℕ) → slice_get ss i ≡ Some n → mark_in (marks_from f k ss ms) n ≡ mark_at f (k + i)
marks_at f k [] ms o none i n at = absurd (cc)
marks_at f k (s ∷ ss) ms o none zero n at =
    let one : s ≡ n = cc in
    ap (λ (q : ℕ). mark_in (marks_from f (k + 1) ss (with_mark s (mark_at f k) ms)) q) (sym one)
    ∙ (marks_other f (k + 1) ss (with_mark s (mark_at f k) ms) s (λ j t there same. first_apart s ss j t o there (sym same))
    ∙ (with_here s (mark_at f k) ms (none 0 s refl) ∙ ap (mark_at f) (let same : k ≡ k + 0 = omega arith in same)))
marks_at f k (s ∷ ss) ms o none (suc i) n at =
    marks_at f (k + 1) ss (with_mark s (mark_at f k) ms) (sorted_tail nat_cmp s ss o)
    (λ j t there. with_other s t (mark_at f k) ms (not_at t s (λ same. first_apart s ss j t o there (sym same))) ∙ none (suc j) t there) i n at
    ∙ ap (mark_at f) (let same : k + 1 + i ≡ k + suc i = omega arith in same)

-- each site is noted with its scopes
pub marks_found : (f : Fragment) (ss : List ℕ) → IsStrictlySortedBy nat_cmp ss → (i n : ℕ) → slice_get ss i ≡ Some n → mark_in (marks_from f 0 ss []) n ≡ mark_at f i
marks_found f ss o i n at = marks_at f 0 ss [] o (λ j s there. refl) i n at ∙ ap (mark_at f) (let same : 0 + i ≡ i = omega arith in same)

-- the scopes of an instance, by their numbers
module _ (scopes : List Scope) (which : Origin) (scope : ℕ) (f : Fragment) (r : Registered) (node : ℕ) (own : r.at_hand.scopes ≡ scope ∷ drop 1 r.at_hand.scopes) where
  abbrev page : Page
  page = page_on scopes which scope f r node

  abbrev inner_of : ℕ → Inner
  inner_of n = record { scope = n; path = path_at scopes n }

  index_map : (xs : List ℕ) (i d : ℕ) → slice_index_or (map inner_of xs) i (inner_of d) ≡ inner_of (slice_index_or xs i d)
  index_map [] i d = refl
  index_map (x ∷ xs) zero d = refl
  index_map (x ∷ xs) (suc i) d = index_map xs i d

  by_scopes : (rest : List ℕ) (n : ℕ) → inner_or (inner_of scope) n (map inner_of rest) ≡ inner_of (slice_index_or (scope ∷ rest) n scope)
  by_scopes rest zero = refl
  by_scopes rest (suc n) = index_map rest n scope

  pub ground_inner : (n : ℕ) → inner_or (inner_of scope) n page.inner ≡ inner_of (scope_in_ground r.at_hand n)
  ground_inner n =
      by_scopes (drop 1 r.at_hand.scopes) n
      ∙ ap inner_of (ap (λ (xs : List ℕ). slice_index_or xs n (slice_index_or xs 0 0)) (sym own))

  pub ground_scope : (n : ℕ) → scope_number page n ≡ scope_in_ground r.at_hand n
  ground_scope n = ap (λ (i : Inner). i.scope) (ground_inner n)

  pub ground_path : (n : ℕ) → scope_path page n ≡ path_at scopes (scope_in_ground r.at_hand n)
  ground_path n = ap (λ (i : Inner). i.path) (ground_inner n)

  module _ (rising : IsStrictlySortedBy nat_cmp r.serials) where
    marked : (i n : ℕ) → slice_get r.serials i ≡ Some n → mark_in page.marks n ≡ mark_at f i
    marked i n at = marks_found f r.serials rising i n at

    -- the key of a site
    pub key_at : (i n : ℕ) → slice_get r.serials i ≡ Some n → key_in page n ≡ site_key scopes r.at_hand (mark_at f i) n
    key_at i n at = ap (λ (m : SiteScopes). key_on (scope_path page m.under) n) (marked i n at) ∙ ap (λ (p : List ℕ). key_on p n) (ground_path (mark_at f i).under)

    keys_from : (k : ℕ) (ns : List ℕ) → ((i n : ℕ) → slice_get ns i ≡ Some n → slice_get r.serials (k + i) ≡ Some n) → keys_on scopes f r.at_hand k ns ≡ map (key_in page) ns
    keys_from k [] there = refl
    keys_from k (n ∷ ns) there =
        let first : slice_get r.serials k ≡ Some n = ap (slice_get r.serials) (let same : k ≡ k + 0 = omega arith in same) ∙ there 0 n refl in
        ap (λ (x : Key). x ∷ keys_on scopes f r.at_hand (k + 1) ns) (sym (key_at k n first))
        ∙ ap (λ (xs : List Key). key_in page n ∷ xs) (keys_from (k + 1) ns (λ i m at. ap (slice_get r.serials) (let same : k + 1 + i ≡ k + suc i = omega arith in same) ∙ there (suc i) m at))

    pub keys_are : keys_on scopes f r.at_hand 0 r.serials ≡ map (key_in page) r.serials
    keys_are = keys_from 0 r.serials (λ i n at. ap (slice_get r.serials) (let same : 0 + i ≡ i = omega arith in same) ∙ at)

    pub keys_by_are : keys_by (keys_on scopes f r.at_hand 0 r.serials) ≡ keys_of page
    keys_by_are = ap keys_by keys_are

    -- whether a site is on a scope that lives
    lives_from : (k : ℕ) (ns : List ℕ) → ((i n : ℕ) → slice_get ns i ≡ Some n → slice_get r.serials (k + i) ≡ Some n) → any_on scopes page ns ≡ any_lives scopes f r.at_hand k ns
    lives_from k [] there = refl
    lives_from k (n ∷ ns) there =
        let first : slice_get r.serials k ≡ Some n = ap (slice_get r.serials) (let same : k ≡ k + 0 = omega arith in same) ∙ there 0 n refl in
        let here : live_at scopes (scope_number page (mark_in page.marks n).under) ≡ live_at scopes (scope_in_ground r.at_hand (mark_at f k).under) =
        ap (λ (m : SiteScopes). live_at scopes (scope_number page m.under)) (marked k n first) ∙ ap (live_at scopes) (ground_scope (mark_at f k).under) in
        ap (λ (b : Bool). b || any_on scopes page ns) here
        ∙ ap (λ (b : Bool). live_at scopes (scope_in_ground r.at_hand (mark_at f k).under) || b) (lives_from (k + 1) ns (λ i m at. ap (slice_get r.serials) (let same : k + 1 + i ≡ k + suc i = omega arith in same) ∙ there (suc i) m at))

    pub lives_are : any_on scopes page r.serials ≡ any_lives scopes f r.at_hand 0 r.serials
    lives_are = lives_from 0 r.serials (λ i n at. ap (slice_get r.serials) (let same : 0 + i ≡ i = omega arith in same) ∙ at)

-- how the sites are watched, by number
rows_at : (scopes : List Scope) (f : Fragment) (r : Registered) (k : ℕ) (ns : List ℕ) (i n : ℕ) → slice_get ns i ≡ Some n → slice_get (rows_from scopes f r k ns) i ≡ Some (row_at scopes f r (k + i) n)
rows_at scopes f r k [] i n at = absurd (cc)
rows_at scopes f r k (m ∷ ns) zero n at =
    let one : m ≡ n = cc in
    ap (λ (q : ℕ). Some (row_at scopes f r k q)) one ∙ ap (λ (j : ℕ). Some (row_at scopes f r j n)) (let same : k ≡ k + 0 = omega arith in same)
rows_at scopes f r k (m ∷ ns) (suc i) n at = rows_at scopes f r (k + 1) ns i n at ∙ ap (λ (j : ℕ). Some (row_at scopes f r j n)) (let same : k + 1 + i ≡ k + suc i = omega arith in same)

pub site_row : (scopes : List Scope) (f : Fragment) (r : Registered) (i n : ℕ) → slice_get r.serials i ≡ Some n → slice_get (site_rows scopes f r) i ≡ Some (row_at scopes f r i n)
site_row scopes f r i n at = rows_at scopes f r 0 r.serials i n at ∙ ap (λ (j : ℕ). Some (row_at scopes f r j n)) (let same : 0 + i ≡ i = omega arith in same)

rows_numbers : (scopes : List Scope) (f : Fragment) (r : Registered) (k : ℕ) (ns : List ℕ) → map (λ (x : Row). x.key.serial.0) (rows_from scopes f r k ns) ≡ ns
rows_numbers scopes f r k [] = refl
rows_numbers scopes f r k (n ∷ ns) = ap (λ (xs : List ℕ). n ∷ xs) (rows_numbers scopes f r (k + 1) ns)

pub site_numbers : (scopes : List Scope) (f : Fragment) (r : Registered) → map (λ (x : Row). x.key.serial.0) (site_rows scopes f r) ≡ r.serials
site_numbers scopes f r = rows_numbers scopes f r 0 r.serials

-- what holds of each row
rows_all : (P : Row → Type 0) (scopes : List Scope) (f : Fragment) (r : Registered) → ((i n : ℕ) → P (row_at scopes f r i n)) → (k : ℕ) (ns : List ℕ) → AllByRecursion P (rows_from scopes f r k ns)
rows_all P scopes f r each k [] = tt
rows_all P scopes f r each k (n ∷ ns) = (each k n, rows_all P scopes f r each (k + 1) ns)

pub site_all : (P : Row → Type 0) (scopes : List Scope) (f : Fragment) (r : Registered) → ((i n : ℕ) → P (row_at scopes f r i n)) → AllByRecursion P (site_rows scopes f r)
site_all P scopes f r each = rows_all P scopes f r each 0 r.serials

-- what holds of the own scope and of the others holds of each
pub ground_all : (P : ℕ → Type 0) (g : Ground) (scope : ℕ) → g.scopes ≡ scope ∷ drop 1 g.scopes → P scope → AllByRecursion P (drop 1 g.scopes) → (n : ℕ) → P (scope_in_ground g n)
ground_all P g scope own one all n =
    subst P (ap (λ (xs : List ℕ). slice_index_or xs n (slice_index_or xs 0 0)) (sym own)) (by_number (drop 1 g.scopes) all n)
  where
    later : (xs : List ℕ) → AllByRecursion P xs → (i : ℕ) → P (slice_index_or xs i scope)
    later [] h i = one
    later (x ∷ xs) h zero = h.0
    later (x ∷ xs) h (suc i) = later xs h.1 i

    by_number : (rest : List ℕ) → AllByRecursion P rest → (i : ℕ) → P (slice_index_or (scope ∷ rest) i scope)
    by_number rest h zero = one
    by_number rest h (suc i) = later rest h i

-- each scope of an instance is on its path or below it
pub ground_on : (scopes : List Scope) (g : Ground) (scope : ℕ) → g.scopes ≡ scope ∷ drop 1 g.scopes → AllByRecursion (λ n. IsBelow (path_at scopes scope) (path_at scopes n)) (drop 1 g.scopes) → (n : ℕ)
    → begins (path_at scopes scope) (path_at scopes (scope_in_ground g n)) ≡ true
ground_on scopes g scope own below n =
    ground_all (λ (s : ℕ). begins (path_at scopes scope) (path_at scopes s) ≡ true) g scope own (begins_itself (path_at scopes scope)) (all_begin (drop 1 g.scopes) below) n
  where
    all_begin : (xs : List ℕ) → AllByRecursion (λ s. IsBelow (path_at scopes scope) (path_at scopes s)) xs → AllByRecursion (λ (s : ℕ). begins (path_at scopes scope) (path_at scopes s) ≡ true) xs
    all_begin [] h = tt
    all_begin (x ∷ xs) h = (below_begins (path_at scopes scope) (path_at scopes x) h.0, all_begin xs h.1)

-- the inner scopes are below it
pub inner_below : (scopes : List Scope) (p : List ℕ) (xs : List ℕ) → AllByRecursion (λ n. IsBelow p (path_at scopes n)) xs → AllByRecursion (λ (i : Inner). IsBelow p i.path) (map (λ n. record { scope = n; path = path_at scopes n }) xs)
inner_below scopes p [] h = tt
inner_below scopes p (x ∷ xs) h = (h.0, inner_below scopes p xs h.1)

-- each scope of an instance is there
pub grounded : (count : ℕ) (g : Ground) (scope : ℕ) → g.scopes ≡ scope ∷ drop 1 g.scopes → AllByRecursion (λ (n : ℕ). n < count) g.scopes → IsGrounded count g
grounded count g scope own all n =
    let cut = subst (λ (xs : List ℕ). AllByRecursion (λ (m : ℕ). m < count) xs) own all in
    ground_all (λ (s : ℕ). s < count) g scope own cut.0 cut.1 n
