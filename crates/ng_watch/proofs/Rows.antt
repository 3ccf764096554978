-- Rows in key order, parted at a key.
use Rattle.std.proofs.Common.{◌≡◌, ◌<◌, ◌≤◌, ◌+◌, ℕ, suc, zero, Bool, true, false, List, [], ◌∷◌, ◌++◌, Some, None, refl, ap, sym, subst, ◌∙◌, length, take, drop, get_or, arith}
use Rattle.std.specs.Prelude.{find, nat_eq, slice_get}
use Rattle.std.specs.List.{AllByRecursion, AllWithin}
use Rattle.std.specs.List.Sorted.{IsStrictlySortedBy}
use Rattle.std.specs.Map.{lookup, lookup_key, remove_entry, set_value, keys_of}
use Rattle.std.specs.BTreeMap.{insert_entry}
use Rattle.std.specs.Cmp.{nat_cmp_is}
use Rattle.std.specs.Ordering.{is_eq, is_lt, ordering_reverse, ordering_then}
use Rattle.std.specs.declared.cmp.Ordering.{Ordering}
use Rattle.std.specs.declared.cmp.Ordering.TheVariants.{Less, Equal, Greater}
use Rattle.std.proofs.lemmas.Bool.Decides.{nat_tests}
use Rattle.std.proofs.lemmas.Map.Keys.{sorted_head, sorted_tail}
use Rattle.ng_base.specs.Order.{path_cmp, path_cmp-eq}
use Rattle.std.specs.Str.{bytes_eq}
use Rattle.ng_base.specs.declared.path.Key.{Key}
use Rattle.ng_watch.specs.Chunks.{Rows, is_below, AllBelow, AllAbove, IsGap}
use Rattle.ng_behaviour.specs.Keys.{key_cmp, key_cmp_total, is_key, is_above}
use Rattle.ng_watch.specs.declared.watched.Watched.{Watched}

abbrev pub Sorted : Rows → Type 0
Sorted es = IsStrictlySortedBy key_cmp (keys_of es)

-- ---- what a test says of the order of two keys

less_of : (o : Ordering) → is_lt o ≡ true → o ≡ Less
less_of Less h = refl
less_of Equal h = absurd (cc)
less_of Greater h = absurd (cc)

equal_of : (o : Ordering) → is_eq o ≡ true → o ≡ Equal
equal_of Less h = absurd (cc)
equal_of Equal h = refl
equal_of Greater h = absurd (cc)

pub key_equal : (k q : Key) → is_key k q ≡ true → key_cmp k q ≡ Equal
key_equal k q h = equal_of (key_cmp k q) h

pub below_less : (k : Key) (e : Key × Watched) → is_below k e ≡ true → key_cmp e.0 k ≡ Less
below_less k e h = less_of (key_cmp e.0 k) h

pub below_is : (k : Key) (e : Key × Watched) → key_cmp e.0 k ≡ Less → is_below k e ≡ true
below_is k e h = ap is_lt h

-- the other way round
reversed : (k q : Key) → key_cmp q k ≡ Less → key_cmp k q ≡ Greater
reversed k q h = key_cmp_total.antisymm k q ∙ ap ordering_reverse h

-- a key is the one that has its number and its path
same_path : (o : Ordering) → is_eq (ordering_then o Equal) ≡ is_eq o
same_path Less = refl
same_path Equal = refl
same_path Greater = refl

pub same_key : (k q : Key) (b : Bool) → nat_eq k.serial.0 q.serial.0 ≡ true → b ≡ bytes_eq k.path q.path → b ≡ is_key k q
same_key k q b h e =
    let same : k.serial.0 ≡ q.serial.0 = grind (arith, nat_tests) in
    e ∙ path_cmp-eq k.path q.path ∙ sym (ap (λ o. is_eq (ordering_then (path_cmp k.path q.path) o)) (sym (nat_cmp_is k.serial.0 q.serial.0 Equal same)) ∙ same_path (path_cmp k.path q.path))

-- ---- rows below a key, and rows above it

all_append : (P : Key × Watched → Type 0) (es fs : Rows) → AllByRecursion P es → AllByRecursion P fs → AllByRecursion P (es ++ fs)
all_append P [] fs a b = b
all_append P (e ∷ es) fs a b = (a.0, all_append P es fs a.1 b)

all_first : (P : Key × Watched → Type 0) (es fs : Rows) → AllByRecursion P (es ++ fs) → AllByRecursion P es
all_first P [] fs a = tt
all_first P (e ∷ es) fs a = (a.0, all_first P es fs a.1)

all_second : (P : Key × Watched → Type 0) (es fs : Rows) → AllByRecursion P (es ++ fs) → AllByRecursion P fs
all_second P [] fs a = a
all_second P (e ∷ es) fs a = all_second P es fs a.1

all_weaker : (P Q : Key × Watched → Type 0) → ((e : Key × Watched) → P e → Q e) → (es : Rows) → AllByRecursion P es → AllByRecursion Q es
all_weaker P Q f [] a = tt
all_weaker P Q f (e ∷ es) a = (f e a.0, all_weaker P Q f es a.1)

pub below_append : (k : Key) (es fs : Rows) → AllBelow k es → AllBelow k fs → AllBelow k (es ++ fs)
below_append k es fs a b = all_append (λ e. is_below k e ≡ true) es fs a b

pub sorted_second : (es fs : Rows) → Sorted (es ++ fs) → Sorted fs
sorted_second [] fs s = s
sorted_second (e ∷ es) fs s = sorted_second es fs (sorted_tail key_cmp e.0 (keys_of (es ++ fs)) s)

all_keys_first : (P : Key → Type 0) (es fs : Rows) → AllByRecursion P (keys_of (es ++ fs)) → AllByRecursion P (keys_of es)
all_keys_first P [] fs a = tt
all_keys_first P (e ∷ es) fs a = (a.0, all_keys_first P es fs a.1)

pub sorted_first : (es fs : Rows) → Sorted (es ++ fs) → Sorted es
unfolding IsStrictlySortedBy
sorted_first [] fs s = tt
sorted_first (e ∷ es) fs s = (all_keys_first (λ q. key_cmp e.0 q ≡ Less) es fs s.0, sorted_first es fs s.1)

of_keys : (P : Key → Type 0) (es : Rows) → AllByRecursion P (keys_of es) → AllByRecursion (λ e. P e.0) es
of_keys P [] a = tt
of_keys P (e ∷ es) a = (a.0, of_keys P es a.1)

-- a row is below those after it
pub rest_above : (e : Key × Watched) (es : Rows) → Sorted (e ∷ es) → AllAbove e.0 es
rest_above e es s = of_keys (λ q. key_cmp e.0 q ≡ Less) es (sorted_head key_cmp e.0 (keys_of es) s)

head_of : (P : Key × Watched → Type 0) (e : Key × Watched) (es fs : Rows) → AllByRecursion P (es ++ e ∷ fs) → P e
head_of P e [] fs a = a.0
head_of P e (d ∷ es) fs a = head_of P e es fs a.1

-- and above those before it
pub front_below : (es fs : Rows) (e : Key × Watched) → Sorted (es ++ e ∷ fs) → AllBelow e.0 es
front_below [] fs e s = tt
front_below (d ∷ es) fs e s = (
  below_is e.0 d (head_of (λ f. key_cmp d.0 f.0 ≡ Less) e es fs (rest_above d (es ++ e ∷ fs) s)),
  front_below es fs e (sorted_tail key_cmp d.0 (keys_of (es ++ e ∷ fs)) s),
)

pub below_through : (k q : Key) (es : Rows) → key_cmp q k ≡ Less → AllBelow q es → AllBelow k es
below_through k q es h a = all_weaker (λ e. is_below q e ≡ true) (λ e. is_below k e ≡ true) (λ e b. below_is k e (key_cmp_total.trans e.0 q k (below_less q e b) h)) es a

above_through : (k q : Key) (es : Rows) → key_cmp k q ≡ Less → AllAbove q es → AllAbove k es
above_through k q es h a = all_weaker (λ e. key_cmp q e.0 ≡ Less) (λ e. key_cmp k e.0 ≡ Less) (λ e b. key_cmp_total.trans k q e.0 h b) es a

-- the same key has the same rows below it, and above it
below_same : (k q : Key) (es : Rows) → key_cmp k q ≡ Equal → AllBelow q es → AllBelow k es
below_same k q es h a = all_weaker (λ e. is_below q e ≡ true) (λ e. is_below k e ≡ true) (λ e b. below_is k e (swapped e.0 (below_less q e b))) es a
  where
    swapped : (p : Key) → key_cmp p q ≡ Less → key_cmp p k ≡ Less
    swapped p l = key_cmp_total.antisymm p k ∙ ap ordering_reverse (key_cmp_total.congr k q p h ∙ reversed q p l)

above_same : (k q : Key) (es : Rows) → key_cmp k q ≡ Equal → AllAbove q es → AllAbove k es
above_same k q es h a = all_weaker (λ e. key_cmp q e.0 ≡ Less) (λ e. key_cmp k e.0 ≡ Less) (λ e b. key_cmp_total.congr k q e.0 h ∙ b) es a

-- where the row of a key stands, those before are below the key and those after above
pub hit_below : (k : Key) (es fs : Rows) (e : Key × Watched) → Sorted (es ++ e ∷ fs) → is_key k e.0 ≡ true → AllBelow k es
hit_below k es fs e s h = below_same k e.0 es (key_equal k e.0 h) (front_below es fs e s)

pub hit_above : (k : Key) (es fs : Rows) (e : Key × Watched) → Sorted (es ++ e ∷ fs) → is_key k e.0 ≡ true → AllAbove k fs
hit_above k es fs e s h = above_same k e.0 fs (key_equal k e.0 h) (rest_above e fs (sorted_second es (e ∷ fs) s))

by_order : (o : Ordering) → is_lt o ≡ false → is_eq o ≡ false → o ≡ Greater
by_order Less a b = absurd (cc)
by_order Equal a b = absurd (cc)
by_order Greater a b = refl

-- the first of some rows is not below a key and has not that key: all are above
pub gap_above : (k : Key) (es : Rows) (e : Key × Watched) → Sorted (e ∷ es) → is_below k e ≡ false → is_key k e.0 ≡ false → AllAbove k (e ∷ es)
gap_above k es e s b h =
    let up : key_cmp k e.0 ≡ Less = key_cmp_total.antisymm k e.0 ∙ ap ordering_reverse (by_order (key_cmp e.0 k) b (tested (key_cmp k e.0) (key_cmp_total.antisymm e.0 k) h)) in
    (up, above_through k e.0 es up (rest_above e es s))
  where
    tested : (o : Ordering) → key_cmp e.0 k ≡ ordering_reverse o → is_eq o ≡ false → is_eq (key_cmp e.0 k) ≡ false
    tested Less i n = ap is_eq i
    tested Equal i n = absurd (cc)
    tested Greater i n = ap is_eq i

-- ---- what the calls of a table come to, past rows that are below the key

misses : (k : Key) (e : Key × Watched) → is_below k e ≡ true → is_key k e.0 ≡ false
misses k e b = ap is_eq (reversed k e.0 (below_less k e b))

pub lookup_past : (k : Key) (es fs : Rows) → AllBelow k es → lookup (is_key k) (es ++ fs) ≡ lookup (is_key k) fs
lookup_past k [] fs a = refl
lookup_past k (e ∷ es) fs a = rw (misses k e a.0) (lookup_past k es fs a.1)

pub lookup_key_past : (k : Key) (es fs : Rows) → AllBelow k es → lookup_key (is_key k) (es ++ fs) ≡ lookup_key (is_key k) fs
lookup_key_past k [] fs a = refl
lookup_key_past k (e ∷ es) fs a = rw (misses k e a.0) (lookup_key_past k es fs a.1)

pub remove_past : (k : Key) (es fs : Rows) → AllBelow k es → remove_entry (is_key k) (es ++ fs) ≡ es ++ remove_entry (is_key k) fs
remove_past k [] fs a = refl
remove_past k (e ∷ es) fs a = rw (misses k e a.0) (ap (λ (xs : Rows). e ∷ xs) (remove_past k es fs a.1))

pub set_past : (k : Key) (w : Watched) (es fs : Rows) → AllBelow k es → set_value (is_key k) (es ++ fs) w ≡ es ++ set_value (is_key k) fs w
set_past k w [] fs a = refl
set_past k w (e ∷ es) fs a = rw (misses k e a.0) (ap (λ (xs : Rows). e ∷ xs) (set_past k w es fs a.1))

pub insert_past : (k : Key) (w : Watched) (es fs : Rows) → AllBelow k es → insert_entry key_cmp (es ++ fs) k w ≡ es ++ insert_entry key_cmp fs k w
insert_past k w [] fs a = refl
insert_past k w (e ∷ es) fs a = rw (reversed k e.0 (below_less k e a.0)) (ap (λ (xs : Rows). e ∷ xs) (insert_past k w es fs a.1))

pub find_past : (k : Key) (es fs : Rows) → AllBelow k es → find (λ (e : Key × Watched). is_above k e.0) (es ++ fs) ≡ find (λ (e : Key × Watched). is_above k e.0) fs
find_past k [] fs a = refl
find_past k (e ∷ es) fs a = rw (ap is_lt (reversed k e.0 (below_less k e a.0))) (find_past k es fs a.1)

-- ---- and at rows that are above it

pub lookup_none : (k : Key) (es : Rows) → AllAbove k es → lookup (is_key k) es ≡ None
lookup_none k [] a = refl
lookup_none k (e ∷ es) a = rw (ap is_eq a.0) (lookup_none k es a.1)

pub lookup_key_none : (k : Key) (es : Rows) → AllAbove k es → lookup_key (is_key k) es ≡ None
lookup_key_none k [] a = refl
lookup_key_none k (e ∷ es) a = rw (ap is_eq a.0) (lookup_key_none k es a.1)

pub remove_none : (k : Key) (es : Rows) → AllAbove k es → remove_entry (is_key k) es ≡ es
remove_none k [] a = refl
remove_none k (e ∷ es) a = rw (ap is_eq a.0) (ap (λ (xs : Rows). e ∷ xs) (remove_none k es a.1))

pub insert_first : (k : Key) (w : Watched) (es : Rows) → AllAbove k es → insert_entry key_cmp es k w ≡ (k, w) ∷ es
insert_first k w [] a = refl
insert_first k w (e ∷ es) a = rw a.0 refl

pub find_first : (k : Key) (es : Rows) → AllAbove k es → find (λ (e : Key × Watched). is_above k e.0) es ≡ slice_get es 0
find_first k [] a = refl
find_first k (e ∷ es) a = rw (ap is_lt a.0) refl

-- the row of a key is not above it
pub find_here : (k : Key) (e : Key × Watched) (es : Rows) → is_key k e.0 ≡ true → find (λ (f : Key × Watched). is_above k f.0) (e ∷ es) ≡ find (λ (f : Key × Watched). is_above k f.0) es
find_here k e es h = rw (ap is_lt (key_equal k e.0 h)) refl

-- ---- a search among rows in order

get_above : (k : Key) (es : Rows) (j : ℕ) (d : Key × Watched) → AllAbove k es → j < length es → key_cmp k (get_or es j d).0 ≡ Less
get_above k [] j d a l = absurd (omega arith)
get_above k (e ∷ es) zero d a l = a.0
get_above k (e ∷ es) (suc j) d a l = get_above k es j d a.1 (omega arith)

pub parted : (k : Key) (es : Rows) → Sorted es → (i j : ℕ) (d : Key × Watched) → i ≤ j → j < length es → is_below k (get_or es j d) ≡ true → is_below k (get_or es i d) ≡ true
parted k [] s i j d le l h = absurd (omega arith)
parted k (e ∷ es) s zero zero d le l h = h
parted k (e ∷ es) s zero (suc j) d le l h = below_is k e (key_cmp_total.trans e.0 (get_or es j d).0 k (get_above e.0 es j d (rest_above e es s) (omega arith)) (below_less k (get_or es j d) h))
parted k (e ∷ es) s (suc i) zero d le l h = absurd (omega arith)
parted k (e ∷ es) s (suc i) (suc j) d le l h = parted k es (sorted_tail key_cmp e.0 (keys_of es) s) i j d (omega arith) (omega arith) h

pub all_within : (P : Key × Watched → Type 0) (es : Rows) → AllWithin P es 0 (length es) → AllByRecursion P es
all_within P [] a = tt
all_within P (e ∷ es) a = (a 0 e (omega arith) (omega arith), all_within P es (λ k d l h. a (suc k) d (omega arith) (omega arith)))

-- the rows up to where a search ends, and those from there on
pub all_taken : (P : Key × Watched → Type 0) (es : Rows) (i : ℕ) → i ≤ length es → AllWithin P es 0 i → AllByRecursion P (take i es)
all_taken P es zero l a = tt
all_taken P [] (suc i) l a = tt
all_taken P (e ∷ es) (suc i) l a = (a 0 e (omega arith) (omega arith), all_taken P es i (omega arith) (λ k d m h. a (suc k) d (omega arith) (omega arith)))

pub all_left : (P : Key × Watched → Type 0) (es : Rows) (i : ℕ) → AllWithin P es i (length es) → AllByRecursion P (drop i es)
all_left P es zero a = all_within P es a
all_left P [] (suc i) a = tt
all_left P (e ∷ es) (suc i) a = all_left P es i (λ k d m h. a (suc k) d (omega arith) (omega arith))

-- ---- rows that come, go or change, and stay in order

all_keys_with : (P : Key → Type 0) (es fs : Rows) (e : Key × Watched) → AllByRecursion P (keys_of (es ++ fs)) → P e.0 → AllByRecursion P (keys_of (es ++ e ∷ fs))
all_keys_with P [] fs e a p = (p, a)
all_keys_with P (d ∷ es) fs e a p = (a.0, all_keys_with P es fs e a.1 p)

all_keys_without : (P : Key → Type 0) (es fs : Rows) (e : Key × Watched) → AllByRecursion P (keys_of (es ++ e ∷ fs)) → AllByRecursion P (keys_of (es ++ fs))
all_keys_without P [] fs e a = a.1
all_keys_without P (d ∷ es) fs e a = (a.0, all_keys_without P es fs e a.1)

to_keys : (P : Key → Type 0) (es : Rows) → AllByRecursion (λ e. P e.0) es → AllByRecursion P (keys_of es)
to_keys P [] a = tt
to_keys P (e ∷ es) a = (a.0, to_keys P es a.1)

pub sorted_with : (es fs : Rows) (e : Key × Watched) → Sorted (es ++ fs) → AllBelow e.0 es → AllAbove e.0 fs → Sorted (es ++ e ∷ fs)
unfolding IsStrictlySortedBy
sorted_with [] fs e s a b = (to_keys (λ q. key_cmp e.0 q ≡ Less) fs b, s)
sorted_with (d ∷ es) fs e s a b = (all_keys_with (λ q. key_cmp d.0 q ≡ Less) es fs e s.0 (below_less e.0 d a.0), sorted_with es fs e s.1 a.1 b)

pub sorted_without : (es fs : Rows) (e : Key × Watched) → Sorted (es ++ e ∷ fs) → Sorted (es ++ fs)
unfolding IsStrictlySortedBy
sorted_without [] fs e s = s.1
sorted_without (d ∷ es) fs e s = (all_keys_without (λ q. key_cmp d.0 q ≡ Less) es fs e s.0, sorted_without es fs e s.1)

keys_changed : (es fs : Rows) (k : Key) (v w : Watched) → keys_of (es ++ (k, v) ∷ fs) ≡ keys_of (es ++ (k, w) ∷ fs)
keys_changed [] fs k v w = refl
keys_changed (e ∷ es) fs k v w = ap (λ (ks : List Key). e.0 ∷ ks) (keys_changed es fs k v w)

pub sorted_changed : (es fs : Rows) (k : Key) (v w : Watched) → Sorted (es ++ (k, v) ∷ fs) → Sorted (es ++ (k, w) ∷ fs)
sorted_changed es fs k v w s = subst (λ (ks : List Key). IsStrictlySortedBy key_cmp ks) (keys_changed es fs k v w) s

pub one_more : (es fs : Rows) (e : Key × Watched) → length (es ++ e ∷ fs) ≡ length (es ++ fs) + 1
one_more [] fs e = omega arith
one_more (d ∷ es) fs e = omega (arith, one_more es fs e)

-- ---- what the calls of a table come to at the row of a key

pub lookup_hit : (k : Key) (es fs : Rows) (e : Key × Watched) → Sorted (es ++ e ∷ fs) → is_key k e.0 ≡ true → lookup (is_key k) (es ++ e ∷ fs) ≡ Some e.1
lookup_hit k es fs e s h = lookup_past k es (e ∷ fs) (hit_below k es fs e s h) ∙ rw h refl

pub lookup_key_hit : (k : Key) (es fs : Rows) (e : Key × Watched) → Sorted (es ++ e ∷ fs) → is_key k e.0 ≡ true → lookup_key (is_key k) (es ++ e ∷ fs) ≡ Some e.0
lookup_key_hit k es fs e s h = lookup_key_past k es (e ∷ fs) (hit_below k es fs e s h) ∙ rw h refl

pub remove_hit : (k : Key) (es fs : Rows) (e : Key × Watched) → Sorted (es ++ e ∷ fs) → is_key k e.0 ≡ true → remove_entry (is_key k) (es ++ e ∷ fs) ≡ es ++ fs
remove_hit k es fs e s h = remove_past k es (e ∷ fs) (hit_below k es fs e s h) ∙ rw h refl

pub set_hit : (k : Key) (w : Watched) (es fs : Rows) (e : Key × Watched) → Sorted (es ++ e ∷ fs) → is_key k e.0 ≡ true → set_value (is_key k) (es ++ e ∷ fs) w ≡ es ++ (e.0, w) ∷ fs
set_hit k w es fs e s h = set_past k w es (e ∷ fs) (hit_below k es fs e s h) ∙ rw h refl

pub insert_hit : (k : Key) (w : Watched) (es fs : Rows) (e : Key × Watched) → Sorted (es ++ e ∷ fs) → is_key k e.0 ≡ true → insert_entry key_cmp (es ++ e ∷ fs) k w ≡ es ++ (e.0, w) ∷ fs
insert_hit k w es fs e s h = insert_past k w es (e ∷ fs) (hit_below k es fs e s h) ∙ rw (key_equal k e.0 h) refl

pub find_hit : (k : Key) (es fs : Rows) (e : Key × Watched) → Sorted (es ++ e ∷ fs) → is_key k e.0 ≡ true → find (λ (f : Key × Watched). is_above k f.0) (es ++ e ∷ fs) ≡ slice_get fs 0
find_hit k es fs e s h = find_past k es (e ∷ fs) (hit_below k es fs e s h) ∙ find_here k e fs h ∙ find_first k fs (hit_above k es fs e s h)

-- ---- and at the gap of a key that has none

pub lookup_gap : (k : Key) (es fs : Rows) → IsGap k es fs → lookup (is_key k) (es ++ fs) ≡ None
lookup_gap k es fs g = lookup_past k es fs g.lower ∙ lookup_none k fs g.upper

pub lookup_key_gap : (k : Key) (es fs : Rows) → IsGap k es fs → lookup_key (is_key k) (es ++ fs) ≡ None
lookup_key_gap k es fs g = lookup_key_past k es fs g.lower ∙ lookup_key_none k fs g.upper

pub remove_gap : (k : Key) (es fs : Rows) → IsGap k es fs → remove_entry (is_key k) (es ++ fs) ≡ es ++ fs
remove_gap k es fs g = remove_past k es fs g.lower ∙ ap (λ (xs : Rows). es ++ xs) (remove_none k fs g.upper)

pub insert_gap : (k : Key) (w : Watched) (es fs : Rows) → IsGap k es fs → insert_entry key_cmp (es ++ fs) k w ≡ es ++ (k, w) ∷ fs
insert_gap k w es fs g = insert_past k w es fs g.lower ∙ ap (λ (xs : Rows). es ++ xs) (insert_first k w fs g.upper)

pub find_gap : (k : Key) (es fs : Rows) → IsGap k es fs → find (λ (f : Key × Watched). is_above k f.0) (es ++ fs) ≡ slice_get fs 0
find_gap k es fs g = find_past k es fs g.lower ∙ find_first k fs g.upper
