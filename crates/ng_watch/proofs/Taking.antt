-- Rows are taken out by their keys, one after another.
use Rattle.std.proofs.Common.{◌≡◌, ◌<◌, ◌+◌, ℕ, suc, zero, length, drop, get_or, arith, Bool, true, false, cond, List, [], ◌∷◌, ◌++◌, Option, Some, None, refl, ap, sym, subst, ◌∙◌, map, append_assoc, append-nil}
use Rattle.std.specs.Prelude.{not, option_map}
use Rattle.std.specs.List.{filter, AllByRecursion, All}
use Rattle.std.specs.List.Sorted.{IsStrictlySortedBy}
use Rattle.std.specs.Map.{lookup, lookup_key, remove_entry, keys_of}
use Rattle.std.specs.Option.{option_to_list}
use Rattle.std.specs.Ordering.{is_eq, ordering_reverse}
use Rattle.std.specs.declared.cmp.Ordering.TheVariants.{Less}
use Rattle.std.proofs.lemmas.Cmp.{tied_itself}
use Rattle.std.proofs.lemmas.Map.Keys.{sorted_head, sorted_tail}
use Rattle.ng_base.specs.declared.path.Key.{Key}
use Rattle.ng_behaviour.specs.Keys.{key_cmp, key_cmp_total, is_key}
use Rattle.ng_watch.specs.Seen.{Watcher, watcher_of, watching_of, WatchStands}
use Rattle.ng_watch.specs.Table.{Table, entry_of, AllStand}
use Rattle.ng_watch.specs.declared.watched.Watched.{Watched}
use Rattle.ng_watch.specs.Chunks.{joined, chunk_at, front, back}
use Rattle.ng_watch.proofs.Chunks.{read_at, whole}
use Rattle.ng_watch.proofs.Rows.{lookup_hit}
use Rattle.ng_watch.proofs.Tables.{lookup-seen}

abbrev pub Rows : Type 0
Rows = List (Key × Watched)

-- what holds of each key holds of the first that passes
first_passes : (P : Key → Type 0) (passes : Key × Watched → Bool) (k : Key) (ks : List Key) (es : Rows) → AllByRecursion P (keys_of es) → k ∷ ks ≡ keys_of (filter passes es) → P k
first_passes P passes k ks [] a h = absurd (cc)
first_passes P passes k ks (e ∷ es) a h = by_test (passes e) (λ g. first_passes P passes k ks es a.1 g) h
  where
    by_test : (b : Bool) → (k ∷ ks ≡ keys_of (filter passes es) → P k) → k ∷ ks ≡ keys_of (cond b (e ∷ filter passes es) (filter passes es)) → P k
    by_test true more h = let same : e.0 ≡ k = cc in subst P same a.0
    by_test false more h = more h

paired : (a b : Key) (v w : Watched) → a ≡ b → v ≡ w → ◌≡◌ {A = Option (Key × Watched)} (Some (a, v)) (Some (b, w))
paired a b v w k h = rw (k, h) refl

-- a row that was looked up by key and by value
both : (r : Option (Key × Watched)) (e : Key × Watched) → option_map (λ p. p.0) r ≡ Some e.0 → option_map (λ p. p.1) r ≡ Some e.1 → r ≡ Some e
both None e a b = absurd (cc)
both (Some p) e a b = paired p.0 e.0 p.1 e.1 (let k : p.0 ≡ e.0 = cc in k) (let w : p.1 ≡ e.1 = cc in w)

-- what was taken out, and what is left, while some keys are ahead
pub record HasTaken (passes : Key × Watched → Bool) (ahead : List Key) (rows first now : Rows) : Type 0 where
  pub taken : rows ++ filter passes now ≡ filter passes first
  pub left : filter (λ e. not (passes e)) now ≡ filter (λ e. not (passes e)) first
  pub keys : ahead ≡ keys_of (filter passes now)

record TakesOne (passes : Key × Watched → Bool) (ahead : List Key) (es new : Rows) (r : Option (Key × Watched)) : Type 0 where
  taken : filter passes es ≡ option_to_list r ++ filter passes new
  left : filter (λ e. not (passes e)) new ≡ filter (λ e. not (passes e)) es
  keys : ahead ≡ keys_of (filter passes new)

takes_one : (passes : Key × Watched → Bool) (k : Key) (ks : List Key) (es : Rows) (r : Option (Key × Watched)) → IsStrictlySortedBy key_cmp (keys_of es) → option_map (λ p. p.0) r ≡ lookup_key (is_key k) es → option_map (λ p. p.1) r ≡ lookup (is_key k) es → k ∷ ks ≡ keys_of (filter passes es) → TakesOne passes ks es (remove_entry (is_key k) es) r
takes_one passes k ks [] r o a b h = absurd (cc)
takes_one passes k ks (e ∷ es) r o a b h = by_test (passes e) refl (takes_one passes k ks es r (sorted_tail key_cmp e.0 (keys_of es) o)) h
  where
    by_test : (t : Bool) → passes e ≡ t → (option_map (λ p. p.0) r ≡ lookup_key (is_key k) es → option_map (λ p. p.1) r ≡ lookup (is_key k) es → k ∷ ks ≡ keys_of (filter passes es) → TakesOne passes ks es (remove_entry (is_key k) es) r) → k ∷ ks ≡ keys_of (cond t (e ∷ filter passes es) (filter passes es)) → TakesOne passes ks (e ∷ es) (remove_entry (is_key k) (e ∷ es)) r
    by_test true is more h =
        let same : k ≡ e.0 = cc in
        let hit : is_key k e.0 ≡ true = rw same (ap is_eq (tied_itself key_cmp_total e.0)) in
        let it : r ≡ Some e = both r e (rw hit at a) (rw hit at b) in
        record { taken = rw (is, hit, it) refl; left = rw (hit, is) refl; keys = rw hit (let t : ks ≡ keys_of (filter passes es) = cc in t) }
    by_test false is more h =
        let before : key_cmp e.0 k ≡ Less = first_passes (λ y. key_cmp e.0 y ≡ Less) passes k ks es (sorted_head key_cmp e.0 (keys_of es) o) h in
        let miss : is_key k e.0 ≡ false = ap is_eq (key_cmp_total.antisymm k e.0 ∙ ap ordering_reverse before) in
        let one = more (rw miss at a) (rw miss at b) h in
        record { taken = rw (is, miss, is) one.taken; left = rw (miss, is) (ap (λ xs. e ∷ xs) one.left); keys = rw (miss, is) one.keys }

-- one key more
pub has_taken_more : (passes : Key × Watched → Bool) (k : Key) (ks : List Key) (rows more first now new : Rows) (r : Option (Key × Watched)) → IsStrictlySortedBy key_cmp (keys_of now) → option_map (λ p. p.0) r ≡ lookup_key (is_key k) now → option_map (λ p. p.1) r ≡ lookup (is_key k) now → new ≡ remove_entry (is_key k) now → more ≡ rows ++ option_to_list r → HasTaken passes (k ∷ ks) rows first now → HasTaken passes ks more first new
has_taken_more passes k ks rows more first now new r o a b n m h =
    let one = takes_one passes k ks now r o a b h.keys in
    record {
      taken = rw (m, n) (append_assoc rows (option_to_list r) (filter passes (remove_entry (is_key k) now)) ∙ ap (λ xs. rows ++ xs) (sym one.taken) ∙ h.taken);
      left = rw n (one.left ∙ h.left);
      keys = rw n one.keys;
    }

-- a list of which none passes
none_passes : (passes : Key × Watched → Bool) (es : Rows) → [] ≡ keys_of (filter passes es) → (filter passes es ≡ []) × (filter (λ e. not (passes e)) es ≡ es)
none_passes passes [] h = (refl, refl)
none_passes passes (e ∷ es) h = by_test (passes e) (none_passes passes es) h
  where
    by_test : (b : Bool) → ([] ≡ keys_of (filter passes es) → (filter passes es ≡ []) × (filter (λ e. not (passes e)) es ≡ es)) → [] ≡ keys_of (cond b (e ∷ filter passes es) (filter passes es)) → (cond b (e ∷ filter passes es) (filter passes es) ≡ []) × (cond (not b) (e ∷ filter (λ e. not (passes e)) es) (filter (λ e. not (passes e)) es) ≡ e ∷ es)
    by_test true more h = absurd (cc)
    by_test false more h = ((more h).0, ap (λ xs. e ∷ xs) (more h).1)

-- where no key is ahead, all that passes was taken
pub has_taken_all : (passes : Key × Watched → Bool) (rows first now : Rows) → HasTaken passes [] rows first now → (rows ≡ filter passes first) × (now ≡ filter (λ e. not (passes e)) first)
has_taken_all passes rows first now h =
    let none = none_passes passes now h.keys in
    (sym (append-nil rows) ∙ ap (λ xs. rows ++ xs) (sym none.0) ∙ h.taken, sym none.1 ∙ h.left)

-- where all watchers stand, each row's does
pub all_stand : (count : ℕ) (es : Rows) → IsStrictlySortedBy key_cmp (keys_of es) → AllStand count (map entry_of es) → AllByRecursion (λ e. WatchStands count (watching_of e.1.watch)) es
all_stand count es o s = from [] es o s
  where
    from : (es fs : Rows) → IsStrictlySortedBy key_cmp (keys_of (es ++ fs)) → AllStand count (map entry_of (es ++ fs)) → AllByRecursion (λ e. WatchStands count (watching_of e.1.watch)) fs
    from es [] o s = tt
    from es (e ∷ fs) o s =
        let all : (es ++ e ∷ []) ++ fs ≡ es ++ e ∷ fs = append_assoc es (e ∷ []) fs in
        let hit : is_key e.0 e.0 ≡ true = ap is_eq (tied_itself key_cmp_total e.0) in (
          s e.0 (watcher_of e.1) (lookup-seen (is_key e.0) (es ++ e ∷ fs) ∙ ap (option_map watcher_of) (lookup_hit e.0 es fs e o hit)),
          from (es ++ e ∷ []) fs (subst (λ (xs : Rows). IsStrictlySortedBy key_cmp (keys_of xs)) (sym all) o) (subst (λ (xs : Rows). AllStand count (map entry_of xs)) (sym all) s),
        )

all_get : (P : Key × Watched → Type 0) (es : Rows) → AllByRecursion P es → All P es
all_get P [] a k d l = absurd (omega arith)
all_get P (e ∷ es) a zero d l = a.0
all_get P (e ∷ es) a (suc k) d l = all_get P es a.1 k d (omega arith)

all_first : (P : Key × Watched → Type 0) (es fs : Rows) → AllByRecursion P (es ++ fs) → AllByRecursion P es
all_first P [] fs a = tt
all_first P (e ∷ es) fs a = (a.0, all_first P es fs a.1)

all_second : (P : Key × Watched → Type 0) (es fs : Rows) → AllByRecursion P (es ++ fs) → AllByRecursion P fs
all_second P [] fs a = a
all_second P (e ∷ es) fs a = all_second P es fs a.1

-- what holds of all rows holds of a chunk's
pub all_chunk : (P : Key × Watched → Type 0) (cs : List Rows) (i : ℕ) (r : Rows) → AllByRecursion P (joined cs) → i < length cs → r ≡ get_or cs i r → All P r
all_chunk P cs i r a l is = all_get P r (subst (AllByRecursion P) (sym (read_at cs i r l is)) (all_first P (chunk_at cs i) (back cs i) (all_second P (front cs i) (chunk_at cs i ++ back cs i) (subst (AllByRecursion P) (whole cs i) a))))

-- The keys of the rows that pass, found one after another.

keys_append : (passes : Key × Watched → Bool) (es fs : Rows) → keys_of (filter passes (es ++ fs)) ≡ keys_of (filter passes es) ++ keys_of (filter passes fs)
keys_append passes [] fs = refl
keys_append passes (e ∷ es) fs = by_test (passes e) (keys_append passes es fs)
  where
    by_test : (b : Bool) → keys_of (filter passes (es ++ fs)) ≡ keys_of (filter passes es) ++ keys_of (filter passes fs) → keys_of (cond b (e ∷ filter passes (es ++ fs)) (filter passes (es ++ fs))) ≡ keys_of (cond b (e ∷ filter passes es) (filter passes es)) ++ keys_of (filter passes fs)
    by_test true h = ap (λ ks. e.0 ∷ ks) h
    by_test false h = h

-- one chunk more
pub chunk_more : (passes : Key × Watched → Bool) (ks more : List Key) (c : Rows) (cs : List Rows) (i : ℕ) → keys_of (filter passes (joined cs)) ≡ ks ++ keys_of (filter passes (joined (drop i cs))) → drop i cs ≡ c ∷ drop (i + 1) cs → more ≡ ks ++ keys_of (filter passes c) → keys_of (filter passes (joined cs)) ≡ more ++ keys_of (filter passes (joined (drop (i + 1) cs)))
chunk_more passes ks more c cs i h d n = h ∙ ap (λ (ds : List Rows). ks ++ keys_of (filter passes (joined ds))) d ∙ ap (λ (xs : List Key). ks ++ xs) (keys_append passes c (joined (drop (i + 1) cs))) ∙ sym (append_assoc ks (keys_of (filter passes c)) (keys_of (filter passes (joined (drop (i + 1) cs))))) ∙ ap (λ (xs : List Key). xs ++ keys_of (filter passes (joined (drop (i + 1) cs)))) (sym n)

-- What contracts see of the rows that pass.

filter_entries : (passes : Key × Watcher → Bool) (es : Rows) → map entry_of (filter (λ e. passes (entry_of e)) es) ≡ filter passes (map entry_of es)
filter_entries passes [] = refl
filter_entries passes (e ∷ es) = by_test (passes (entry_of e)) (filter_entries passes es)
  where
    by_test : (b : Bool) → map entry_of (filter (λ e. passes (entry_of e)) es) ≡ filter passes (map entry_of es) → map entry_of (cond b (e ∷ filter (λ e. passes (entry_of e)) es) (filter (λ e. passes (entry_of e)) es)) ≡ cond b (entry_of e ∷ filter passes (map entry_of es)) (filter passes (map entry_of es))
    by_test true h = ap (λ xs. entry_of e ∷ xs) h
    by_test false h = h

pub seen_apart : (passes : Key × Watcher → Bool) (es rows : Rows) (t : Table) → rows ≡ filter (λ e. passes (entry_of e)) es → map entry_of es ≡ t → map entry_of rows ≡ filter passes t
seen_apart passes es rows t r s = ap (map entry_of) r ∙ filter_entries passes es ∙ ap (filter passes) s
