-- A table of watches and what contracts see of it change alike.
use Rattle.std.proofs.Common.{◌≡◌, ℕ, Bool, true, false, cond, Bor, List, [], ◌∷◌, Option, Some, None, refl, ap, sym, ◌∙◌, map}
use Rattle.std.specs.Prelude.{IsSome, is_some, IfSome, MatchOption, not, option_copied, find, option_map, slice_get}
use Rattle.std.specs.List.{filter}
use Rattle.std.specs.Map.{lookup, remove_entry, set_value, keys_of}
use Rattle.std.specs.BTreeMap.{insert_entry}
use Rattle.std.specs.List.Sorted.{IsStrictlySortedBy}
use Rattle.std.specs.Ordering.{is_eq, match_ordering}
use Rattle.std.specs.declared.cmp.Ordering.{Ordering}
use Rattle.std.specs.declared.cmp.Ordering.TheVariants.{Less, Equal, Greater}
use Rattle.ng_base.specs.declared.path.Key.{Key}
use Rattle.ng_base.specs.contracts.path.KeyOrd.TheImpl as ordered
use Rattle.std.proofs.lemmas.Cmp.{tied_itself}
use Rattle.ng_behaviour.specs.Keys.{key_cmp, key_cmp_total, is_key, is_above, begins}
use Rattle.ng_watch.specs.Seen.{Watcher, watcher_of, watching_of}
use Rattle.ng_watch.specs.Table.{Table, entry_of, found, keeping, with_kept, with_watch, without_watch, without_under, first_key, key_after}
use Rattle.ng_watch.specs.declared.watched.Watched.{Watched}
use Rattle.ng_value.specs.Snaps.{snap_of}
use Rattle.ng_value.specs.declared.snapshot.Snap.{Snap}
use Rattle.ng_base.specs.Views.{ViewTree}
use Rattle.ng_watch.specs.declared.watch.Watch.{Watch}

abbrev Rows : Type 0
Rows = List (Key × Watched)

pub lookup-seen : (test : Key → Bool) (es : Rows) → lookup test (map entry_of es) ≡ option_map watcher_of (lookup test es)
lookup-seen test [] = refl
lookup-seen test (e ∷ es) = by_test (test e.0) (lookup-seen test es)
  where
    by_test : (b : Bool) → lookup test (map entry_of es) ≡ option_map watcher_of (lookup test es) → cond b (Some (watcher_of e.1)) (lookup test (map entry_of es)) ≡ option_map watcher_of (cond b (Some e.1) (lookup test es))
    by_test true h = refl
    by_test false h = h

pub remove-seen : (test : Key → Bool) (es : Rows) → map entry_of (remove_entry test es) ≡ remove_entry test (map entry_of es)
remove-seen test [] = refl
remove-seen test (e ∷ es) = by_test (test e.0) (remove-seen test es)
  where
    by_test : (b : Bool) → map entry_of (remove_entry test es) ≡ remove_entry test (map entry_of es) → map entry_of (cond b es (e ∷ remove_entry test es)) ≡ cond b (map entry_of es) (entry_of e ∷ remove_entry test (map entry_of es))
    by_test true h = refl
    by_test false h = ap (λ xs. entry_of e ∷ xs) h

pub insert-seen : (k : Key) (w : Watched) (es : Rows) → map entry_of (insert_entry key_cmp es k w) ≡ insert_entry key_cmp (map entry_of es) k (watcher_of w)
insert-seen k w [] = refl
insert-seen k w (e ∷ es) = by_order (key_cmp k e.0) (insert-seen k w es)
  where
    by_order : (o : Ordering) → map entry_of (insert_entry key_cmp es k w) ≡ insert_entry key_cmp (map entry_of es) k (watcher_of w) → map entry_of (match_ordering o ((k, w) ∷ e ∷ es) ((e.0, w) ∷ es) (e ∷ insert_entry key_cmp es k w)) ≡ match_ordering o ((k, watcher_of w) ∷ entry_of e ∷ map entry_of es) ((e.0, watcher_of w) ∷ map entry_of es) (entry_of e ∷ insert_entry key_cmp (map entry_of es) k (watcher_of w))
    by_order Less h = refl
    by_order Equal h = refl
    by_order Greater h = ap (λ xs. entry_of e ∷ xs) h

pub filter-seen : (p : Key → Bool) (es : Rows) → map entry_of (filter (λ e. p e.0) es) ≡ filter (λ e. p e.0) (map entry_of es)
filter-seen p [] = refl
filter-seen p (e ∷ es) = by_test (p e.0) (filter-seen p es)
  where
    by_test : (b : Bool) → map entry_of (filter (λ e. p e.0) es) ≡ filter (λ e. p e.0) (map entry_of es) → map entry_of (cond b (e ∷ filter (λ e. p e.0) es) (filter (λ e. p e.0) es)) ≡ cond b (entry_of e ∷ filter (λ e. p e.0) (map entry_of es)) (filter (λ e. p e.0) (map entry_of es))
    by_test true h = ap (λ xs. entry_of e ∷ xs) h
    by_test false h = h

pub keys-seen : (es : Rows) → keys_of (map entry_of es) ≡ keys_of es
keys-seen [] = refl
keys-seen (e ∷ es) = ap (λ ks. e.0 ∷ ks) (keys-seen es)

find-seen : (p : Key → Bool) (es : Rows) → option_map {T = Key × Watcher} {U = Key} (λ e. e.0) (find (λ e. p e.0) (map entry_of es)) ≡ option_map {T = Key × Watched} {U = Key} (λ e. e.0) (find (λ e. p e.0) es)
find-seen p [] = refl
find-seen p (e ∷ es) = by_test (p e.0) (find-seen p es)
  where
    by_test : (b : Bool) → option_map {T = Key × Watcher} {U = Key} (λ e. e.0) (find (λ e. p e.0) (map entry_of es)) ≡ option_map {T = Key × Watched} {U = Key} (λ e. e.0) (find (λ e. p e.0) es) → option_map {T = Key × Watcher} {U = Key} (λ e. e.0) (cond b (Some (entry_of e)) (find (λ e. p e.0) (map entry_of es))) ≡ option_map {T = Key × Watched} {U = Key} (λ e. e.0) (cond b (Some e) (find (λ e. p e.0) es))
    by_test true h = refl
    by_test false h = h

first-seen : (es : Rows) → option_map (λ e. e.0) (slice_get (map entry_of es) 0) ≡ option_map (λ e. e.0) (slice_get es 0)
first-seen [] = refl
first-seen (e ∷ es) = refl

-- a value that is written back changes what is kept
pub set-seen : (k : Key) (v : Option Snap) (w : Watched) (es : Rows) → lookup (is_key k) es ≡ Some w → map entry_of (set_value (is_key k) es (record { watch = w.watch; kept = v })) ≡ with_kept k (option_map snap_of v) (map entry_of es)
set-seen k v w [] h = refl
set-seen k v w (e ∷ es) h = by_test (is_key k e.0) (set-seen k v w es) h
  where
    by_test : (b : Bool) → (lookup (is_key k) es ≡ Some w → map entry_of (set_value (is_key k) es (record { watch = w.watch; kept = v })) ≡ with_kept k (option_map snap_of v) (map entry_of es)) → cond b (Some e.1) (lookup (is_key k) es) ≡ Some w → map entry_of (cond b ((e.0, record { watch = w.watch; kept = v }) ∷ es) (e ∷ set_value (is_key k) es (record { watch = w.watch; kept = v }))) ≡ cond b ((e.0, keeping (option_map snap_of v) (watcher_of e.1)) ∷ map entry_of es) (entry_of e ∷ with_kept k (option_map snap_of v) (map entry_of es))
    by_test true more h = let same : e.1 ≡ w = cc in rw (sym same) refl
    by_test false more h = ap (λ xs. entry_of e ∷ xs) (more h)

-- where there is no watch, none keeps anything
pub unset-none : (k : Key) (s : Option ViewTree) (es : Rows) → lookup (is_key k) es ≡ None → with_kept k s (map entry_of es) ≡ map entry_of es
unset-none k s [] h = refl
unset-none k s (e ∷ es) h = by_test (is_key k e.0) (unset-none k s es) h
  where
    by_test : (b : Bool) → (lookup (is_key k) es ≡ None → with_kept k s (map entry_of es) ≡ map entry_of es) → cond b (Some e.1) (lookup (is_key k) es) ≡ None → cond b ((e.0, keeping s (watcher_of e.1)) ∷ map entry_of es) (entry_of e ∷ with_kept k s (map entry_of es)) ≡ entry_of e ∷ map entry_of es
    by_test true more h = absurd (cc)
    by_test false more h = ap (λ xs. entry_of e ∷ xs) (more h)

-- What a call leaves, and what contracts see of it.

pub added : (k : Key) (w : Watch) (es new : Rows) (t : Table) → new ≡ insert_entry key_cmp es k (record { watch = w; kept = None }) → map entry_of es ≡ t → map entry_of new ≡ with_watch k (watching_of w) t
added k w es new t n s = ap (map entry_of) n ∙ insert-seen k (record { watch = w; kept = None }) es ∙ ap (with_watch k (watching_of w)) s

pub removed : (k : Key) (es new : Rows) (t : Table) → new ≡ remove_entry (is_key k) es → map entry_of es ≡ t → map entry_of new ≡ without_watch k t
removed k es new t n s = ap (map entry_of) n ∙ remove-seen (is_key k) es ∙ ap (without_watch k) s

pub there : (k : Key) (es : Rows) (t : Table) (o : Option Watched) → o ≡ lookup (is_key k) es → map entry_of es ≡ t → found k t ≡ option_map watcher_of o
there k es t o l s = ap (found k) (sym s) ∙ lookup-seen (is_key k) es ∙ ap (option_map watcher_of) (sym l)

pub ordered_keys : (es : Rows) (t : Table) → IsStrictlySortedBy key_cmp (keys_of es) → map entry_of es ≡ t → IsStrictlySortedBy key_cmp (keys_of t)
ordered_keys es t o s = rw (← s, keys-seen) o

-- the watcher of a key keeps something else, where there is one
pub kept_written : (k : Key) (v : Option Snap) (es new : Rows) (t : Table) → MatchOption (lookup (is_key k) es) (new ≡ es) (λ w. new ≡ set_value (is_key k) es (record { watch = w.watch; kept = v })) → map entry_of es ≡ t → map entry_of new ≡ with_kept k (option_map snap_of v) t
kept_written k v es new t m s = by_row (lookup (is_key k) es) refl m
  where
    by_row : (o : Option Watched) → lookup (is_key k) es ≡ o → MatchOption o (new ≡ es) (λ w. new ≡ set_value (is_key k) es (record { watch = w.watch; kept = v })) → map entry_of new ≡ with_kept k (option_map snap_of v) t
    by_row None l n = ap (map entry_of) n ∙ sym (unset-none k (option_map snap_of v) es l) ∙ ap (with_kept k (option_map snap_of v)) s
    by_row (Some w) l n = ap (map entry_of) n ∙ set-seen k v w es l ∙ ap (with_kept k (option_map snap_of v)) s

pub key_first : (es : Rows) (t : Table) → map entry_of es ≡ t → option_map {T = Key × Watched} {U = Key} (λ e. e.0) (slice_get es 0) ≡ first_key t
key_first es t s = sym (first-seen es) ∙ ap first_key s

pub key_next : (k : Key) (es : Rows) (t : Table) → map entry_of es ≡ t → option_map {T = Key × Watched} {U = Key} (λ e. e.0) (find (λ e. is_above k e.0) es) ≡ key_after k t
key_next k es t s = sym (find-seen (is_above k) es) ∙ ap (key_after k) s

pub none_kept : (r : Option Watched) → None ≡ option_map {T = Watched} {U = Option Snap} (λ w. w.kept) r → r ≡ None
none_kept None h = refl
none_kept (Some w) h = absurd (cc)

-- what is handed back is what was kept
pub former-seen : (r : Option Watched) (former : Option Snap) → Some former ≡ option_map (λ w. w.kept) r → option_map {T = Watcher} {U = Option ViewTree} (λ w. w.kept) (option_map watcher_of r) ≡ Some (option_map snap_of former)
former-seen None former h = absurd (cc)
former-seen (Some w) former h = let same : former ≡ w.kept = cc in ap (λ (o : Option Snap). Some (option_map snap_of o)) (sym same)

-- a watch that is there is found
pub never_none : {X Y : Type 0} (f : X → Y) (o : Option Y) (r : Option X) → IsSome o → o ≡ option_map f r → r ≡ None → ⊥
never_none f o None i e n = let z : o ≡ None = e in absurd (let w = ap is_some z in cc)
never_none f o (Some x) i e n = absurd (cc)

pub seen-some : (o : Option Watched) → is_some (option_map watcher_of o) ≡ is_some o
seen-some None = refl
seen-some (Some w) = refl

pub kept_apart : (p : List ℕ) (es new : Rows) (t : Table) → new ≡ filter (λ e. not (begins p e.0.path)) es → map entry_of es ≡ t → map entry_of new ≡ without_under p t
kept_apart p es new t n s = ap (map entry_of) n ∙ filter-seen (λ k. not (begins p k.path)) es ∙ ap (without_under p) s

-- what is kept, behind a reference
pub kept-seen : (r : Option (Bor Snap)) (o : Option Snap) → option_copied r ≡ o → option_map snap_of o ≡ option_map (λ s. snap_of s.now) r
kept-seen None o e = ap (option_map snap_of) (sym e)
kept-seen (Some s) o e = ap (option_map snap_of) (sym e)

-- A key that is met is one of a watcher.

met_there : (k : Key) (t : Table) (p : Key → Bool) → option_map {T = Key × Watcher} {U = Key} (λ e. e.0) (find (λ e. p e.0) t) ≡ Some k → is_some (found k t) ≡ true
met_there k [] p h = absurd (cc)
met_there k (e ∷ t) p h = by_test (p e.0) h (met_there k t p)
  where
    -- an earlier watcher of the key is there too
    or_later : (b : Bool) → is_some (found k t) ≡ true → is_some (cond b (Some e.1) (found k t)) ≡ true
    or_later true g = refl
    or_later false g = g

    by_test : (b : Bool) → option_map {T = Key × Watcher} {U = Key} (λ x. x.0) (cond b (Some e) (find (λ x. p x.0) t)) ≡ Some k → (option_map {T = Key × Watcher} {U = Key} (λ x. x.0) (find (λ x. p x.0) t) ≡ Some k → is_some (found k t) ≡ true) → is_some (cond (is_key k e.0) (Some e.1) (found k t)) ≡ true
    by_test true g more = let same : e.0 ≡ k = cc in rw (ap (is_key k) same ∙ ap is_eq (tied_itself key_cmp_total k)) refl
    by_test false g more = or_later (is_key k e.0) (more g)

pub after_there : (k q : Key) (t : Table) → Some q ≡ key_after k t → IsSome (found q t)
after_there k q t h = met_there q t (is_above k) (sym h)

first_found : (t : Table) → first_key t ≡ option_map {T = Key × Watcher} {U = Key} (λ e. e.0) (find (λ e. true) t)
first_found [] = refl
first_found (e ∷ t) = refl

pub first_there : (q : Key) (t : Table) → Some q ≡ first_key t → IsSome (found q t)
first_there q t h = met_there q t (λ k. true) (sym (h ∙ first_found t))

pub first_all : (r : Option (Bor Key)) (t : Table) → option_copied r ≡ first_key t → IfSome r (λ k. IsSome (found k.now t))
first_all None t h = tt
first_all (Some k) t h = first_there k.now t h

pub after_all : (k : Key) (r : Option (Bor Key)) (t : Table) → option_copied r ≡ key_after k t → IfSome r (λ q. IsSome (found q.now t))
after_all k None t h = tt
after_all k (Some q) t h = after_there k q.now t h
