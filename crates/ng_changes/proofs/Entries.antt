-- What holds of each entry of a list holds after entries come and go.
use Rattle.std.proofs.Common.{◌≡◌, ◌≤◌, ◌<◌, ℕ, Bool, true, false, cond, List, [], ◌∷◌, Option, Some, None, refl, sym, subst, arith}
use Rattle.std.specs.Prelude.{option_and_then, Result, Ok, Err, IfOk}
use Rattle.std.specs.BTreeMap.{insert_entry}
use Rattle.std.specs.List.{AllByRecursion, filter}
use Rattle.std.specs.Map.{lookup, remove_entry}
use Rattle.std.specs.Ordering.{match_ordering}
use Rattle.std.specs.declared.cmp.Ordering.{Ordering}
use Rattle.std.specs.declared.cmp.Ordering.TheVariants.{Less, Equal, Greater}
use Rattle.ng_base.specs.Views.{ViewTree}
use Rattle.ng_base.specs.declared.path.Key.{Key}
use Rattle.ng_changes.specs.Whole.{KeptStands, ListenersStand, RowStands}
use Rattle.ng_build.proofs.Keys.{key_is}
use Rattle.ng_link.specs.State.{Listening, Declared}
use Rattle.ng_behaviour.specs.Keys.{key_cmp, is_key}
use Rattle.ng_watch.specs.Seen.{Watching, Watcher}
use Rattle.ng_watch.specs.Table.{Table, found, keeping, kept_at, with_kept, with_watch}
use Rattle.ng_write.proofs.More.{view_more}

module _ {K V : Type 0} (P : K × V → Type 0) where
  pub all_filtered : (p : K × V → Bool) (es : List (K × V)) → AllByRecursion P es → AllByRecursion P (filter p es)
  all_filtered p [] h = tt
  all_filtered p (e ∷ es) h = by_test (p e) (all_filtered p es h.1)
    where
      by_test : (b : Bool) → AllByRecursion P (filter p es) → AllByRecursion P (cond b (e ∷ filter p es) (filter p es))
      by_test true more = (h.0, more)
      by_test false more = more

  pub all_removed : (test : K → Bool) (es : List (K × V)) → AllByRecursion P es → AllByRecursion P (remove_entry test es)
  all_removed test [] h = tt
  all_removed test (e ∷ es) h = by_test (test e.0) (all_removed test es h.1)
    where
      by_test : (b : Bool) → AllByRecursion P (remove_entry test es) → AllByRecursion P (cond b es (e ∷ remove_entry test es))
      by_test true more = h.1
      by_test false more = (h.0, more)

  pub all_inserted : (cmp : K → K → Ordering) (es : List (K × V)) (k : K) (v : V) → AllByRecursion P es → ((q : K) → P (q, v)) → AllByRecursion P (insert_entry cmp es k v)
  all_inserted cmp [] k v h one = (one k, tt)
  all_inserted cmp (e ∷ es) k v h one = by_order (cmp k e.0) (all_inserted cmp es k v h.1 one)
    where
      by_order : (o : Ordering) → AllByRecursion P (insert_entry cmp es k v) → AllByRecursion P (match_ordering o ((k, v) ∷ e ∷ es) ((e.0, v) ∷ es) (e ∷ insert_entry cmp es k v))
      by_order Less more = (one k, h)
      by_order Equal more = (one e.0, h.1)
      by_order Greater more = (h.0, more)

-- more objects stand
pub kept_more : (m n : ℕ) → m ≤ n → (s : Option ViewTree) → KeptStands m s → KeptStands n s
kept_more m n le None h = tt
kept_more m n le (Some t) h = view_more m n le t h

row_more : (m n : ℕ) → m ≤ n → (b : Bool) (s : Option ViewTree) → RowStands m b s → RowStands n b s
row_more m n le true s h = tt
row_more m n le false s h = kept_more m n le s h

-- rows of a table, where it is known which keys are those of sites
abbrev pub RowsBy : ℕ → (Key → Bool) → Table → Type 0
RowsBy n site t = AllByRecursion (λ (e : Key × Watcher). RowStands n (site e.0) e.1.kept) t

pub rows_more : (m n : ℕ) → m ≤ n → (site : Key → Bool) (t : Table) → RowsBy m site t → RowsBy n site t
rows_more m n le site [] h = tt
rows_more m n le site (e ∷ es) h = (row_more m n le (site e.0) e.1.kept h.0, rows_more m n le site es h.1)

-- where no site is lost
row_wider : (n : ℕ) (b c : Bool) (s : Option ViewTree) → (b ≡ true → c ≡ true) → RowStands n b s → RowStands n c s
row_wider n b true s more h = tt
row_wider n true false s more h = absurd (let two : false ≡ true = more refl in cc)
row_wider n false false s more h = h

pub rows_wider : (n : ℕ) (old new : Key → Bool) (t : Table) → ((k : Key) → old k ≡ true → new k ≡ true) → RowsBy n old t → RowsBy n new t
rows_wider n old new [] more h = tt
rows_wider n old new (e ∷ es) more h = (row_wider n (old e.0) (new e.0) e.1.kept (more e.0) h.0, rows_wider n old new es more h.1)

-- where the keys that pass a test stay sites
pub rows_filtered : (n : ℕ) (old new : Key → Bool) (test : Key → Bool) (t : Table) → ((k : Key) → test k ≡ true → new k ≡ old k) → RowsBy n old t → RowsBy n new (filter (λ (e : Key × Watcher). test e.0) t)
rows_filtered n old new test [] same h = tt
rows_filtered n old new test (e ∷ es) same h = by_test (test e.0) refl (rows_filtered n old new test es same h.1)
  where
    by_test : (b : Bool) → test e.0 ≡ b → RowsBy n new (filter (λ (x : Key × Watcher). test x.0) es) → RowsBy n new (cond b (e ∷ filter (λ (x : Key × Watcher). test x.0) es) (filter (λ (x : Key × Watcher). test x.0) es))
    by_test true stays more = (subst (λ (b : Bool). RowStands n b e.1.kept) (sym (same e.0 stays)) h.0, more)
    by_test false stays more = more

-- what has kept nothing stands
row_unset : (n : ℕ) (b : Bool) → RowStands n b None
row_unset n true = tt
row_unset n false = tt

-- a watch more, which has kept nothing
pub rows_watched : (n : ℕ) (site : Key → Bool) (k : Key) (w : Watching) (t : Table) → RowsBy n site t → RowsBy n site (with_watch k w t)
rows_watched n site k w t h = all_inserted (λ (e : Key × Watcher). RowStands n (site e.0) e.1.kept) key_cmp t k (record { watch = w; kept = None }) h (λ q. row_unset n (site q))

-- the watcher of a key keeps a snapshot, or none
pub rows_keeping : (n : ℕ) (site : Key → Bool) (k : Key) (s : Option ViewTree) (t : Table) → RowStands n (site k) s → RowsBy n site t → RowsBy n site (with_kept k s t)
rows_keeping n site k s [] one h = tt
rows_keeping n site k s (e ∷ es) one h = by_test (is_key k e.0) refl (rows_keeping n site k s es one h.1)
  where
    by_test : (b : Bool) → is_key k e.0 ≡ b → RowsBy n site (with_kept k s es) → RowsBy n site (cond b ((e.0, keeping s e.1) ∷ es) (e ∷ with_kept k s es))
    by_test true same more = (subst (λ (q : Key). RowStands n (site q) s) (key_is k e.0 same) one, h.1)
    by_test false same more = (h.0, more)

pub rows_unset : (n : ℕ) (site : Key → Bool) (k : Key) (t : Table) → RowsBy n site t → RowsBy n site (with_kept k None t)
rows_unset n site k t h = rows_keeping n site k None t (row_unset n (site k)) h

-- what the watcher of a key that is no site's has kept stands
pub rows_found : (n : ℕ) (site : Key → Bool) (k : Key) (t : Table) → site k ≡ false → RowsBy n site t → KeptStands n (kept_at k t)
rows_found n site k [] off h = tt
rows_found n site k (e ∷ es) off h = by_test (is_key k e.0) refl (rows_found n site k es off h.1)
  where
    by_test : (b : Bool) → is_key k e.0 ≡ b → KeptStands n (kept_at k es) → KeptStands n (option_and_then (λ (w : Watcher). w.kept) (cond b (Some e.1) (found k es)))
    by_test true same more =
        let out : site e.0 ≡ false = subst (λ (q : Key). site q ≡ false) (key_is k e.0 same) off in
        subst (λ (b : Bool). RowStands n b e.1.kept) out h.0
    by_test false same more = more

-- the listener of a key runs on one of the scopes
pub listener_found : (n : ℕ) (test : Key → Bool) (d : Declared) → ListenersStand n d → (l : Listening) → lookup test d ≡ Some l → l.scope < n
listener_found n test [] h l e = absurd (cc)
listener_found n test (x ∷ xs) h l e = by_test (test x.0) (listener_found n test xs h.1 l) e
  where
    by_test : (b : Bool) → (lookup test xs ≡ Some l → l.scope < n) → cond b (Some x.1) (lookup test xs) ≡ Some l → l.scope < n
    by_test true more e = let same : x.1 ≡ l = cc in subst (λ (y : Listening). y.scope < n) same h.0
    by_test false more e = more e

-- more scopes stand
pub listeners_more : (m n : ℕ) → m ≤ n → (d : Declared) → ListenersStand m d → ListenersStand n d
listeners_more m n le [] h = tt
listeners_more m n le (e ∷ es) h = (omega (arith, le, h.0), listeners_more m n le es h.1)

-- where a call answered Ok, what follows from what holds of its value
pub if_ok : {T E : Type 0} {P Q : T → Type 0} (r : Result T E) → IfOk r P → ((v : T) → P v → Q v) → IfOk r Q
if_ok (Ok v) h f = f v h
if_ok (Err e) h f = tt
