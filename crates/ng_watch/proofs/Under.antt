-- The rows under a path stand side by side.
use Rattle.std.proofs.Common.{◌≡◌, ◌<◌, ◌≤◌, ◌-◌, ℕ, suc, Bool, true, false, cond, List, [], ◌∷◌, ◌++◌, Option, Some, None, refl, ap, sym, subst, ◌∙◌, append_assoc, arith}
use Rattle.std.specs.Prelude.{◌&&◌, ◌==◌, not, slice_get}
use Rattle.std.specs.List.{AllByRecursion, filter}
use Rattle.std.specs.Map.{keys_of}
use Rattle.std.specs.Option.{ForSome, IsSomeAnd}
use Rattle.std.specs.Ordering.{nat_cmp, ordering_then, is_eq, is_lt, is_gt}
use Rattle.std.specs.declared.cmp.Ordering.{Ordering}
use Rattle.std.specs.declared.cmp.Ordering.TheVariants.{Less, Equal, Greater}
use Rattle.std.proofs.lemmas.Bool.Decides.{nat_tests}
use Rattle.std.proofs.lemmas.Cmp.{ranked, tied_itself}
use Rattle.ng_base.specs.Order.{path_cmp}
use Rattle.ng_base.specs.declared.name.Serial.{Serial}
use Rattle.ng_base.specs.declared.path.Key.{Key}
use Rattle.ng_watch.specs.Chunks.{Rows, joined, before, after, row_at, has_key, key_from, is_below, AllBelow, AllAbove, NotBefore, IsCounted, IsEdge}
use Rattle.ng_behaviour.specs.Keys.{key_cmp, key_cmp_total, begins}
use Rattle.ng_watch.specs.declared.watched.Watched.{Watched}
use Rattle.ng_watch.proofs.AtPlaces.{counted_less, some_row}
use Rattle.ng_watch.proofs.Chunks.{parts, parts_row, after_row, none_after}
use Rattle.ng_watch.proofs.Rows.{Sorted, below_is, rest_above, sorted_second}

abbrev Row : Type 0
Row = Key × Watched

-- ---- paths

apart_below : (x y : ℕ) → y < x → (x == y) ≡ false
apart_below x y l = grind (arith, nat_tests)

apart_above : (x y : ℕ) → x < y → (x == y) ≡ false
apart_above x y l = grind (arith, nat_tests)

same_number : (x y : ℕ) → x ≡ y → (x == y) ≡ true
same_number x y e = grind (arith, nat_tests)

and_false : (a b : Bool) → b ≡ false → a && b ≡ false
and_false true b e = e
and_false false b e = refl

-- a path that comes before another is not under it
path_before : (p q : List ℕ) → path_cmp q p ≡ Less → begins p q ≡ false
path_before [] [] h = absurd (cc)
path_before [] (y ∷ ys) h = absurd (cc)
path_before (x ∷ xs) [] h = refl
path_before (x ∷ xs) (y ∷ ys) h = by_order (path_before xs ys) (nat_cmp y x) refl h
  where
    by_order : (path_cmp ys xs ≡ Less → begins xs ys ≡ false) → (o : Ordering) → nat_cmp y x ≡ o → ordering_then o (path_cmp ys xs) ≡ Less → (x == y) && begins xs ys ≡ false
    by_order more Less is g = let l : y < x = ranked y x Less (sym is) in ap (λ (b : Bool). b && begins xs ys) (apart_below x y l)
    by_order more Equal is g = and_false (x == y) (begins xs ys) (more g)
    by_order more Greater is g = absurd (cc)

-- past a path that comes after another and is not under it, none is
path_past : (p q r : List ℕ) → is_lt (path_cmp q p) ≡ false → begins p q ≡ false → is_gt (path_cmp q r) ≡ false → begins p r ≡ false
path_past [] q r a b l = absurd (cc)
path_past (x ∷ xs) [] r a b l = absurd (cc)
path_past (x ∷ xs) (y ∷ ys) [] a b l = refl
path_past (x ∷ xs) (y ∷ ys) (z ∷ zs) a b l = by_first (path_past xs ys zs) (nat_cmp y x) refl a
  where
    by_same : (is_lt (path_cmp ys xs) ≡ false → begins xs ys ≡ false → is_gt (path_cmp ys zs) ≡ false → begins xs zs ≡ false) → y ≡ x → is_lt (path_cmp ys xs) ≡ false → (o : Ordering) → nat_cmp y z ≡ o → is_gt (ordering_then o (path_cmp ys zs)) ≡ false → (x == z) && begins xs zs ≡ false
    by_same more e f Less is g = let m : y < z = ranked y z Less (sym is) in ap (λ (b : Bool). b && begins xs zs) (apart_above x z (omega arith))
    by_same more e f Equal is g =
        let under : begins xs ys ≡ false = sym (ap (λ (b : Bool). b && begins xs ys) (same_number x y (sym e))) ∙ b in
        and_false (x == z) (begins xs zs) (more f under g)
    by_same more e f Greater is g = absurd (cc)

    by_above : x < y → (o : Ordering) → nat_cmp y z ≡ o → is_gt (ordering_then o (path_cmp ys zs)) ≡ false → (x == z) && begins xs zs ≡ false
    by_above m Less is g = let n : y < z = ranked y z Less (sym is) in ap (λ (b : Bool). b && begins xs zs) (apart_above x z (omega arith))
    by_above m Equal is g = let n : y ≡ z = ranked y z Equal (sym is) in ap (λ (b : Bool). b && begins xs zs) (apart_above x z (omega arith))
    by_above m Greater is g = absurd (cc)

    by_first : (is_lt (path_cmp ys xs) ≡ false → begins xs ys ≡ false → is_gt (path_cmp ys zs) ≡ false → begins xs zs ≡ false) → (o : Ordering) → nat_cmp y x ≡ o → is_lt (ordering_then o (path_cmp ys xs)) ≡ false → (x == z) && begins xs zs ≡ false
    by_first more Less is g = absurd (cc)
    by_first more Equal is g = let e : y ≡ x = ranked y x Equal (sym is) in by_same more e g (nat_cmp y z) refl l
    by_first more Greater is g = let m : x < y = ranked y x Greater (sym is) in by_above m (nat_cmp y z) refl l

-- ---- rows

not_below_zero : (n : ℕ) → nat_cmp n 0 ≡ Less → ⊥
not_below_zero n h = let l : n < 0 = ranked n 0 Less (sym h) in omega arith

-- the rows below the least key that a path can have are not under it
below_apart : (p : List ℕ) (z : Serial) (e : Row) → z.0 ≡ 0 → is_below (key_from p z) e ≡ true → begins p e.0.path ≡ false
below_apart p z e o h = by_order (path_cmp e.0.path p) refl h
  where
    by_number : (n : Ordering) → nat_cmp e.0.serial.0 z.0 ≡ n → is_lt n ≡ true → begins p e.0.path ≡ false
    by_number Less is g = absurd (not_below_zero e.0.serial.0 (ap (nat_cmp e.0.serial.0) (sym o) ∙ is))
    by_number Equal is g = absurd (cc)
    by_number Greater is g = absurd (cc)

    by_order : (r : Ordering) → path_cmp e.0.path p ≡ r → is_lt (ordering_then r (nat_cmp e.0.serial.0 z.0)) ≡ true → begins p e.0.path ≡ false
    by_order Less is g = path_before p e.0.path is
    by_order Equal is g = by_number (nat_cmp e.0.serial.0 z.0) refl g
    by_order Greater is g = absurd (cc)

then_lt : (a b : Ordering) → is_lt (ordering_then a b) ≡ false → is_lt a ≡ false
then_lt Less b h = h
then_lt Equal b h = refl
then_lt Greater b h = refl

then_less : (a b : Ordering) → ordering_then a b ≡ Less → is_gt a ≡ false
then_less Less b h = refl
then_less Equal b h = refl
then_less Greater b h = absurd (cc)

all_past : (p : List ℕ) (e : Row) (es : Rows) → is_lt (path_cmp e.0.path p) ≡ false → begins p e.0.path ≡ false → AllAbove e.0 es → AllByRecursion (λ f. begins p f.0.path ≡ false) es
all_past p e [] n b a = tt
all_past p e (f ∷ es) n b a = (path_past p e.0.path f.0.path n b (then_less (path_cmp e.0.path f.0.path) (nat_cmp e.0.serial.0 f.0.serial.0) a.0), all_past p e es n b a.1)

all_before : (p : List ℕ) (z : Serial) (es : Rows) → z.0 ≡ 0 → AllBelow (key_from p z) es → AllByRecursion (λ f. begins p f.0.path ≡ false) es
all_before p z [] o a = tt
all_before p z (e ∷ es) o a = (below_apart p z e o a.0, all_before p z es o a.1)

all_apart : (p : List ℕ) (es fs : Rows) → AllByRecursion (λ f. begins p f.0.path ≡ false) es → AllByRecursion (λ f. begins p f.0.path ≡ false) fs → filter (λ e. not (begins p e.0.path)) (es ++ fs) ≡ es ++ fs
all_apart p [] [] a b = refl
all_apart p [] (f ∷ fs) a b = rw b.0 (ap (λ (xs : Rows). f ∷ xs) (all_apart p [] fs a b.1))
all_apart p (e ∷ es) fs a b = rw a.0 (ap (λ (xs : Rows). e ∷ xs) (all_apart p es fs a.1 b))

-- where a search for a path's rows meets none, there is none
pub none_under : (p : List ℕ) (z : Serial) (cs : List Rows) (i j : ℕ) → Sorted (joined cs) → IsEdge (key_from p z) cs i j → ((e : Row) → row_at cs i j ≡ Some e → begins p e.0.path ≡ false) → z.0 ≡ 0 → filter (λ e. not (begins p e.0.path)) (joined cs) ≡ joined cs
none_under p z cs i j s g n o =
    ap (filter (λ (e : Row). not (begins p e.0.path))) (parts cs i j) ∙ all_apart p (before cs i j) (after cs i j) (all_before p z (before cs i j) o g.lower) (by_row (row_at cs i j) refl) ∙ sym (parts cs i j)
  where
    by_row : (r : Option Row) → row_at cs i j ≡ r → AllByRecursion (λ f. begins p f.0.path ≡ false) (after cs i j)
    by_row None is = subst (AllByRecursion (λ (f : Row). begins p f.0.path ≡ false)) (sym (none_after (after cs i j) (g.row ∙ is))) tt
    by_row (Some e) is =
        let rest : after cs i j ≡ e ∷ after cs i (suc j) = after_row cs i j e is in
        let sorted : Sorted (e ∷ after cs i (suc j)) = subst Sorted rest (sorted_second (before cs i j) (after cs i j) (subst Sorted (parts cs i j) s)) in
        subst (AllByRecursion (λ (f : Row). begins p f.0.path ≡ false)) (sym rest) (n e is, all_past p e (after cs i (suc j)) (then_lt (path_cmp e.0.path p) (nat_cmp e.0.serial.0 z.0) (g.upper e is)) (n e is) (rest_above e (after cs i (suc j)) sorted))

-- a row of the path's makes no difference to the others
pub under_cut : (p : List ℕ) (es fs : Rows) (e : Row) → begins p e.0.path ≡ true → filter (λ e. not (begins p e.0.path)) (es ++ e ∷ fs) ≡ filter (λ e. not (begins p e.0.path)) (es ++ fs)
under_cut p [] fs e h = rw h refl
under_cut p (d ∷ es) fs e h = by_test (begins p d.0.path) (under_cut p es fs e h)
  where
    by_test : (b : Bool) → filter (λ e. not (begins p e.0.path)) (es ++ e ∷ fs) ≡ filter (λ e. not (begins p e.0.path)) (es ++ fs) → cond (not b) (d ∷ filter (λ e. not (begins p e.0.path)) (es ++ e ∷ fs)) (filter (λ e. not (begins p e.0.path)) (es ++ e ∷ fs)) ≡ cond (not b) (d ∷ filter (λ e. not (begins p e.0.path)) (es ++ fs)) (filter (λ e. not (begins p e.0.path)) (es ++ fs))
    by_test true g = g
    by_test false g = ap (λ (xs : Rows). d ∷ xs) g

-- one row of the path's is taken out
pub record DropsOne (p : List ℕ) (n : ℕ) (old new : Rows) : Type 0 where
  pub some : 1 ≤ n
  pub counted : IsCounted (n - 1) new
  pub others : filter (λ e. not (begins p e.0.path)) new ≡ filter (λ e. not (begins p e.0.path)) old

pub drops_one : (p : List ℕ) (cs : List Rows) (i j n : ℕ) (new : Rows) → IsCounted n (joined cs) → IsSomeAnd (row_at cs i j) (λ e. begins p e.0.path ≡ true) → new ≡ before cs i j ++ after cs i (suc j) → DropsOne p n (joined cs) new
drops_one p cs i j n new c h m = by_row (row_at cs i j) refl h
  where
    by_row : (o : Option Row) → row_at cs i j ≡ o → IsSomeAnd o (λ e. begins p e.0.path ≡ true) → DropsOne p n (joined cs) new
    by_row None is b = absurd b
    by_row (Some e) is b =
        let own : has_key e.0 (row_at cs i j) ≡ true = ap (has_key e.0) is ∙ ap is_eq (tied_itself key_cmp_total e.0) in
        let apart : joined cs ≡ before cs i j ++ e ∷ after cs i (suc j) = parts_row cs i j e is in
        record {
          some = omega (arith, c.counted, some_row e.0 cs i j (joined cs) refl c.sorted own);
          counted = counted_less e.0 cs i j n c own new m;
          others = ap (filter (λ (e : Row). not (begins p e.0.path))) m ∙ sym (under_cut p (before cs i j) (after cs i (suc j)) e b) ∙ ap (filter (λ (e : Row). not (begins p e.0.path))) (sym apart);
        }

-- the same, where the place was found in a copy of the chunks
pub drops_one_at : (p : List ℕ) (cs ds : List Rows) (i j n : ℕ) (new : Rows) → IsCounted n (joined cs) → ds ≡ cs → IsSomeAnd (row_at ds i j) (λ e. begins p e.0.path ≡ true) → new ≡ before cs i j ++ after cs i (suc j) → DropsOne p n (joined cs) new
drops_one_at p cs ds i j n new c d h m = drops_one p cs i j n new c (subst (λ (xs : List Rows). IsSomeAnd (row_at xs i j) (λ e. begins p e.0.path ≡ true)) d h) m

pub some_under : (p : List ℕ) (cs ds : List Rows) (i j n : ℕ) → IsCounted n (joined cs) → ds ≡ cs → IsSomeAnd (row_at ds i j) (λ e. begins p e.0.path ≡ true) → 1 ≤ n
some_under p cs ds i j n c d h = (drops_one_at p cs ds i j n (before cs i j ++ after cs i (suc j)) c d h refl).some

-- ---- the rows under a path, one after another

-- behind a row that is not below a key none is
all_behind : (k : Key) (e : Row) (es : Rows) → is_below k e ≡ false → AllAbove e.0 es → NotBefore k.path es
all_behind k e [] n a = tt
all_behind k e (f ∷ es) n a = (then_lt (path_cmp f.0.path k.path) (nat_cmp f.0.serial.0 k.serial.0) (by_order (key_cmp f.0 k) refl), all_behind k e es n a.1)
  where
    by_order : (o : Ordering) → key_cmp f.0 k ≡ o → is_lt o ≡ false
    by_order Less is = sym (below_is k e (key_cmp_total.trans e.0 f.0 k a.0 is)) ∙ n
    by_order Equal is = refl
    by_order Greater is = refl

module _ (p : List ℕ) where
  -- rows that are not under it count for nothing
  others_before : (es fs : Rows) → AllByRecursion (λ f. begins p f.0.path ≡ false) es → filter (λ e. begins p e.0.path) (es ++ fs) ≡ filter (λ e. begins p e.0.path) fs
  others_before [] fs a = refl
  others_before (e ∷ es) fs a = rw a.0 (others_before es fs a.1)

  no_others : (es : Rows) → AllByRecursion (λ f. begins p f.0.path ≡ false) es → filter (λ e. begins p e.0.path) es ≡ []
  no_others [] a = refl
  no_others (e ∷ es) a = rw a.0 (no_others es a.1)

  module _ (cs : List Rows) (i j : ℕ) where
    -- where a search for a path's rows ends, they begin
    pub begin_here : (z : Serial) → IsEdge (key_from p z) cs i j → z.0 ≡ 0 → filter (λ e. begins p e.0.path) (joined cs) ≡ filter (λ e. begins p e.0.path) (after cs i j)
    begin_here z g o = ap (filter (λ (e : Row). begins p e.0.path)) (parts cs i j) ∙ others_before (before cs i j) (after cs i j) (all_before p z (before cs i j) o g.lower)

    pub none_before : (z : Serial) → Sorted (joined cs) → IsEdge (key_from p z) cs i j → NotBefore p (after cs i j)
    none_before z s g = by_row (row_at cs i j) refl
      where
        by_row : (r : Option Row) → row_at cs i j ≡ r → NotBefore p (after cs i j)
        by_row None is = subst (NotBefore p) (sym (none_after (after cs i j) (g.row ∙ is))) tt
        by_row (Some e) is =
            let rest : after cs i j ≡ e ∷ after cs i (suc j) = after_row cs i j e is in
            let sorted : Sorted (e ∷ after cs i (suc j)) = subst Sorted rest (sorted_second (before cs i j) (after cs i j) (subst Sorted (parts cs i j) s)) in
            subst (NotBefore p) (sym rest) (then_lt (path_cmp e.0.path p) (nat_cmp e.0.serial.0 z.0) (g.upper e is), all_behind (key_from p z) e (after cs i (suc j)) (g.upper e is) (rest_above e (after cs i (suc j)) sorted))

    -- one row more
    pub row_more : (ks more : List Key) (e : Row) → row_at cs i j ≡ Some e → begins p e.0.path ≡ true → keys_of (filter (λ e. begins p e.0.path) (joined cs)) ≡ ks ++ keys_of (filter (λ e. begins p e.0.path) (after cs i j)) → more ≡ ks ++ e.0 ∷ [] → keys_of (filter (λ e. begins p e.0.path) (joined cs)) ≡ more ++ keys_of (filter (λ e. begins p e.0.path) (after cs i (suc j)))
    row_more ks more e is b h m =
        let first : keys_of (filter (λ e. begins p e.0.path) (e ∷ after cs i (suc j))) ≡ e.0 ∷ keys_of (filter (λ e. begins p e.0.path) (after cs i (suc j))) = rw b refl in
        h
        ∙ ap (λ (es : Rows). ks ++ keys_of (filter (λ (e : Row). begins p e.0.path) es)) (after_row cs i j e is)
        ∙ ap (λ (xs : List Key). ks ++ xs) first
        ∙ sym (append_assoc ks (e.0 ∷ []) (keys_of (filter (λ (e : Row). begins p e.0.path) (after cs i (suc j)))))
        ∙ ap (λ (xs : List Key). xs ++ keys_of (filter (λ (e : Row). begins p e.0.path) (after cs i (suc j)))) (sym m)

    -- past a row that is not under the path, or the last, there is none
    pub rows_over : Sorted (joined cs) → NotBefore p (after cs i j) → slice_get (after cs i j) 0 ≡ row_at cs i j → ForSome (row_at cs i j) (λ e. begins p e.0.path ≡ false) → filter (λ e. begins p e.0.path) (after cs i j) ≡ []
    rows_over s n g b = no_others (after cs i j) (by_row (row_at cs i j) refl)
      where
        by_row : (r : Option Row) → row_at cs i j ≡ r → AllByRecursion (λ f. begins p f.0.path ≡ false) (after cs i j)
        by_row None is = subst (AllByRecursion (λ (f : Row). begins p f.0.path ≡ false)) (sym (none_after (after cs i j) (g ∙ is))) tt
        by_row (Some e) is =
            let rest : after cs i j ≡ e ∷ after cs i (suc j) = after_row cs i j e is in
            let sorted : Sorted (e ∷ after cs i (suc j)) = subst Sorted rest (sorted_second (before cs i j) (after cs i j) (subst Sorted (parts cs i j) s)) in
            subst (AllByRecursion (λ (f : Row). begins p f.0.path ≡ false)) (sym rest) (b e is, all_past p e (after cs i (suc j)) (subst (NotBefore p) rest n).0 (b e is) (rest_above e (after cs i (suc j)) sorted))
