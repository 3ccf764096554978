-- The outlets of an instance where a body comes or goes.
use Rattle.std.proofs.Common.{◌≡◌, ◌≤◌, ◌+◌, ℕ, zero, suc, Bool, true, false, List, [], ◌∷◌, ◌++◌, cond, Option, Some, None, refl, ap, ◌∙◌, map, arith, slice_get}
use Rattle.std.specs.Prelude.{not}
use Rattle.std.specs.List.{AllByRecursion, filter}
use Rattle.ng_base.specs.Views.{ViewTree}
use Rattle.ng_dom.specs.Lists.{put_at}
use Rattle.ng_drawing.specs.Cases.{Case}
use Rattle.ng_drawing.specs.Rows.{is_filled}
use Rattle.ng_drawing.specs.Template.{Filling, Outlet}
use Rattle.ng_instances.specs.Instances.{Body, OutletState, is_path, with_body, body_added, body_gone}
use Rattle.ng_link.specs.Standing.{body_count, held_count}
use Rattle.ng_link.specs.State.{roles_in}
use Rattle.ng_commands.specs.Settled.{CallsFor, AreOutlets}

-- what a value calls for is asked of the filling and of the bodies that stand
pub calls_same : (cases : List Case) (o : Option ViewTree) (x y : OutletState) → y.filling ≡ x.filling → y.bodies ≡ x.bodies → CallsFor cases o x → CallsFor cases o y
calls_same cases None x y f b h = tt
calls_same cases (Some v) x y f b h = ap (λ (g : Filling). is_filled cases g (Some v) (roles_in y.bodies)) f ∙ (ap (λ (bs : List Body). is_filled cases x.filling (Some v) (roles_in bs)) b ∙ h)

pub all_mapped : {A B : Type 0} (P : A → Type 0) (Q : B → Type 0) (f : A → B) (xs : List A) → ((x : A) → P x → Q (f x)) → AllByRecursion P xs → AllByRecursion Q (map f xs)
all_mapped P Q f [] g all = tt
all_mapped P Q f (x ∷ xs) g all = (g x all.0, all_mapped P Q f xs g all.1)

-- ---- a body goes

module _ (p : List ℕ) where
  abbrev stays : Body → Bool
  stays b = not (is_path p b.path)

  pub filter_all : (P : Body → Type 0) (bs : List Body) → AllByRecursion P bs → AllByRecursion P (filter stays bs)
  filter_all P [] all = tt
  filter_all P (b ∷ bs) all = by_test (stays b) (filter_all P bs all.1)
    where
      by_test : (t : Bool) → AllByRecursion P (filter stays bs) → AllByRecursion P (cond t (b ∷ filter stays bs) (filter stays bs))
      by_test true more = (all.0, more)
      by_test false more = more

  pub gone_within : (q : List ℕ) (bs : List Body) → body_count q (filter stays bs) ≤ body_count q bs
  gone_within q [] = omega arith
  gone_within q (b ∷ bs) = by_test (stays b) (gone_within q bs)
    where
      by_test : (t : Bool) → body_count q (filter stays bs) ≤ body_count q bs → body_count q (cond t (b ∷ filter stays bs) (filter stays bs)) ≤ body_count q (b ∷ bs)
      by_test true more = omega (arith, more)
      by_test false more = omega (arith, more)

  -- where the body is not, all stay
  pub filter_none : (bs : List Body) → body_count p bs ≡ 0 → filter stays bs ≡ bs
  filter_none [] e = refl
  filter_none (b ∷ bs) e = by_test (is_path p b.path) refl e (filter_none bs)
    where
      by_test : (t : Bool) → is_path p b.path ≡ t → cond {A = ℕ} t 1 0 + body_count p bs ≡ 0 → (body_count p bs ≡ 0 → filter stays bs ≡ bs) → filter stays (b ∷ bs) ≡ b ∷ bs
      by_test true is none more = absurd (omega (arith, none))
      by_test false is none more = ap (λ (t : Bool). cond (not t) (b ∷ filter stays bs) (filter stays bs)) is ∙ ap (λ (cs : List Body). b ∷ cs) (more (omega (arith, none)))

  pub gone_outlets : (serials : List ℕ) (os : List Outlet) (xs : List OutletState) → AreOutlets serials os xs → AreOutlets serials os (body_gone p xs)
  gone_outlets serials [] [] h = tt
  gone_outlets serials [] (x ∷ xs) h = h
  gone_outlets serials (o ∷ os) [] h = h
  gone_outlets serials (o ∷ os) (x ∷ xs) h = (h.0, gone_outlets serials os xs h.1)

  pub gone_count : (q : List ℕ) (xs : List OutletState) → held_count q (body_gone p xs) ≤ held_count q xs
  gone_count q [] = omega arith
  gone_count q (x ∷ xs) = let here = gone_within q x.bodies in let more = gone_count q xs in omega (arith, here, more)

-- ---- a body comes

added_here : (i : ℕ) (b : Body) (q : List ℕ) (bs : List Body) → body_count q (put_at i b bs) ≡ body_count q bs + cond {A = ℕ} (is_path q b.path) 1 0
added_here zero b q bs = omega arith
added_here (suc i) b q [] = omega arith
added_here (suc i) b q (c ∷ bs) = let more = added_here i b q bs in omega (arith, more)

pub added_count : (n i : ℕ) (b : Body) (q : List ℕ) (xs : List OutletState) → held_count q (body_added n i b xs) ≤ held_count q xs + cond {A = ℕ} (is_path q b.path) 1 0
added_count n i b q [] = omega arith
added_count zero i b q (x ∷ xs) = let here = added_here i b q x.bodies in omega (arith, here)
added_count (suc n) i b q (x ∷ xs) = let more = added_count n i b q xs in omega (arith, more)

pub added_outlets : (n i : ℕ) (b : Body) (serials : List ℕ) (os : List Outlet) (xs : List OutletState) → AreOutlets serials os xs → AreOutlets serials os (body_added n i b xs)
added_outlets n i b serials [] [] h = tt
added_outlets n i b serials [] (x ∷ xs) h = absurd h
added_outlets n i b serials (o ∷ os) [] h = absurd h
added_outlets zero i b serials (o ∷ os) (x ∷ xs) h = h
added_outlets (suc n) i b serials (o ∷ os) (x ∷ xs) h = (h.0, added_outlets n i b serials os xs h.1)

-- what holds of all outlets holds of all, where it holds of the one that gets a body
pub added_all : (P : OutletState → Type 0) (n i : ℕ) (b : Body) (xs : List OutletState) → ((x : OutletState) → slice_get xs n ≡ Some x → P x → P (with_body i b x)) → AllByRecursion P xs → AllByRecursion P (body_added n i b xs)
added_all P n i b [] f all = tt
added_all P zero i b (x ∷ xs) f all = (f x refl all.0, all.1)
added_all P (suc n) i b (x ∷ xs) f all = (all.0, added_all P n i b xs f all.1)

pub put_all : {A : Type 0} (P : A → Type 0) (i : ℕ) (xs : List A) (y : A) → P y → AllByRecursion P xs → AllByRecursion P (put_at i y xs)
put_all P zero xs y one all = (one, all)
put_all P (suc i) [] y one all = (one, tt)
put_all P (suc i) (x ∷ xs) y one all = (all.0, put_all P i xs y one all.1)

pub push_all : {A : Type 0} (P : A → Type 0) (xs : List A) (y : A) → P y → AllByRecursion P xs → AllByRecursion P (xs ++ y ∷ [])
push_all P [] y one all = (one, tt)
push_all P (x ∷ xs) y one all = (all.0, push_all P xs y one all.1)
