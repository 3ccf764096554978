-- Views that stand, one by one.
use Rattle.std.proofs.Common.{◌≡◌, ℕ, List, [], ◌∷◌, ◌++◌, map, length, refl, sym, ap, subst}
use Rattle.std.specs.List.{AllByRecursion}
use Rattle.ng_base.specs.Views.{ViewTree, ViewTrees, list, no_views, view_then, views_list}
use Rattle.ng_base.specs.ViewOf.{view_of}
use Rattle.ng_base.specs.declared.view.View.{View}
use Rattle.ng_language.specs.Views.{ViewStands, ViewsStand}

pub pushed_stand : (n : ℕ) (ts us : List ViewTree) (t : ViewTree) → us ≡ ts ++ t ∷ [] → AllByRecursion (ViewStands n) ts → ViewStands n t → AllByRecursion (ViewStands n) us
pushed_stand n ts us t e a s = subst (AllByRecursion (ViewStands n)) (sym e) (all ts a)
  where
    all : (xs : List ViewTree) → AllByRecursion (ViewStands n) xs → AllByRecursion (ViewStands n) (xs ++ t ∷ [])
    all [] b = (s, tt)
    all (x ∷ xs) b = (b.0, all xs b.1)

pub listed_stand : (n : ℕ) (ts : ViewTrees) → AllByRecursion (ViewStands n) (views_list ts) → ViewsStand n ts
listed_stand n no_views a = tt
listed_stand n (view_then t ts) a = (a.0, listed_stand n ts a.1)

pub ruleset standing = (pushed_stand, listed_stand)
