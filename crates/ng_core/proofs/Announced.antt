-- Arguments stand where more objects stand.
use Rattle.std.proofs.Common.{◌≤◌, ℕ, List}
use Rattle.std.specs.List.{AllByRecursion}
use Rattle.ng_base.specs.Views.{ViewTree}
use Rattle.ng_language.specs.Views.{ViewStands}
use Rattle.ng_store.proofs.Sound.{all_through}
use Rattle.ng_write.proofs.More.{view_more}

pub list_stands_more : (n m : ℕ) (ts : List ViewTree) (t : ViewTree) → ((k : ℕ) → AllByRecursion (ViewStands k) ts → ViewStands k t) → AllByRecursion (ViewStands n) ts → n ≤ m → ViewStands m t
list_stands_more n m ts t f a h = f m (all_through (ViewStands n) (ViewStands m) (λ x s. view_more n m h x s) ts a)

pub ruleset kept = (list_stands_more)
