use Rattle.std.proofs.Common.{◌≡◌, ◌-◌, ◌++◌, take, drop, length}
use Rattle.std.specs.List.{AllByRecursion}
use Rattle.ng_base.specs.Views.{views_list}
use Rattle.ng_base.specs.ViewOf.{view_of, views_of}
use Rattle.ng_language.specs.Views.{ViewStands}
use Rattle.ng_members.specs.Methods.{items_of}
use Rattle.ng_members.proofs.items.append_items.Given as goal

abbrev pub invariant-loop-i : goal.invariant-loop-i
invariant-loop-i l = record {
  stands : AllByRecursion (ViewStands (length l.store)) (views_list (views_of l.done));
  same : views_list (views_of l.done) ++ take (l.to - l.i) (drop l.i (items_of l.store (view_of l.v)))
      ≡ views_list (views_of l.initial.done) ++ take (l.to - l.from) (drop l.from (items_of l.store (view_of l.v)));
}
