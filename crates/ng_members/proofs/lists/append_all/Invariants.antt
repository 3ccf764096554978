use Rattle.std.proofs.Common.{◌≡◌, map, drop, length}
use Rattle.std.specs.List.{AllByRecursion}
use Rattle.ng_base.specs.Views.{views_list}
use Rattle.ng_base.specs.ViewOf.{view_of, views_of}
use Rattle.ng_language.specs.Views.{ViewStands}
use Rattle.ng_members.specs.Methods.{concatenated}
use Rattle.ng_members.proofs.lists.append_all.Given as goal

abbrev pub invariant-loop-v : goal.invariant-loop-v
invariant-loop-v l = record {
  left : AllByRecursion (ViewStands (length l.store)) (map view_of (drop l.v-index l.args));
  stands : AllByRecursion (ViewStands (length l.store)) (views_list (views_of l.done));
  same : concatenated l.store (views_list (views_of l.done)) (map view_of (drop l.v-index l.args))
      ≡ concatenated l.store (views_list (views_of l.initial.done)) (map view_of l.args);
}
