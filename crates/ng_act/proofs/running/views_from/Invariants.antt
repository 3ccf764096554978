use Rattle.std.proofs.Common.{◌≡◌, ◌++◌, map, drop}
use Rattle.ng_base.specs.Views.{prim, views_list}
use Rattle.ng_base.specs.ViewOf.{views_of}
use Rattle.ng_act.proofs.running.views_from.Given as goal

abbrev pub invariant-loop-v : goal.invariant-loop-v
invariant-loop-v l = views_list (views_of l.views) ++ map prim (drop l.v-index l.given) ≡ map prim l.given
