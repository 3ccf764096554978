use Rattle.std.proofs.Common.{◌≡◌, map}
use Rattle.ng_base.specs.Views.{views_list}
use Rattle.ng_base.specs.ViewOf.{view_of, views_of}
use Rattle.ng_filters.specs.declared.ordering.Row.{Row}
use Rattle.ng_filters.proofs.ordering.items_of.Given as goal

abbrev pub invariant-loop-row : goal.invariant-loop-row
invariant-loop-row l = views_list (views_of l.done) ≡ map (λ (r : Row). view_of r.item) l.yielded
