use Rattle.std.proofs.Common.{◌∙◌, List, ap}
use Rattle.std.specs.Prelude.{slice_get}
use Rattle.ng_parts.specs.FragmentOf.{outlet_of, outlets_of}
use Rattle.ng_parts.specs.declared.outlets.Outlet.{Outlet}
use Rattle.ng_parts.proofs.Lookups.{lookup_seen}
use Rattle.ng_compose.proofs.composed.outlet_at.Goals as goal

pub returns : goal.returns
returns c = lookup_seen outlet_of c.deref.result.now c.args.n c.get.result c.get.ensures.lookup ∙ ap (λ (xs : List Outlet). slice_get (outlets_of xs) c.args.n) c.deref.ensures.value
