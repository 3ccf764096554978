use Rattle.std.proofs.Common.{◌∙◌, ap, map}
use Rattle.std.specs.Prelude.{slice_get}
use Rattle.ng_parts.specs.FragmentOf.{spot_of}
use Rattle.ng_parts.proofs.Lookups.{lookup_seen}
use Rattle.ng_parts.proofs.fragment.Fragment.spot.Goals as goal

pub returns : goal.returns
returns c = lookup_seen spot_of c.deref.result.now c.args.outlet c.get.result c.get.ensures.lookup ∙ ap (λ xs. slice_get (map spot_of xs) c.args.outlet) c.deref.ensures.value
