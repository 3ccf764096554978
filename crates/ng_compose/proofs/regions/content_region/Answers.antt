use Rattle.std.proofs.Common.{◌∙◌, List, Option, ap, map}
use Rattle.ng_drawing.specs.declared.origin.Content.{Content}
use Rattle.ng_parts.specs.ActsOf.{outside_of}
use Rattle.ng_compose.specs.ComposedOf.{region_of}
use Rattle.ng_drawing.specs.Composing.{tail_of}
use Rattle.ng_parts.specs.FragmentOf.{fragment_of}
use Rattle.ng_compose.proofs.ComposingTurns.{same_region, tail_map}
use Rattle.ng_compose.proofs.regions.content_region.Goals as goal

pub returns : goal.returns
returns c =
    let r = region_of c.args.inner.now in
    let home = ap (λ (ks : List (Option Content)). record { template = c.args.content.template; room = r.home.room; given = ks }) c.in_ok-given.ensures in
    same_region (fragment_of c.args.source.now) _ _ _ _ c.args.scope home (ap (map outside_of) (c.in_ok-outsides.ensures ∙ ap tail_of c.as_slice.ensures.value) ∙ tail_map outside_of c.args.inner.now.outsides.items)
