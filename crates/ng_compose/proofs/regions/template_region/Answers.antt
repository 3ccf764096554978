use Rattle.std.proofs.Common.{◌∙◌, List, Option, ap, map}
use Rattle.ng_drawing.specs.declared.origin.Content.{Content}
use Rattle.ng_parts.specs.ActsOf.{uses_of, outside_of, scopes_of}
use Rattle.ng_compose.specs.ComposedOf.{region_of}
use Rattle.ng_drawing.specs.Composing.{outsides_by}
use Rattle.ng_parts.specs.FragmentOf.{fragment_of}
use Rattle.ng_parts.specs.declared.acts.Outside.{Outside}
use Rattle.ng_compose.proofs.ComposingTurns.{region_same}
use Rattle.ng_compose.proofs.regions.template_region.Goals as goal

pub returns : goal.returns
returns c =
    let r = region_of c.args.inner.now in
    let outer = (scopes_of c.args.scopes).outer in
    let home = ap (λ (ks : List (Option Content)). record { template = c.args.template; room = r.home.room; given = ks }) c.in_ok-given.ensures in
    let outsides = c.in_ok-outsides.ensures ∙ ap (λ (os : List Outside). outsides_by (uses_of c.args.uses.now) outer (map outside_of os)) c.as_slice.ensures.value in
    region_same (fragment_of c.args.source.now) _ _ _ _ _ _ home outsides c.template_scope-scope.ensures
