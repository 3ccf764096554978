use Rattle.std.proofs.Common.{◌∙◌, Bool, List, ℕ, Some, ap, map}
use Rattle.std.specs.List.{flat_map}
use Rattle.std.specs.Prelude.{option_map}
use Rattle.ng_drawing.specs.Template.{Binding, SiteScopes}
use Rattle.ng_parts.specs.ActsOf.{binding_of, uses_of, outside_of}
use Rattle.ng_compose.specs.ComposedOf.{region_of, composed_of}
use Rattle.ng_drawing.specs.Composing.{sites_on, scope_if}
use Rattle.ng_drawing.specs.Numbering.{source_numbers}
use Rattle.ng_parts.specs.declared.acts.Binding as code
use Rattle.ng_compose.proofs.ComposingTurns.{scopes_is}
use Rattle.ng_compose.proofs.composing.open_for.Goals as goal

pub returns : goal.returns
returns c =
    let r = region_of c.args.region.now in
    let mid = composed_of c.scope_if.new.self in
    let last = composed_of c.scope_if-2.new.self in
    let mark : SiteScopes = record { under = c.in_ok-isolate.isolate; over = c.in_ok-own.own } in
    let isolate = c.in_ok-isolate.ensures ∙ ap (λ (b : Bool). scope_if b 0 mid) c.is_some.ensures in
    let numbers = c.as_slice-2.ensures.value ∙ (c.in_ok-numbers.ensures ∙ ap (λ (bs : List code.Binding). flat_map (λ (b : Binding). source_numbers b.source) (map binding_of bs)) c.as_slice.ensures.value) in
    scopes_is r (Some (uses_of c.args.uses.now)) (option_map outside_of c.args.slot) (composed_of c.args.made.now) mid last (composed_of c.add_sites.new.self) c.in_ok-own.own c.in_ok-isolate.isolate
    c.in_ok-own.ensures isolate (c.in_ok-add_sites.ensures ∙ ap (λ (ns : List ℕ). (sites_on r mark ns last).1) numbers)
