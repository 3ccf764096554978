use Rattle.std.proofs.Common.{◌≡◌, ◌∙◌, Option, None, Some, ap, sym, subst}
use Rattle.std.specs.Prelude.{option_map, IfOk}
use Rattle.ng_drawing.specs.Template.{Outside, Scopes}
use Rattle.ng_drawing.specs.declared.origin.Content.{Content}
use Rattle.ng_parts.specs.ActsOf.{uses_of, scopes_of}
use Rattle.ng_compose.specs.ComposedOf.{region_of, composed_of}
use Rattle.ng_drawing.specs.Composing.{Composed, given_in, outside_in, scopes_for}
use Rattle.ng_parts.specs.declared.acts.Uses as code
use Rattle.ng_compose.proofs.composing.open_scopes.Goals as goal

pub returns-in-None : goal.returns-in-None
returns-in-None c =
    let r = region_of c.args.region.now in
    let old = composed_of c.args.made.now in
    let slot = c.outside_in-slot.ensures ∙ ap (λ (k : Option Content). outside_in k r) c.given_in.ensures in
    ap (λ (s : Option Outside). scopes_for r None s old) slot
    ∙ ap (λ (u : Option code.Uses). scopes_for r (option_map uses_of u) (outside_in (given_in c.args.acts.now.slot r) r) old) (sym c.in-None.is)

pub returns-in-Some : goal.returns-in-Some
returns-in-Some c =
    let r = region_of c.args.region.now in
    let old = composed_of c.args.made.now in
    let slot = c.outside_in-slot.ensures ∙ ap (λ (k : Option Content). outside_in k r) c.given_in.ensures in
    let asked = ap (λ (s : Option Outside). scopes_for r (Some (uses_of c.in-Some.uses)) s old) slot
    ∙ ap (λ (u : Option code.Uses). scopes_for r (option_map uses_of u) (outside_in (given_in c.args.acts.now.slot r) r) old) (sym c.in-Some.is) in
    subst (λ (x : Scopes × Composed). IfOk c.open_for.result (λ s. (scopes_of s, composed_of c.open_for.new.made) ≡ x)) asked c.open_for.ensures
