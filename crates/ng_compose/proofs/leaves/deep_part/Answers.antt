use Rattle.std.proofs.Common.{◌∙◌, [], List, ℕ, true, ap}
use Rattle.ng_drawing.specs.Template.{Acts, Part, element_part, children, no_parts}
use Rattle.ng_parts.specs.ActsOf.{acts_of}
use Rattle.ng_compose.specs.ComposedOf.{composed_of}
use Rattle.ng_drawing.specs.Composing.{alone}
use Rattle.ng_compose.proofs.leaves.deep_part.Goals as goal

pub returns : goal.returns
returns c =
    let old = composed_of c.args.made.now in
    let name = ap (λ (e : List ℕ). element_part e [] (acts_of c.deep_acts.result) [] (children no_parts)) c.in_ok-copied.ensures in
    let acts = ap (λ (a : Acts). element_part c.args.name.now [] a [] (children no_parts)) c.deep_acts.ensures in
    ap (λ (p : Part). (alone p, record old { ended = true })) (c.bare_element.ensures ∙ (name ∙ acts))
