use Rattle.std.proofs.Common.{◌≡◌, true, None, [], ap, sym, subst, ◌∙◌}
use Rattle.ng_drawing.specs.Template.{Fragment}
use Rattle.ng_html.specs.Seen.{forest_of}
use Rattle.ng_template.specs.Compiles.{compiled_forest}
use Rattle.ng_parts.specs.FragmentOf.{fragments_of}
use Rattle.ng_drawing.specs.Numbering.{are_bare, is_regular}
use Rattle.ng_parts.specs.Seen.{parts_of}
use Rattle.ng_elements.specs.HeadOf.{made_of}
use Rattle.ng_template.proofs.Compiled.{made_bare, made_regular}
use Rattle.ng_template.proofs.compiling.compile.Goals as goal

pub new-requires-3-clause-regular : goal.new-requires-3-clause-regular
new-requires-3-clause-regular c =
    let f = forest_of c.args.s.now.forest in
    let start = c.begun_body-made.ensures ∙ ap (λ bs. record { places = c.as_slice.result.now; sites = []; outlets = []; bodies = fragments_of bs }) c.new.ensures.items in
    subst (λ (o : Fragment). is_regular (record { own = o; bodies = fragments_of c.in_ok-parts.made.bodies.items }) ≡ true) (sym c.alone-own.ensures)
    (made_regular c.args.r.now c.args.slots (f, c.as_slice.result.now) (parts_of c.in_ok-parts.parts, made_of c.in_ok-parts.made) (ap (compiled_forest c.args.r.now c.args.slots None f) (sym start) ∙ c.in_ok-parts.ensures))

pub new-requires-3-clause-bare : goal.new-requires-3-clause-bare
new-requires-3-clause-bare c =
    let f = forest_of c.args.s.now.forest in
    let start = c.begun_body-made.ensures ∙ ap (λ bs. record { places = c.as_slice.result.now; sites = []; outlets = []; bodies = fragments_of bs }) c.new.ensures.items in
    subst (λ (o : Fragment). are_bare (record { own = o; bodies = fragments_of c.in_ok-parts.made.bodies.items }) ≡ true) (sym c.alone-own.ensures)
    (made_bare c.args.r.now c.args.slots (f, c.as_slice.result.now) (parts_of c.in_ok-parts.parts, made_of c.in_ok-parts.made) (ap (compiled_forest c.args.r.now c.args.slots None f) (sym start) ∙ c.in_ok-parts.ensures))
