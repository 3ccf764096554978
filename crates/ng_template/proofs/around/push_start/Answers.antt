use Rattle.std.proofs.Common.{◌∙◌, ◌∷◌, [], Ok, ap, sym}
use Rattle.std.proofs.lemmas.List.{map-append}
use Rattle.ng_parse.specs.ProgramOf.{program}
use Rattle.ng_template.specs.Around.{at_place, start_heads, starts_in}
use Rattle.ng_template.specs.AroundOf.{programs_of}
use Rattle.ng_directives.specs.Directives.{text_on}
use Rattle.ng_template.proofs.Blocks.{start-made, start-wrong, gives_err}
use Rattle.ng_template.proofs.around.push_start.Goals as goal

pub returns-in_err-program : goal.returns-in_err-program
returns-in_err-program c =
    let text = text_on c.args.pick.now.attribute in
    let starts = programs_of c.args.starts.items in
    gives_err _ (at_place c.args.place (starts_in (start_heads starts text))) c.from_residual.result c.in_err-program.field-0.0 c.from_residual.ensures.1
    (λ m. start-wrong c.args.place starts text c.in_err-program.field-0.0 (c.in_err-program.ensures m))

pub returns : goal.returns
returns c =
    let text = text_on c.args.pick.now.attribute in
    let starts = programs_of c.args.starts.items in
    start-made c.args.place starts text (program c.in_ok-program.program) c.in_ok-program.ensures
    ∙ ap Ok (sym (ap programs_of c.in_ok-push.ensures.items ∙ map-append program c.args.starts.items (c.in_ok-program.program ∷ [])))
