use Rattle.std.proofs.Common.{◌∙◌, [], Ok, ap, sym, map}
use Rattle.ng_interp.specs.Parts.{piece_of}
use Rattle.ng_template.specs.Around.{at_place, whole_heads, head_onto}
use Rattle.ng_template.specs.AroundOf.{blocks_of, programs_of}
use Rattle.ng_directives.specs.Directives.{text_on}
use Rattle.ng_template.proofs.Blocks.{whole-made, whole-wrong, gives_err}
use Rattle.ng_template.proofs.around.push_whole.Goals as goal

pub returns-in_err-parts : goal.returns-in_err-parts
returns-in_err-parts c =
    let text = text_on c.args.pick.now.attribute in
    let before = blocks_of c.args.heads.now.items in
    let starts = programs_of c.args.starts.items in
    gives_err _ (at_place c.args.place (head_onto before (whole_heads c.args.named starts text))) c.from_residual.result c.in_err-parts.field-0.0 c.from_residual.ensures.1
    (λ m. whole-wrong c.args.place c.args.named starts before text c.in_err-parts.field-0.0 (c.in_err-parts.ensures.parts m))

pub returns : goal.returns
returns c =
    whole-made c.args.place c.args.named (programs_of c.args.starts.items) (blocks_of c.args.heads.now.items) (text_on c.args.pick.now.attribute) (map piece_of c.in_ok-parts.parts.items) c.in_ok-parts.ensures.parts
    ∙ (ap (λ bs. Ok ([], bs)) (sym c.in_ok-push_block.ensures) ∙ ap (λ ps. Ok (programs_of ps, blocks_of c.push_block.new.heads.items)) (sym c.new.ensures.items))
