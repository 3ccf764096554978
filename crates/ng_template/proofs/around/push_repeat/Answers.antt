use Rattle.std.proofs.Common.{◌∙◌, ◌∷◌, [], Ok, ap, sym}
use Rattle.std.proofs.lemmas.List.{map-append}
use Rattle.ng_template.specs.Around.{at_place, for_heads, head_onto}
use Rattle.ng_template.specs.AroundOf.{block_of, blocks_of, programs_of}
use Rattle.ng_directives.specs.Directives.{text_on}
use Rattle.ng_parts.specs.RepeatedOf.{repeated_of}
use Rattle.ng_template.specs.Repeating.{repeat_in}
use Rattle.ng_parts.specs.SiteOf.{site_of}
use Rattle.ng_template.proofs.Blocks.{for-made, for-wrong, gives_err}
use Rattle.ng_template.proofs.around.push_repeat.Goals as goal

pub returns-in_err-read : goal.returns-in_err-read
returns-in_err-read c =
    let text = text_on c.args.pick.now.attribute in
    let before = blocks_of c.args.heads.now.items in
    gives_err _ (at_place c.args.place (head_onto before (for_heads text))) c.from_residual-in_err-read.result c.in_err-read.field-0.0 c.from_residual-in_err-read.ensures.1
    (λ m. for-wrong c.args.place before text c.in_err-read.field-0.0 (ap (λ t. at_place c.args.place (repeat_in t)) (sym c.in_ok-text.ensures) ∙ c.in_err-read.ensures m))

pub returns : goal.returns
returns c =
    for-made c.args.place (blocks_of c.args.heads.now.items) (text_on c.args.pick.now.attribute) (site_of c.in_ok-read.read.site, repeated_of c.in_ok-read.read.repeated)
    (ap (λ t. at_place c.args.place (repeat_in t)) (sym c.in_ok-text.ensures) ∙ c.in_ok-read.ensures)
    ∙ (ap (λ bs. Ok ([], bs)) (sym (ap blocks_of c.in_ok-push.ensures.items ∙ map-append block_of c.args.heads.now.items (_ ∷ [])))
    ∙ ap (λ ps. Ok (programs_of ps, blocks_of c.push.new.self.items)) (sym c.new.ensures.items))
