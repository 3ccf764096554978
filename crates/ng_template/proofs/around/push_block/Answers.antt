use Rattle.std.proofs.Common.{◌∙◌, ◌∷◌, ◌++◌, [], List, ap}
use Rattle.std.proofs.lemmas.List.{map-append}
use Rattle.std.specs.Option.{option_to_list}
use Rattle.ng_parse.specs.ProgramOf.{program}
use Rattle.ng_template.specs.Around.{Block, block_with}
use Rattle.ng_template.specs.AroundOf.{block_of, blocks_of, programs_of}
use Rattle.ng_parts.specs.SiteOf.{site_with}
use Rattle.ng_template.proofs.OnePart.{hole_known, hole_pure, none_added, words_added, hole_added}
use Rattle.ng_template.proofs.around.push_block.Goals as goal

pub returns-in-None : goal.returns-in-None
returns-in-None c =
    none_added (blocks_of c.args.heads.now.items) c.args.named (programs_of c.args.starts.items) c.args.parts.items (c.only_part.ensures ∙ ap option_to_list c.in-None.is)

pub returns-in-Some-Words : goal.returns-in-Some-Words
returns-in-Some-Words c =
    words_added (blocks_of c.args.heads.now.items) c.args.named (programs_of c.args.starts.items) c.args.parts.items _
    (c.only_part.ensures ∙ (ap option_to_list c.in-Some-Words.is ∙ ap (λ p. p ∷ []) c.in-Some-Words.field-0-is))

pub new-site-requires-clause-known : goal.new-site-requires-clause-known
new-site-requires-clause-known c =
    hole_known c.args.parts.items c.in-Some-Hole.one_time c.in-Some-Hole.program (c.only_part.ensures ∙ (ap option_to_list c.in-Some-Hole.is ∙ ap (λ p. p ∷ []) c.in-Some-Hole.field-0-is)) c.requires.known

pub new-site-requires-clause-pure : goal.new-site-requires-clause-pure
new-site-requires-clause-pure c =
    hole_pure c.args.parts.items c.in-Some-Hole.one_time c.in-Some-Hole.program (c.only_part.ensures ∙ (ap option_to_list c.in-Some-Hole.is ∙ ap (λ p. p ∷ []) c.in-Some-Hole.field-0-is)) c.requires.pure

pub returns-in_ok-push-in-Some-Hole : goal.returns-in_ok-push-in-Some-Hole
returns-in_ok-push-in-Some-Hole c =
    let before : List Block = blocks_of c.args.heads.now.items in
    ap blocks_of c.in_ok-push-in-Some-Hole.ensures.items
    ∙ (map-append block_of c.args.heads.now.items (_ ∷ [])
    ∙ (ap (λ (b : Block). before ++ b ∷ []) (c.block_with.ensures ∙ ap (block_with c.args.named (programs_of c.args.starts.items)) (c.new-site.ensures ∙ ap (λ k. site_with k c.in-Some-Hole.one_time (program c.in-Some-Hole.program)) c.kind_of_block.ensures))
    ∙ hole_added before c.args.named (programs_of c.args.starts.items) c.args.parts.items c.in-Some-Hole.one_time c.in-Some-Hole.program
    (c.only_part.ensures ∙ (ap option_to_list c.in-Some-Hole.is ∙ ap (λ p. p ∷ []) c.in-Some-Hole.field-0-is))))
