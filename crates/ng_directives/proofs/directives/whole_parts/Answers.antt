use Rattle.std.proofs.Common.{subst, map}
use Rattle.ng_base.specs.Meets.{Gives}
use Rattle.ng_interp.specs.Parts.{is_free, piece_of}
use Rattle.ng_directives.specs.Directives.{text_on, whole}
use Rattle.ng_directives.proofs.directives.whole_parts.Goals as goal

pub returns-clause-parts : goal.returns-clause-parts
returns-clause-parts c =
    c.judged_parts.ensures.parts (whole (text_on c.args.pick.now.attribute))
    (subst (λ t. Gives is_free (λ v. map piece_of v.items) (whole t) c.read_whole.result) c.in_ok-text.ensures c.read_whole.ensures.parts)
