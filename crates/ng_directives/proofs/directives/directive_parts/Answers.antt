use Rattle.std.proofs.Common.{subst, map}
use Rattle.ng_base.specs.Meets.{Gives}
use Rattle.ng_interp.specs.Parts.{is_free, piece_of}
use Rattle.ng_directives.specs.Directives.{text_on, parts_for}
use Rattle.ng_directives.proofs.directives.directive_parts.Goals as goal

pub returns-clause-parts : goal.returns-clause-parts
returns-clause-parts c =
    c.judged_parts.ensures.parts (parts_for c.args.setting (text_on c.args.pick.now.attribute))
    (subst (λ t. Gives is_free (λ v. map piece_of v.items) (parts_for c.args.setting t) c.read_parts.result) c.in_ok-text.ensures c.read_parts.ensures)
