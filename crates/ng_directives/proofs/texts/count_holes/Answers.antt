use Rattle.std.proofs.Common.{ap, arith, map, length}
use Rattle.std.proofs.lemmas.List.{drop_all}
use Rattle.ng_drawing.specs.declared.kind.SiteKind.TheVariants as kinds
use Rattle.ng_interp.specs.Parts.{piece_of}
use Rattle.ng_directives.specs.Texts.{sites_in}
use Rattle.ng_directives.proofs.Numbers.{same_count}
use Rattle.ng_directives.proofs.texts.count_holes.Goals as goal

pub returns-clause-count : goal.returns-clause-count
returns-clause-count c kind =
    let none = ap (λ xs. length (sites_in kinds.Text (map piece_of xs))) (drop_all c.loop-part.part-index c.args.parts.now c.loop-part-test.false) in
    omega (arith, none, same_count kinds.Text kind (map piece_of c.args.parts.now))
