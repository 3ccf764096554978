use Rattle.std.proofs.Common.{◌≡◌, ◌∙◌, sym, ap}
use Rattle.ng_parse.specs.ProgramOf.{program}
use Rattle.ng_evaluation.specs.Purity.{are_pure}
use Rattle.ng_purity.proofs.Pure.{pure_are, are_pure_test}
use Rattle.ng_purity.proofs.purity.is_pure.Goals as goal

pub returns-clause-pure : goal.returns-clause-pure
returns-clause-pure c =
    let e : c.are_pure.result ≡ are_pure (program c.args.p.now) = c.are_pure.ensures ∙ ap are_pure c.statements.ensures.seen in
    ((λ h. pure_are (program c.args.p.now) (sym e ∙ h)), (λ h. e ∙ are_pure_test (program c.args.p.now) h))
