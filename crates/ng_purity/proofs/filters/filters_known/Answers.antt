use Rattle.std.proofs.Common.{◌≡◌, ◌∙◌, sym, ap}
use Rattle.ng_parse.specs.ProgramOf.{program}
use Rattle.ng_evaluation.specs.Purity.{all_filters_known}
use Rattle.ng_purity.proofs.Pure.{known_are, are_known_test}
use Rattle.ng_purity.proofs.filters.filters_known.Goals as goal

pub returns-clause-known : goal.returns-clause-known
returns-clause-known c =
    let e : c.all_known.result ≡ all_filters_known (program c.args.p.now) = c.all_known.ensures ∙ ap all_filters_known c.statements.ensures.seen in
    ((λ h. known_are (program c.args.p.now) (sym e ∙ h)), (λ h. e ∙ are_known_test (program c.args.p.now) h))
