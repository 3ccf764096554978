use Rattle.std.proofs.Common.{◌∙◌, [], ap}
use Rattle.ng_core.proofs.MoreScopes.{ok_and}
use Rattle.ng_link.specs.Calls.{left_at}
use Rattle.ng_link.specs.State.{state_of}
use Rattle.ng_commands.proofs.SitesRest.{page_rested}
use Rattle.ng_commands.proofs.handling.rest_where_dead.Goals as goal

pub returns-clause-page : goal.returns-clause-page
returns-clause-page c =
    ok_and c.leave.result c.leave.ensures.state c.leave.ensures.stands
    (λ state stands. page_rested c.args.works.now c.leave.new.self [] (state ∙ ap (λ p. left_at p (state_of c.args.works.now)) c.new-top.ensures) c.leave.ensures.core stands c.leave.ensures.templates c.requires)
