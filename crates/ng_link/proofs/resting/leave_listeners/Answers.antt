use Rattle.std.proofs.Common.{◌∙◌, ap, not}
use Rattle.ng_behaviour.specs.Keys.{begins}
use Rattle.ng_link.specs.State.{declared_of, listening_of}
use Rattle.ng_build.proofs.Tables.{filtered-seen}
use Rattle.ng_link.proofs.resting.leave_listeners.Goals as goal

pub returns : goal.returns
returns c = ap declared_of c.in_ok-forget_on.ensures ∙ filtered-seen listening_of (λ k. not (begins c.args.p.now k.path)) c.args.declared.now.entries
