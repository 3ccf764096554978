use Rattle.std.proofs.Common.{◌≡◌, subst, sym}
use Rattle.std.specs.Prelude.{IfOk}
use Rattle.ng_collect.specs.Definitions.{specs_of}
use Rattle.ng_app.specs.Directives.{stands}
use Rattle.ng_app.proofs.Bound.{bound_answer}
use Rattle.ng_app.proofs.registering.stands.Goals as goal

pub returns-in-Binding : goal.returns-in-Binding
returns-in-Binding c =
    subst (λ p. IfOk c.is_bound.result (λ b. b ≡ stands p c.args.def.now)) (sym c.in-Binding.is)
    (bound_answer (specs_of c.args.def.now.scope) c.is_bound.result c.is_bound.ensures.bindings)
