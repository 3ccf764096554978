use Rattle.std.proofs.Common.{◌∙◌, ℕ, List, ap, length, map, subst, sym}
use Rattle.std.specs.List.{AllByRecursion}
use Rattle.ng_behaviour.specs.Scopes.{Scope}
use Rattle.ng_changes.proofs.Answered.{ok_then}
use Rattle.ng_steps.specs.Links.{Linking, scope_of, started, step_linked}
use Rattle.ng_steps.specs.LinkingOf.{linking, HasPrograms, IsGround}
use Rattle.ng_instances.specs.BoundOf.{registered_of}
use Rattle.ng_instances.specs.Registering.{Ground}
use Rattle.ng_build.specs.StepOf.{IsWatchable, step_of}
use Rattle.ng_build.specs.declared.ordering.LinkStep as code
use Rattle.ng_parse.specs.ProgramOf.{program}
use Rattle.ng_parse.specs.declared.programs.Program.{Program}
use Rattle.ng_steps.proofs.stepping.link_step.Goals as goal

pub bind-requires-clause-watchable : goal.bind-requires-clause-watchable
bind-requires-clause-watchable c = subst (λ (xs : List Program). AllByRecursion IsWatchable (map program xs)) (sym c.as_slice.ensures.value) c.requires.pure

pub returns-in-Makes-clause-step : goal.returns-in-Makes-clause-step
returns-in-Makes-clause-step c = λ f order has.
    let g : Linking = linking c.args.works.now c.args.done.now in
    sym (ap (λ (x : code.LinkStep). step_linked f (step_of x) g) c.in-Makes.is)

pub returns-in-Stops-clause-step : goal.returns-in-Stops-clause-step
returns-in-Stops-clause-step c = λ f order has.
    let g : Linking = linking c.args.works.now c.args.done.now in
    sym (ap (λ (x : code.LinkStep). step_linked f (step_of x) g) c.in-Stops.is)

pub returns-in-Opens-clause-step : goal.returns-in-Opens-clause-step
returns-in-Opens-clause-step c =
    let g : Linking = linking c.args.works.now c.args.done.now in
    ok_then c.open_scope.result c.open_scope.ensures.opened (λ e f order has. e ∙ sym (ap (λ (x : code.LinkStep). step_linked f (step_of x) g) c.in-Opens.is))

pub returns-in-Binds-clause-step : goal.returns-in-Binds-clause-step
returns-in-Binds-clause-step c =
    let g : Linking = linking c.args.works.now c.args.done.now in
    ok_then c.bind.result c.bind.ensures.bound
    (λ e f order has. e f (ap (map program) c.as_slice.ensures.value ∙ subst (λ (x : code.LinkStep). HasPrograms f c.args.order.now (step_of x)) c.in-Binds.is has)
    ∙ sym (ap (λ (x : code.LinkStep). step_linked f (step_of x) g) c.in-Binds.is))

pub returns-in-Installs-clause-step : goal.returns-in-Installs-clause-step
returns-in-Installs-clause-step c =
    let g : Linking = linking c.args.works.now c.args.done.now in
    ok_then c.install_on.result c.install_on.ensures.installed (λ e f order has. e ∙ sym (ap (λ (x : code.LinkStep). step_linked f (step_of x) g) c.in-Installs.is))

pub returns-in-Starts-clause-step : goal.returns-in-Starts-clause-step
returns-in-Starts-clause-step c =
    let g : Linking = linking c.args.works.now c.args.done.now in
    ok_then c.start_on.result c.start_on.ensures.started (λ e f order has. e ∙ sym (ap (λ (x : code.LinkStep). step_linked f (step_of x) g) c.in-Starts.is))

pub returns-in-StartsAt-clause-step : goal.returns-in-StartsAt-clause-step
returns-in-StartsAt-clause-step c =
    let g : Linking = linking c.args.works.now c.args.done.now in
    ok_then c.start_on-in-StartsAt.result c.start_on-in-StartsAt.ensures.started
    (λ e f order has. e ∙ (ap (λ (k : ℕ). started (scope_of g k) (program c.in-StartsAt.p) g) (c.outlet_scope.ensures ∙ order.outlets c.in-StartsAt.outlet) ∙ sym (ap (λ (x : code.LinkStep). step_linked f (step_of x) g) c.in-StartsAt.is)))

pub returns-in_ok-register_site-in-Registers-clause-step : goal.returns-in_ok-register_site-in-Registers-clause-step
returns-in_ok-register_site-in-Registers-clause-step c = λ f order has.
    let g : Linking = linking c.args.works.now c.args.done.now in
    c.in_ok-register_site-in-Registers.ensures.registered ∙ sym (ap (λ (x : code.LinkStep). step_linked f (step_of x) g) c.in-Registers.is)

pub returns-in_ok-register_site-in-Registers-clause-grounded : goal.returns-in_ok-register_site-in-Registers-clause-grounded
returns-in_ok-register_site-in-Registers-clause-grounded c =
    let at_hand : Ground = (registered_of c.register_site.new.done.made).at_hand in
    subst (λ (t : List Scope). IsGround (length t) at_hand) (sym c.register_site.ensures.scopes)
    (subst (λ (g : Ground). IsGround (length c.args.works.now.core.scopes) g) (sym c.register_site.ensures.at_hand) c.requires.grounded)

pub returns-in-Leaves-clause-step : goal.returns-in-Leaves-clause-step
returns-in-Leaves-clause-step c =
    let g : Linking = linking c.args.works.now c.args.done.now in
    ok_then c.leave_on.result c.leave_on.ensures.left (λ e f order has. e ∙ sym (ap (λ (x : code.LinkStep). step_linked f (step_of x) g) c.in-Leaves.is))
