use Rattle.std.proofs.Common.{◌≡◌, Option, None, ap, subst, sym, arith}
use Rattle.std.specs.Prelude.{slice_get}
use Rattle.ng_steps.specs.Attending.{attended_by}
use Rattle.ng_steps.specs.AttendingOf.{IsLeaving}
use Rattle.ng_steps.specs.declared.attending.Leaving.{Leaving}
use Rattle.ng_link.specs.State.{State, state_of}
use Rattle.ng_parts.specs.Directing.{Programs}
use Rattle.ng_steps.proofs.attending.attend.Goals as goal

pub returns-in-None-clause-state : goal.returns-in-None-clause-state
returns-in-None-clause-state c =
    let s : State = state_of c.args.works.now in
    let o : Option Programs = slice_get s.directives c.args.directive in
    let none : o ≡ None = subst (λ (x : Option Leaving). IsLeaving x o) c.in-None.is c.in_ok-found.ensures in
    sym (ap (λ (x : Option Programs). (attended_by c.args.scope.0 x s).0) none)

pub returns-in-None-clause-added : goal.returns-in-None-clause-added
returns-in-None-clause-added c =
    let s : State = state_of c.args.works.now in
    let o : Option Programs = slice_get s.directives c.args.directive in
    let none : o ≡ None = subst (λ (x : Option Leaving). IsLeaving x o) c.in-None.is c.in_ok-found.ensures in
    sym (ap (λ (x : Option Programs). (attended_by c.args.scope.0 x s).1) none)

pub start-requires-clause-scope : goal.start-requires-clause-scope
start-requires-clause-scope c = (let e = c.in_ok-added-in-Some.ensures.count in let lt = c.requires.scope in omega (arith, e, lt))
