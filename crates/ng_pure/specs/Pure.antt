-- Running a pure program is evaluating it.
use Rattle.std.specs.Prelude.{ℕ, ◌≡◌, ◌<◌, ◌≤◌, ◌⊎◌, List, length, Result, Ok, Err}
use Rattle.ng_base.specs.Objects.{Object}
use Rattle.ng_base.specs.Views.{ViewTree}
use Rattle.ng_base.specs.declared.fault.Fault.{Fault}
use Rattle.ng_base.specs.declared.fault.Fault.TheVariants.{StoreFull, ImpureCall}
use Rattle.ng_base.specs.declared.value.Value.{Value}
use Rattle.ng_behaviour.specs.Scopes.{object_at}
use Rattle.ng_language.specs.Objects.{AreObjects}
use Rattle.ng_language.specs.Trees.{Trees}
use Rattle.ng_members.specs.Leaves.{Local, LocalsStand}
use Rattle.ng_evaluation.specs.Evaluation.{evaluated_program}
use Rattle.ng_evaluation.specs.Purity.{ArePure, FiltersKnown}
use Rattle.ng_write.specs.Reading.{Extends}
use Rattle.ng_act.specs.Running.{act_run}
use Rattle.ng_core.specs.State.{State, Run, with_objects, with_locals}
use Rattle.ng_pure.specs.Patterns.{HasShortPatterns}
use Rattle.ng_pure.specs.Showing.{Shows}

-- what holds where a program is run: the objects are those of a store, and the scope's object and the locals stand
pub record IsReady (scope : ℕ) (locals : List Local) (s : State) : Type 0 where
  pub sound : AreObjects s.objects
  pub there : object_at s.scopes scope < length s.objects
  pub local : LocalsStand (length s.objects) locals

-- no object more is made where a million stand
abbrev pub IsFull : List Object → Fault → Type 0
IsFull objects e = (e ≡ StoreFull) × (1000000 ≤ length objects)

-- The answer of a run, where so many objects stood before: a value that shows the one of evaluation, or the same fault; or
-- there was no room for an object.
abbrev pub Answers : ℕ → List Object → Result Value Fault → Result ViewTree Fault → Type 0
Answers before objects (Ok v) (Ok t) = Shows before before objects v t
Answers before objects (Ok v) (Err e) = ⊥
Answers before objects (Err d) (Ok t) = IsFull objects d
Answers before objects (Err d) (Err e) = (d ≡ e) ⊎ IsFull objects d

-- a run answers as evaluation does, and leaves all as it was, but for objects that stand after the others
pub record IsEvaluation (s : State) (asked : Result ViewTree Fault) (r : Run Value) : Type 0 where
  pub after : List Object
  pub kept : Extends s.objects after
  pub state : r.0 ≡ with_objects after s
  pub answer : Answers (length s.objects) after r.1 asked

-- Running a pure program is evaluating it, unless evaluation gives up since what is called is a function. Where a list stands in
-- a pattern of the filter `filter`, it is to be no longer than an array can be.
abbrev pub PureLaw : Type 0
PureLaw =
    (room scope : ℕ) (locals : List Local) (p : Trees) (s : State) → IsReady scope locals s → ArePure p → FiltersKnown p
    → HasShortPatterns s.objects (object_at s.scopes scope) locals p
    → ¬ (evaluated_program s.objects (object_at s.scopes scope) locals p ≡ Err ImpureCall)
    → IsEvaluation (with_locals locals s) (evaluated_program s.objects (object_at s.scopes scope) locals p) (act_run room scope locals p s)
