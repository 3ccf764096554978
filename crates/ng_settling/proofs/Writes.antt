-- A program that writes a model: what it leaves of numbers of registration and paths, and as what it runs.
use Rattle.std.proofs.Common.{◌≡◌, ◌-◌, ℕ, List, [], ◌∷◌, Result, sym, subst}
use Rattle.ng_act.specs.Actions.{does}
use Rattle.ng_act.specs.Expressions.{programmed}
use Rattle.ng_act.specs.Running.{act_run, same}
use Rattle.ng_base.specs.Views.{ViewTree}
use Rattle.ng_base.specs.declared.fault.Fault.{Fault}
use Rattle.ng_base.specs.declared.value.Value.{Value}
use Rattle.ng_core.specs.Frames.{Acts}
use Rattle.ng_core.specs.Keeping.{nothing}
use Rattle.ng_core.specs.State.{State, Run, with_locals}
use Rattle.ng_changes.proofs.ProgramRuns.{back_of}
use Rattle.ng_changes.proofs.Rising.{mark, Rises}
use Rattle.ng_changes.proofs.RisingPrograms.{statements-rises}
use Rattle.ng_changes.proofs.Runs.{value_run_state}
use Rattle.ng_directives.specs.Writing.{input_name}
use Rattle.ng_language.specs.Trees.{Trees}
use Rattle.ng_members.specs.Leaves.{Local}
use Rattle.ng_settling.specs.Inputs.{write_run}

-- it lowers no number of registration, and changes no path
pub write_rises : (scope : ℕ) (p : Trees) (v : Value) (c : State) → Rises (mark c) (mark (write_run scope p v c).0)
unfolding write_run
write_rises scope p v c =
    let d : State = with_locals ((input_name, v) ∷ []) c in
    let r : Run ViewTree = programmed (does 64) scope p d in
    subst (λ (s : State). Rises (mark c) (mark s)) (sym (value_run_state r)) (statements-rises 64 scope nothing p d)

-- a program that is run with its one local, what was put in, gives the core's back
pub write_acts : (r : Result Value Fault) (n c : State) (ls : List Local) (depth scope : ℕ) (p : Trees) (v : Value) → depth ≡ 0 → n.locals ≡ c.locals
    → Acts same r (with_locals ls n) (act_run (64 - depth) scope ((input_name, v) ∷ []) p c) → Acts same r n (write_run scope p v c)
unfolding write_run
write_acts r n c ls depth scope p v z e h =
    back_of r n c ls (act_run 64 scope ((input_name, v) ∷ []) p c) e (subst (λ d. Acts same r (with_locals ls n) (act_run (64 - d) scope ((input_name, v) ∷ []) p c)) z h)
