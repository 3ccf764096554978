-- What a run as a value leaves, and what it comes to.
use Rattle.std.proofs.Common.{◌≡◌, ◌-◌, ℕ, [], refl, sym, subst}
use Rattle.std.specs.Prelude.{Result, Ok, Err}
use Rattle.ng_core.specs.Keeping.{nothing}
use Rattle.ng_act.specs.Asked.{Asked}
use Rattle.ng_act.specs.Calls.{destroys}
use Rattle.ng_act.specs.Expressions.{programmed}
use Rattle.ng_act.specs.Actions.{does}
use Rattle.ng_act.specs.Running.{as_value_run}
use Rattle.ng_core.specs.State.{State, Run, with_locals}
use Rattle.ng_base.specs.Views.{ViewTree}
use Rattle.ng_base.specs.declared.fault.Fault.{Fault}
use Rattle.ng_language.specs.Trees.{Trees}
use Rattle.ng_changes.proofs.Rising.{mark, Rises}
use Rattle.ng_changes.proofs.RisingPrograms.{does-rises, statements-rises, destroys-rises}
use Rattle.ng_changes.specs.Runs.{asked_first, program_run, destroyed}

value_state : (s : State) (o : Result ViewTree Fault) → (as_value_run (s, o)).0 ≡ s
value_state s (Ok v) = refl
value_state s (Err e) = refl

-- as a value a run leaves the same
pub value_run_state : (r : Run ViewTree) → (as_value_run r).0 ≡ r.0
value_run_state r = value_state r.0 r.1

-- what is asked first lowers no number of registration, and changes no path
pub asked_rises : (a : Asked) (s : State) → Rises (mark s) (mark (asked_first a s).0)
unfolding asked_first
asked_rises a s = does-rises 64 a s

pub asked_is : (a : Asked) (s : State) (n : ℕ) → n ≡ 0 → does (64 - n) a s ≡ asked_first a s
unfolding asked_first
asked_is a s n e = subst (λ (k : ℕ). does (64 - k) a s ≡ does 64 a s) (sym e) refl

-- nor does a program that is run on a scope
pub program_rises : (scope : ℕ) (p : Trees) (c : State) → Rises (mark c) (mark (program_run scope p c).0)
unfolding program_run
program_rises scope p c =
    let d : State = with_locals [] c in
    let r : Run ViewTree = programmed (does 64) scope p d in
    subst (λ (s : State). Rises (mark c) (mark s)) (sym (value_run_state r)) (statements-rises 64 scope nothing p d)

-- nor does the death of a scope
pub destroyed_rises : (scope : ℕ) (c : State) → Rises (mark c) (mark (destroyed scope c))
unfolding destroyed
destroyed_rises scope c = destroys-rises 64 scope c

pub destroyed_is : (scope : ℕ) (c : State) (n : ℕ) → n ≡ 0 → destroys (does (64 - n)) scope c ≡ destroyed scope c
unfolding destroyed
destroyed_is scope c n e = subst (λ (k : ℕ). destroys (does (64 - k)) scope c ≡ destroys (does 64) scope c) (sym e) refl
