-- Values as views, and what a public call answers.
use Rattle.std.proofs.Common.{◌≡◌, ℕ, false, List, [], ◌∷◌, map, subst, refl}
use Rattle.std.specs.Prelude.{Err}
use Rattle.std.specs.List.{AllByRecursion}
use Rattle.ng_base.specs.Faults.{is_memory}
use Rattle.ng_base.specs.Objects.{StandsAmong}
use Rattle.ng_base.specs.Views.{ViewTree, prim}
use Rattle.ng_base.specs.declared.fault.Fault.{Fault}
use Rattle.ng_base.specs.declared.value.Value.{Value}
use Rattle.ng_language.specs.Views.{ViewStands}
use Rattle.ng_core.specs.Frames.{Acts}
use Rattle.ng_core.specs.State.{State, Run}
use Rattle.ng_act.specs.Running.{as_value_run, same}

pub values_stand : (n : ℕ) (vs : List Value) → AllByRecursion (StandsAmong n) vs → AllByRecursion (ViewStands n) (map prim vs)
values_stand n [] a = tt
values_stand n (v ∷ vs) a = (a.0, values_stand n vs a.1)

-- a fault that is told as another one is want of memory, or the same fault
pub told_acts : (e f : Fault) (s : State) (r : Run ViewTree) → (is_memory f ≡ false → e ≡ f) → (is_memory e ≡ false → r ≡ (s, Err e)) → Acts same (Err f) s (as_value_run r)
told_acts e f s r same_fault a h =
    let q : r ≡ (s, Err f) = subst (λ x. is_memory x ≡ false → r ≡ (s, Err x)) (same_fault h) a h in
    rw q refl
