-- A model that was written, and what ran after that.
use Rattle.std.proofs.Common.{◌≡◌, ◌∙◌, ℕ, Bool, true, false, List, if◌then◌else◌, ap, sym}
use Rattle.std.specs.Prelude.{is_err}
use Rattle.ng_base.specs.declared.value.Value.{Value}
use Rattle.ng_core.specs.State.{Run}
use Rattle.ng_settling.specs.Inputs.{all_run, written_by}
use Rattle.ng_changes.specs.Runs.{followed}
use Rattle.ng_language.specs.Trees.{Trees}
use Rattle.ng_link.specs.State.{State}

module _ (r : Run Value) (scope : ℕ) (ps : List Trees) (s t : State) where
  abbrev by_end : Bool → State
  by_end b = if b then followed r s else all_run scope ps (followed r s)

  -- after a fault nothing more runs
  pub written_ends : is_err r.1 ≡ true → t ≡ followed r s → t ≡ written_by r scope ps s
  written_ends faulted done = done ∙ ap by_end (sym faulted)

  pub written_goes_on : (u : State) → is_err r.1 ≡ false → t ≡ followed r s → u ≡ all_run scope ps t → u ≡ written_by r scope ps s
  written_goes_on u fine done rest = rest ∙ (ap (λ (x : State). all_run scope ps x) done ∙ ap by_end (sym fine))
