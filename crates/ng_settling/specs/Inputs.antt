-- What is put in to a control (API: ngModel; API: ngChange): its model is written, and then the programs of `ng-change` run, one after another. They
-- don't run where the write faulted.
use Rattle.std.specs.Prelude.{ℕ, List, [], ◌∷◌, is_err, if◌then◌else◌}
use Rattle.ng_act.specs.Running.{act_run}
use Rattle.ng_base.specs.declared.value.Value.{Value}
use Rattle.ng_core.specs.State as act
use Rattle.ng_core.specs.State.{Run}
use Rattle.ng_changes.specs.Runs.{back, followed, program_run}
use Rattle.ng_language.specs.Trees.{Trees}
use Rattle.ng_link.specs.State.{State}
use Rattle.ng_directives.specs.Writing.{input_name}

-- the program that writes a model runs on a scope, while no body and no event is open, with what was put in as its local
unfoldable pub write_run : ℕ → Trees → Value → act.State → Run Value
write_run scope p v c = back c (act_run 64 scope ((input_name, v) ∷ []) p c)

-- programs run on a scope one after another; the fault of each is handed over, and what it left for the watchers is done
abbrev pub all_run : ℕ → List Trees → State → State
all_run scope [] s = s
all_run scope (p ∷ ps) s = all_run scope ps (followed (program_run scope p s.core) s)

abbrev pub written_by : Run Value → ℕ → List Trees → State → State
written_by r scope ps s = if is_err r.1 then followed r s else all_run scope ps (followed r s)

-- a model on a scope is written to, and then these programs run
abbrev pub written : ℕ → Trees → Value → List Trees → State → State
written scope p v ps s = written_by (write_run scope p v s.core) scope ps s
