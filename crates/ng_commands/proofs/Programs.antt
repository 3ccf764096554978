-- The calls of a core, as commands make them.
use Rattle.std.proofs.Common.{◌≡◌, ◌-◌, ℕ, List, [], ◌∷◌, map, Result, Ok, ap, sym, subst}
use Rattle.std.specs.Prelude.{codes}
use Rattle.serde_json.specs.Data.{Data}
use Rattle.ng_core.specs.Events.{object_value}
use Rattle.ng_act.specs.Asked.{Asked}
use Rattle.ng_act.specs.Calls.{destroys}
use Rattle.ng_act.specs.Actions.{does}
use Rattle.ng_core.specs.Frames.{Acts}
use Rattle.ng_act.specs.Running.{act_run, as_value_run, same}
use Rattle.ng_core.specs.State.{State, Run, ◌>>=◌, with_locals}
use Rattle.ng_base.specs.Views.{ViewTree, prim}
use Rattle.ng_base.specs.declared.fault.Fault.{Fault}
use Rattle.ng_base.specs.declared.value.Value.{Value}
use Rattle.ng_changes.specs.Runs.{asked_first, destroyed}
use Rattle.ng_changes.proofs.ProgramRuns.{back_of}
use Rattle.ng_language.specs.Trees.{Trees}
use Rattle.ng_members.specs.Leaves.{Local}
use Rattle.ng_commands.specs.Commands.{json_run, items_in}
use Rattle.ng_commands.specs.Handling.{handler_run}

-- a handler that is run with its one local, `$event`, gives the core's back
pub handler_acts : (r : Result Value Fault) (n c : State) (ls : List Local) (depth scope o : ℕ) (p : Trees) → depth ≡ 0 → n.locals ≡ c.locals
    → Acts same r (with_locals ls n) (act_run (64 - depth) scope ((codes "$event", object_value o) ∷ []) p c) → Acts same r n (handler_run scope o p c)
unfolding handler_run
handler_acts r n c ls depth scope o p z e h =
    back_of r n c ls (act_run 64 scope ((codes "$event", object_value o) ∷ []) p c) e (subst (λ d. Acts same r (with_locals ls n) (act_run (64 - d) scope ((codes "$event", object_value o) ∷ []) p c)) z h)

pub destroyed_acts : (n c : State) (depth scope : ℕ) → depth ≡ 0 → n ≡ destroys (does (64 - depth)) scope c → n ≡ destroyed scope c
unfolding destroyed
destroyed_acts n c depth scope z h = subst (λ d. n ≡ destroys (does (64 - d)) scope c) z h

first_of : (r : Result Value Fault) (n c : State) (depth : ℕ) (a : Asked) → depth ≡ 0 → Acts same r n (as_value_run (does (64 - depth) a c)) → Acts same r n (as_value_run (asked_first a c))
unfolding asked_first
first_of r n c depth a z h = subst (λ d. Acts same r n (as_value_run (does (64 - d) a c))) z h

pub bound_ok : {A B : Type 0} (run : Run A) (m : State) (v : A) (f : A → State → Run B) → run ≡ (m, Ok v) → (run >>= f) ≡ f v m
bound_ok {A = A} run m v f e = ap (λ (x : Run A). x >>= f) e

module _ (event : List ViewTree → Asked) where
  abbrev pub goes : Value → State → Run Value
  goes v e = as_value_run (asked_first (event (map prim (items_in e.objects v))) e)

  -- the arguments were read, and the event went its way
  pub event_acts : (r : Result Value Fault) (n m c : State) (d : Data) (v : Value) (args : List Value) (depth : ℕ) → depth ≡ 0 → json_run d c ≡ (m, Ok v) → args ≡ items_in m.objects v
      → Acts same r n (as_value_run (does (64 - depth) (event (map prim args)) m)) → Acts same r n (json_run d c >>= goes)
  event_acts r n m c d v args depth z read is h =
      subst (Acts same r n) (sym (bound_ok (json_run d c) m v goes read))
      (subst (λ vs. Acts same r n (as_value_run (asked_first (event (map prim vs)) m))) is (first_of r n m depth (event (map prim args)) z h))
