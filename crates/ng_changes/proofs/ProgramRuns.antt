-- Running a program on a core, as it is called.
use Rattle.std.proofs.Common.{◌≡◌, ◌-◌, ℕ, List, [], Result, Ok, Err, ap, sym, subst, ◌∙◌}
use Rattle.ng_core.specs.Frames.{Acts}
use Rattle.ng_act.specs.Running.{act_run, same}
use Rattle.ng_core.specs.State.{State, Run, with_locals}
use Rattle.ng_base.specs.declared.fault.Fault.{Fault}
use Rattle.ng_base.specs.declared.value.Value.{Value}
use Rattle.ng_changes.specs.Runs.{back, program_run}
use Rattle.ng_language.specs.Trees.{Trees}
use Rattle.ng_members.specs.Leaves.{Local}

same_locals : (n c : State) → n.locals ≡ c.locals → with_locals c.locals n ≡ n
same_locals n c e = ap (λ ls. with_locals ls n) (sym e)

pub back_of : (r : Result Value Fault) (n c : State) (ls : List Local) (run : Run Value) → n.locals ≡ c.locals → Acts same r (with_locals ls n) run → Acts same r n (back c run)
back_of (Ok v) n c ls run e h = ap (back c) h ∙ ap (λ s. (s, Ok v)) (same_locals n c e)
back_of (Err f) n c ls run e h = λ m. ap (back c) (h m) ∙ ap (λ s. (s, Err f)) (same_locals n c e)

-- a program that is run with no locals gives the core's back
pub program_acts : (r : Result Value Fault) (n c : State) (ls : List Local) (depth scope : ℕ) (p : Trees) → depth ≡ 0 → n.locals ≡ c.locals → Acts same r (with_locals ls n) (act_run (64 - depth) scope [] p c) → Acts same r n (program_run scope p c)
unfolding program_run
program_acts r n c ls depth scope p z e h = back_of r n c ls (act_run 64 scope [] p c) e (subst (λ d. Acts same r (with_locals ls n) (act_run (64 - d) scope [] p c)) z h)
