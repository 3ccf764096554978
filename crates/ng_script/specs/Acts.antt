-- What commands are to do, without where it lies in memory.
use Rattle.std.specs.Prelude.{ℕ, Bool, List, map}
use Rattle.serde_json.specs.Data.{Data}
use Rattle.serde_json.specs.View.{view}
use Rattle.ng_base.specs.declared.path.Target.{Target}
use Rattle.ng_language.specs.Trees.{Trees}
use Rattle.ng_parse.specs.ProgramOf.{program}
use Rattle.ng_script.specs.declared.commands.ScopeOf.{ScopeOf}
use Rattle.ng_script.specs.declared.commands.What.{What}
use Rattle.ng_script.specs.declared.commands.What.TheVariants as what
use Rattle.ng_script.specs.declared.commands.Command.{Command}
use Rattle.ng_script.specs.declared.commands.Commands.{Commands}

pub data Act : Type 0 where
  click_on : Target → Act
  fire_at : List ℕ → Target → Data → Act
  type_into : Target → List ℕ → Act
  check_at : Target → Bool → Act
  eval_root : Trees → Act
  eval_at : ScopeOf → Trees → Act
  emit_from : ScopeOf → List ℕ → Data → Act
  broadcast_from : ScopeOf → List ℕ → Data → Act
  queue_task : Trees → Act
  probe_root : Trees → Act
  destroy_scope : ScopeOf → Act
  make_digest : Act

abbrev pub act_of : What → Act
act_of (what.Click t) = click_on t
act_of (what.Fire e t d) = fire_at e t (view d)
act_of (what.Typed t x) = type_into t x
act_of (what.Check t b) = check_at t b
act_of (what.Eval p) = eval_root (program p)
act_of (what.At s p) = eval_at s (program p)
act_of (what.Emit s n d) = emit_from s n (view d)
act_of (what.Broadcast s n d) = broadcast_from s n (view d)
act_of (what.Async p) = queue_task (program p)
act_of (what.Probe p) = probe_root (program p)
act_of (what.Destroy s) = destroy_scope s
act_of what.Digest = make_digest

-- a command of a script: its line, its text, and what it is to do
pub record Entry : Type 0 where
  pub line : ℕ
  pub shown : List ℕ
  pub act : Act

abbrev pub entry_of : Command → Entry
entry_of c = record { line = c.line; shown = c.shown; act = act_of c.what }

-- the commands of a script in order
abbrev pub entries_of : Commands → List Entry
entries_of cs = map entry_of cs.items.items
