-- What holds of a core holds while its store grows.
use Rattle.std.proofs.Common.{◌≡◌, ◌≤◌, ℕ, List, length, map, arith}
use Rattle.ng_base.specs.Objects.{StandsAmong}
use Rattle.ng_behaviour.specs.Scopes.{Scope}
use Rattle.ng_behaviour.specs.ScopeObjects.{AreAmong}
use Rattle.ng_events.specs.Stands.{open_of}
use Rattle.ng_store.proofs.Sound.{all_through, stands_more}
use Rattle.ng_members.specs.Leaves.{Local, LocalsStand}
use Rattle.ng_base.specs.declared.value.Value.{Value}
use Rattle.ng_write.specs.Assigning.{locals_after}
use Rattle.ng_core.proofs.Targets.{after_stand}
use Rattle.ng_core.specs.Frames.{IsSound, fun_of, task_of, change_of}
use Rattle.ng_core.specs.declared.core_state.Core.{Core}

pub among_more : (n m : ℕ) (t : List Scope) → AreAmong n t → n ≤ m → AreAmong m t
among_more n m t a h = record { below = λ s l. (let q = a.below s l in omega arith) }

pub locals_more : (n m : ℕ) (ls : List Local) → LocalsStand n ls → n ≤ m → LocalsStand m ls
locals_more n m ls a h = all_through (λ (l : Local). StandsAmong n l.1) (λ (l : Local). StandsAmong m l.1) (λ l s. stands_more n m h l.1 s) ls a

-- the store has grown, and the locals stand
pub sound_with : (c d : Core) → IsSound c → length c.store ≤ length d.store → LocalsStand (length d.store) d.locals → d.scopes ≡ c.scopes → map fun_of d.funs.items ≡ map fun_of c.funs.items → map task_of d.tasks.items ≡ map task_of c.tasks.items → map change_of d.changes.items ≡ map change_of c.changes.items → d.depth ≡ c.depth → open_of d.listeners ≡ open_of c.listeners → IsSound d
sound_with c d s h ls es ef et ec ed eo = record {
  objects = rw es (among_more (length c.store) (length d.store) c.scopes s.objects h);
  parents = rw es s.parents;
  locals = ls;
  funs = rw (es, ef) s.funs;
  tasks = rw (es, et) s.tasks;
  changes = rw (es, ec) s.changes;
  depth = rw ed s.depth;
  room = rw (ed, eo) s.room;
}

-- the store has grown, and the locals are the same
pub sound_more : (c d : Core) → IsSound c → length c.store ≤ length d.store → d.locals ≡ c.locals → d.scopes ≡ c.scopes → map fun_of d.funs.items ≡ map fun_of c.funs.items → map task_of d.tasks.items ≡ map task_of c.tasks.items → map change_of d.changes.items ≡ map change_of c.changes.items → d.depth ≡ c.depth → open_of d.listeners ≡ open_of c.listeners → IsSound d
sound_more c d s h el es ef et ec ed eo =
    sound_with c d s h (rw el (locals_more (length c.store) (length d.store) c.locals s.locals h)) es ef et ec ed eo

pub ruleset grown = (sound_more)

-- a local or a name has a new value
pub sound_renamed : (c d : Core) (name : List ℕ) (v : Value) → IsSound c → StandsAmong (length c.store) v → length d.store ≡ length c.store → d.locals ≡ locals_after c.locals name v → d.scopes ≡ c.scopes → map fun_of d.funs.items ≡ map fun_of c.funs.items → map task_of d.tasks.items ≡ map task_of c.tasks.items → map change_of d.changes.items ≡ map change_of c.changes.items → d.depth ≡ c.depth → open_of d.listeners ≡ open_of c.listeners → IsSound d
sound_renamed c d name v s st h el es ef et ec ed eo =
    sound_with c d s (omega arith) (rw (el, h) (after_stand (length c.store) c.locals name v s.locals st)) es ef et ec ed eo

pub ruleset renamed = (sound_renamed, sound_more)

-- a body or an event more or less is open, or a walk
sound_at : (c d : Core) → IsSound c → d.depth ≤ 64 → open_of d.listeners ≤ d.depth → length c.store ≤ length d.store → LocalsStand (length d.store) d.locals → d.scopes ≡ c.scopes → map fun_of d.funs.items ≡ map fun_of c.funs.items → map task_of d.tasks.items ≡ map task_of c.tasks.items → map change_of d.changes.items ≡ map change_of c.changes.items → IsSound d
sound_at c d s hd ho h ls es ef et ec = record {
  objects = rw es (among_more (length c.store) (length d.store) c.scopes s.objects h);
  parents = rw es s.parents;
  locals = ls;
  funs = rw (es, ef) s.funs;
  tasks = rw (es, et) s.tasks;
  changes = rw (es, ec) s.changes;
  depth = hd;
  room = ho;
}

pub sound_opened : (c d : Core) → IsSound c → d.store ≡ c.store → LocalsStand (length c.store) d.locals → d.depth ≤ 64 → open_of d.listeners ≤ d.depth → d.scopes ≡ c.scopes → map fun_of d.funs.items ≡ map fun_of c.funs.items → map task_of d.tasks.items ≡ map task_of c.tasks.items → map change_of d.changes.items ≡ map change_of c.changes.items → IsSound d
sound_opened c d s e ls hd ho es ef et ec = sound_at c d s hd ho (rw e (omega arith)) (rw e ls) es ef et ec

pub ruleset opened = (sound_opened)
