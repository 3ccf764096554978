-- What holds of a core holds once a function is new.
use Rattle.std.proofs.Common.{◌≡◌, ℕ, List, [], ◌∷◌, ◌++◌, map, length}
use Rattle.std.specs.List.{AllByRecursion}
use Rattle.ng_core.specs.Frames.{IsSound, FunStands, fun_of}
use Rattle.ng_core.specs.declared.core_state.Core.{Core}
use Rattle.ng_core.specs.declared.core_state.Function.{Function}

one_more : (n : ℕ) (fs : List Function) (f : Function) → AllByRecursion (FunStands n) (map fun_of fs) → FunStands n (fun_of f) → AllByRecursion (FunStands n) (map fun_of (fs ++ f ∷ []))
one_more n [] f h g = (g, tt)
one_more n (x ∷ fs) f h g = (h.0, one_more n fs f h.1 g)

pub function_sound : (c d : Core) (f : Function) → IsSound c → d.funs.items ≡ c.funs.items ++ f ∷ [] → FunStands (length c.scopes) (fun_of f) → d.store ≡ c.store → d.locals ≡ c.locals → d.scopes ≡ c.scopes → d.tasks ≡ c.tasks → d.changes ≡ c.changes
    → d.depth ≡ c.depth → d.listeners ≡ c.listeners → IsSound d
function_sound c d f s funs stands store locals scopes tasks changes depth listeners = record {
  objects = rw (store, scopes) s.objects;
  parents = rw scopes s.parents;
  locals = rw (store, locals) s.locals;
  funs = rw (scopes, funs) (one_more (length c.scopes) c.funs.items f s.funs stands);
  tasks = rw (scopes, tasks) s.tasks;
  changes = rw (scopes, changes) s.changes;
  depth = rw depth s.depth;
  room = rw (listeners, depth) s.room;
}
