-- What holds of a core holds where scopes die.
use Rattle.std.proofs.Common.{◌≡◌, ◌<◌, ◌∙◌, ℕ, List, length, map, refl, ap, sym, arith}
use Rattle.ng_behaviour.specs.ScopeObjects.{AreAmong}
use Rattle.ng_behaviour.specs.Scopes.{Scope, object_at, parent_at, path_at, without_scope, dead_under}
use Rattle.ng_behaviour.proofs.Dying.{dead-keeps, dead-length}
use Rattle.ng_events.specs.Stands.{open_of}
use Rattle.ng_core.specs.Frames.{IsSound, HaveParents, fun_of, task_of, change_of}
use Rattle.ng_core.specs.declared.core_state.Core.{Core}

among_dead : (n : ℕ) (u : List ℕ) (t : List Scope) → AreAmong n t → AreAmong n (dead_under u t)
among_dead n u t a = record {
  below = λ s l.
      let k : length (dead_under u t) ≡ length t = dead-length u t in
      let e : object_at (dead_under u t) s ≡ object_at t s = dead-keeps (λ x. x.object) u t s (λ x. refl) in
      rw e (a.below s (omega arith));
}

parents_dead : (u : List ℕ) (t : List Scope) → HaveParents t → HaveParents (dead_under u t)
parents_dead u t h s p e =
    let k : length (dead_under u t) ≡ length t = dead-length u t in
    let q : parent_at (dead_under u t) s ≡ parent_at t s = dead-keeps (λ x. x.parent) u t s (λ x. refl) in
    let l : p < length t = h s p (sym q ∙ e) in
    omega arith

pub sound_dead : (c d : Core) (s : ℕ) → IsSound c → d.scopes ≡ without_scope c.scopes s → d.store ≡ c.store → d.locals ≡ c.locals → map fun_of d.funs.items ≡ map fun_of c.funs.items → map task_of d.tasks.items ≡ map task_of c.tasks.items → map change_of d.changes.items ≡ map change_of c.changes.items → d.depth ≡ c.depth → open_of d.listeners ≡ open_of c.listeners → IsSound d
sound_dead c d s h es e el ef et ec ed eo =
    let u = path_at c.scopes s in
    let k : length d.scopes ≡ length c.scopes = ap (λ (x : List Scope). length x) es ∙ dead-length u c.scopes in
    record {
      objects = rw (es, e) (among_dead (length c.store) u c.scopes h.objects);
      parents = rw es (parents_dead u c.scopes h.parents);
      locals = rw (el, e) h.locals;
      funs = rw (k, ef) h.funs;
      tasks = rw (k, et) h.tasks;
      changes = rw (k, ec) h.changes;
      depth = rw ed h.depth;
      room = rw (ed, eo) h.room;
    }

pub dead_count : (t : List Scope) (s : ℕ) → length (without_scope t s) ≡ length t
dead_count t s = dead-length (path_at t s) t

pub ruleset died = (sound_dead, dead_count)
