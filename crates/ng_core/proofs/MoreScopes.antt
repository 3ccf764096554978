-- What holds of a core holds where a scope more is made.
use Rattle.std.proofs.Common.{length-append, Option, ◌≡◌, ◌<◌, ◌≤◌, ℕ, suc, List, length, map, Some, None, arith, inl, inr, ◌⊎◌, sym, ◌∙◌, ap, refl}
use Rattle.std.specs.Prelude.{Result, Ok, Err, OnOk}
use Rattle.ng_base.specs.Objects.{Object}
use Rattle.ng_scopes.proofs.Lengths.{update-length}
use Rattle.ng_behaviour.specs.ScopeObjects.{AreAmong, with_scope_object}
use Rattle.ng_behaviour.specs.Scopes.{Scope, parent_at, with_child}
use Rattle.ng_behaviour.proofs.ScopeTree.{grown-length, grown-new, grown-keeps, scope-past}
use Rattle.ng_events.specs.Stands.{open_of}
use Rattle.ng_store.proofs.Sound.{all_through}
use Rattle.ng_core.specs.Frames.{IsSound, HaveParents, FunStands, fun_of, TaskStands, task_of, ChangeStands, change_of}
use Rattle.ng_core.specs.State.{Fun, a_declared, a_taker, an_unwatcher, an_outer, Task, Change, adds, removes, leaves}
use Rattle.ng_core.specs.declared.core_state.Core.{Core}
use Rattle.ng_core.proofs.SoundCores.{locals_more}

fun_more : (n m : ℕ) → n ≤ m → (f : Fun) → FunStands n f → FunStands m f
fun_more n m h (a_declared scope params p) s = omega arith
fun_more n m h a_taker s = tt
fun_more n m h (an_unwatcher scope serial) s = omega arith
fun_more n m h (an_outer scope p) s = omega arith

task_more : (n m : ℕ) → n ≤ m → (t : Task) → TaskStands n t → TaskStands m t
task_more n m h t s = omega arith

change_more : (n m : ℕ) → n ≤ m → (c : Change) → ChangeStands n c → ChangeStands m c
change_more n m h (adds w) s = omega arith
change_more n m h (removes scope serial) s = omega arith
change_more n m h (leaves scope) s = omega arith

place : (s n : ℕ) → (s < n) ⊎ ((s ≡ n) ⊎ (n < s))
place s n = grind arith

parents_grown : (t : List Scope) (c o : ℕ) → c < length t → HaveParents t → HaveParents (with_child t c o)
parents_grown t c o h ps s p e = elim (place s (length t)) [
  | inl old ↦
      let k : parent_at (with_child t c o) s ≡ parent_at t s = grown-keeps (λ x. x.parent) t c o s (λ x. refl) old in
      let q : p < length t = ps s p (sym k ∙ e) in
      rw (grown-length t c o) (omega arith)
  | inr other ↦ elim other [
    | inl new ↦
        let k : parent_at (with_child t c o) s ≡ Some c = ap (λ (x : Scope). x.parent) (grown-new t c o s new) in
        let q : p ≡ c = cc in
        rw (grown-length t c o) (omega arith)
    | inr past ↦
        let l : length (with_child t c o) ≡ suc (length t) = grown-length t c o in
        let k : parent_at (with_child t c o) s ≡ None = ap (λ (x : Scope). x.parent) (scope-past (with_child t c o) s (omega arith)) in
        absurd (cc)
  ]
]

pub sound_grown : (c d : Core) (p o : ℕ) → IsSound c → p < length c.scopes → d.scopes ≡ with_child c.scopes p o → AreAmong (length d.store) d.scopes → length c.store ≤ length d.store → d.locals ≡ c.locals → map fun_of d.funs.items ≡ map fun_of c.funs.items → map task_of d.tasks.items ≡ map task_of c.tasks.items → map change_of d.changes.items ≡ map change_of c.changes.items → d.depth ≡ c.depth → open_of d.listeners ≡ open_of c.listeners → IsSound d
sound_grown c d p o s h es among more el ef et ec ed eo =
    let n = length c.scopes in
    let m = length d.scopes in
    let k : length d.scopes ≡ suc (length c.scopes) = ap (λ (x : List Scope). length x) es ∙ grown-length c.scopes p o in
    let le : length c.scopes ≤ length d.scopes = omega arith in
    record {
      objects = among;
      parents = rw es (parents_grown c.scopes p o h s.parents);
      locals = rw el (locals_more (length c.store) (length d.store) c.locals s.locals more);
      funs = rw ef (all_through (FunStands n) (FunStands m) (fun_more n m le) (map fun_of c.funs.items) s.funs);
      tasks = rw et (all_through (TaskStands n) (TaskStands m) (task_more n m le) (map task_of c.tasks.items) s.tasks);
      changes = rw ec (all_through (ChangeStands n) (ChangeStands m) (change_more n m le) (map change_of c.changes.items) s.changes);
      depth = rw ed s.depth;
      room = rw (ed, eo) s.room;
    }

pub ruleset scope_grown = (sound_grown)

-- the objects with a scope's object more are no fewer
pub object_grown : (objects : List Object) (t : List Scope) (proto : Option ℕ) (c : ℕ) → length objects ≤ length (with_scope_object objects t proto c)
object_grown objects t proto c = simp (update-length, length-append) (omega arith)

pub ok_and : {T E : Type 0} {A B C : Type 0} (r : Result T E) → OnOk r A → OnOk r B → (A → B → C) → OnOk r C
ok_and (Ok v) a b f = f a b
ok_and (Err e) a b f = tt
