-- What is told a scope: its names come one behind another, how many objects there are stays, and works whose scope has been told names are whole.
use Rattle.std.proofs.Common.{◌≡◌, ◌∙◌, ◌++◌, ℕ, List, [], ◌∷◌, ap, length, refl, sym, subst}
use Rattle.std.specs.Prelude.{Result, Ok, Err, OnOk, OnErr}
use Rattle.ng_base.specs.Objects.{Object}
use Rattle.ng_base.specs.declared.fault.Memory.{Memory}
use Rattle.ng_base.specs.declared.value.Value.{Value}
use Rattle.ng_behaviour.specs.ScopeObjects.{AreAmong}
use Rattle.ng_core.specs.Frames.{IsSound}
use Rattle.ng_core.specs.declared.core_state.Core.{Core}
use Rattle.ng_language.specs.Objects.{set_name}
use Rattle.ng_members.specs.Leaves.{LocalsStand}
use Rattle.ng_store.proofs.Sound.{length-update_at}

pub set_count : (r : Result (Unit {0}) Memory) (old new : List Object) (o : ℕ) (name : List ℕ) (v : Value) → OnOk r (new ≡ set_name old o name v) → OnErr r (new ≡ old) → length new ≡ length old
set_count (Ok u) old new o name v set same = ap (λ (xs : List Object). length xs) set ∙ length-update_at old o _
set_count (Err e) old new o name v set same = ap (λ (xs : List Object). length xs) same

flat : (xs : List (List ℕ)) (a b c d e f : List ℕ) → (((((xs ++ a ∷ []) ++ b ∷ []) ++ c ∷ []) ++ d ∷ []) ++ e ∷ []) ++ f ∷ [] ≡ xs ++ (a ∷ b ∷ c ∷ d ∷ e ∷ f ∷ [])
flat [] a b c d e f = refl
flat (x ∷ xs) a b c d e f = ap (λ (ks : List (List ℕ)). x ∷ ks) (flat xs a b c d e f)

-- the names of a place come behind others
pub six_more : (xs one two three four five six : List (List ℕ)) (a b c d e f : List ℕ) → one ≡ xs ++ a ∷ [] → two ≡ one ++ b ∷ [] → three ≡ two ++ c ∷ [] → four ≡ three ++ d ∷ [] → five ≡ four ++ e ∷ [] → six ≡ five ++ f ∷ [] → six ≡ xs ++ (a ∷ b ∷ c ∷ d ∷ e ∷ f ∷ [])
six_more xs one two three four five six a b c d e f h1 h2 h3 h4 h5 h6 =
    let more : (ys zs : List (List ℕ)) (x : List ℕ) → ys ≡ zs → ys ++ x ∷ [] ≡ zs ++ x ∷ [] = λ ys zs x h. ap (λ (ks : List (List ℕ)). ks ++ x ∷ []) h in
    let s2 = h2 ∙ more one (xs ++ a ∷ []) b h1 in
    let s3 = h3 ∙ more two _ c s2 in
    let s4 = h4 ∙ more three _ d s3 in
    let s5 = h5 ∙ more four _ e s4 in
    let s6 = h6 ∙ more five _ f s5 in
    s6 ∙ flat xs a b c d e f

-- what holds of a core holds with as many objects
pub sound_told : (c : Core) (store : List Object) → IsSound c → length store ≡ length c.store → IsSound (record c { store = store })
sound_told c store h count = record {
  objects = subst (λ (n : ℕ). AreAmong n c.scopes) (sym count) h.objects;
  parents = h.parents;
  locals = subst (λ (n : ℕ). LocalsStand n c.locals) (sym count) h.locals;
  funs = h.funs;
  tasks = h.tasks;
  changes = h.changes;
  depth = h.depth;
  room = h.room;
}
