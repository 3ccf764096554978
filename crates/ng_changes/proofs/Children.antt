-- Works with a scope more.
use Rattle.std.proofs.Common.{◌≡◌, ◌∙◌, ◌<◌, ◌≤◌, ℕ, suc, List, Option, ap, length, refl, subst, sym, arith}
use Rattle.std.specs.Prelude.{Ok}
use Rattle.ng_base.specs.Objects.{Object}
use Rattle.ng_base.specs.declared.name.ScopeId.{ScopeId}
use Rattle.ng_behaviour.proofs.ScopeTree.{grown-length}
use Rattle.ng_behaviour.specs.ScopeObjects.{AreAmong, with_scope_object}
use Rattle.ng_behaviour.specs.Scopes.{Scope, with_child}
use Rattle.ng_core.proofs.MoreScopes.{object_grown, sound_grown}
use Rattle.ng_core.specs.Frames.{IsSound}
use Rattle.ng_core.specs.declared.core_state.Core.{Core}
use Rattle.ng_changes.proofs.Bodies.{child_is, child_wider}
use Rattle.ng_changes.proofs.Wholes.{scopes_more, whole_wider}
use Rattle.ng_changes.specs.Whole.{IsWhole}
use Rattle.ng_link.specs.State.{state_of}
use Rattle.ng_link.specs.declared.works.Works.{Works}
use Rattle.ng_scopes.specs.Answers.{next_scope_name}

pub made_count : (t u : List Scope) (n o : ℕ) → u ≡ with_child t n o → length u ≡ suc (length t)
made_count t u n o e = ap (λ (x : List Scope). length x) e ∙ grown-length t n o

pub made_within : (t u : List Scope) (n : ℕ) (objects : List Object) (child : ScopeId) → u ≡ with_child t n (length objects) → next_scope_name t n objects ≡ Ok child → child.0 < length u
made_within t u n objects child e answer =
    let is = child_is t n objects child answer in
    let count = made_count t u n (length objects) e in
    omega (arith, is, count)

-- they are whole, whatever its object inherits from
pub made_whole : (w : Works) (u : List Scope) (objects : List Object) (proto : Option ℕ) (n : ℕ) → IsWhole w → n < length w.core.scopes → u ≡ with_child w.core.scopes n (length w.core.store)
    → objects ≡ with_scope_object w.core.store w.core.scopes proto n → AreAmong (length objects) u → IsWhole (record w { core = record w.core { store = objects; scopes = u } })
made_whole w u objects proto n h lt e store among =
    let t : List Scope = w.core.scopes in
    let o : ℕ = length w.core.store in
    let core : Core = record w.core { store = objects; scopes = u } in
    let count = made_count t u n o e in
    let grown : o ≤ length objects = subst (λ (x : List Object). o ≤ length x) (sym store) (object_grown w.core.store t proto n) in
    let sound : IsSound core = sound_grown w.core core n o h.sound lt e among grown refl refl refl refl refl refl in
    whole_wider w core h sound h.idle (omega (arith, count)) (scopes_more t u (child_wider t u n o e) (state_of w).inner (state_of w).instances h.scopes) grown (omega arith)
