-- What the fires of bindings' sites leave.
use Rattle.std.proofs.Common.{◌≡◌, ℕ, Bool, true, false, cond, List, [], ◌∷◌, Option, Some, None, Ok, Err, ap, length, refl, subst, ◌∙◌, Result, sym}
use Rattle.std.specs.BTreeMap.{is_at}
use Rattle.std.specs.List.{AllByRecursion}
use Rattle.std.specs.Map.{lookup}
use Rattle.std.specs.Ordering.{nat_cmp}
use Rattle.std.specs.Prelude.{option_and_then}
use Rattle.ng_base.specs.Faults.{is_memory}
use Rattle.ng_base.specs.Meets.{Gives}
use Rattle.ng_base.specs.Views.{ViewTree}
use Rattle.ng_base.specs.declared.fault.Fault.{Fault}
use Rattle.ng_base.specs.declared.path.Key.{Key}
use Rattle.ng_behaviour.specs.Scopes.{Scope, object_at}
use Rattle.ng_base.specs.declared.value.Value.{Value}
use Rattle.ng_bind.specs.declared.flow.Flow.{Flow}
use Rattle.ng_core.specs.Keeping.{stores}
use Rattle.ng_core.specs.State as act
use Rattle.ng_core.specs.State.{Run, ◌>>=◌}
use Rattle.ng_changes.proofs.Rising.{mark, Rises, rises-refl}
use Rattle.ng_settling.proofs.Writes.{write_rises}
use Rattle.ng_changes.proofs.AllAt.{all_at}
use Rattle.ng_fire.specs.Bindings.{both_fired, flow_by, flows, to_parent, write_run, written_back}
use Rattle.ng_fire.specs.Blocks.{Firing}
use Rattle.ng_steps.specs.LinkBindings.{set_on, written_to}
use Rattle.ng_changes.specs.Whole.{HasScope, HaveScopes}
use Rattle.ng_language.specs.Trees.{Trees}
use Rattle.ng_instances.specs.Bindings.{Bound, Bounds, BoundStands, bound_in_table}
use Rattle.ng_link.specs.Calls.{with_core}
use Rattle.ng_instances.specs.Instances.{Inners, Instances, Linked, bound_for, instance_path, linked_at}
use Rattle.ng_watch.specs.Verdicts.{own_value}
use Rattle.ng_write.specs.Making.{value_in}

-- ---- a value that is kept, and the name that is set to it

pub written_is : (scope : ℕ) (name : List ℕ) (v t : ViewTree) (c d : act.State) → stores v c ≡ (d, Ok t) → (let r : Run (Unit {0}) = (set_on scope name (value_in t) d, Ok tt) in written_to scope name v c ≡ r)
written_is scope name v t c d e = ap (λ (r : Run ViewTree). r >>= λ x s. (let o : Run (Unit {0}) = (set_on scope name (value_in x) s, Ok tt) in o)) e

pub written_not : (scope : ℕ) (name : List ℕ) (v : ViewTree) (c d : act.State) (f : Fault) → stores v c ≡ (d, Err f) → (let r : Run (Unit {0}) = (d, Err f) in written_to scope name v c ≡ r)
written_not scope name v c d f e = ap (λ (r : Run ViewTree). r >>= λ x s. (let o : Run (Unit {0}) = (set_on scope name (value_in x) s, Ok tt) in o)) e

-- a program that writes to a parent gives no number of registration back
pub over_rises : (over : ℕ) (o : Option Trees) (v : ViewTree) (c : act.State) → Rises (mark c) (mark (write_run over o v c).0)
over_rises over None v c = rises-refl (mark c)
over_rises over (Some p) v c = write_rises over p (value_in v) c

-- ---- the scopes that a binding's site writes to are there

bound_found : (count : ℕ) (n : ℕ) (t : Bounds) (b : Bound) → AllByRecursion (λ (e : ℕ × Bound). BoundStands count e.1) t → bound_in_table n t ≡ Some b → BoundStands count b
bound_found count n [] b h e = absurd (cc)
bound_found count n (x ∷ t) b h e = by (is_at (nat_cmp n) x.0) (bound_found count n t b h.1) e
  where
    by : (here : Bool) → (bound_in_table n t ≡ Some b → BoundStands count b) → cond here (Some x.1) (lookup (is_at (nat_cmp n)) t) ≡ Some b → BoundStands count b
    by true more e = let same : x.1 ≡ b = cc in subst (BoundStands count) same h.0
    by false more e = more e

pub bound_there : (t : List Scope) (inner : Inners) (is : Instances) (k : Key) (b : Bound) → HaveScopes t inner is → bound_for inner is k ≡ Some b → BoundStands (length t) b
bound_there t inner is k b h e = by (linked_at (instance_path inner k.path) is) refl e
  where
    by : (o : Option Linked) → linked_at (instance_path inner k.path) is ≡ o → option_and_then (λ (l : Linked). bound_in_table k.serial.0 l.page.bounds) o ≡ Some b → BoundStands (length t) b
    by None at e = absurd (cc)
    by (Some l) at e = bound_found (length t) k.serial.0 l.page.bounds b (all_at (HasScope t inner) is (instance_path inner k.path) l h at).bounds e

-- ---- a two-way binding, by what flows

pub both_is : (scope : ℕ) (name : List ℕ) (over : ℕ) (writes : Option Trees) (v o : ViewTree) (former : Option ViewTree) (g : Firing) (f : Result Flow Fault) → o ≡ own_value g.state.core.objects (object_at g.state.core.scopes scope) name → flow_by g.state.core.objects v o former ≡ f
    → both_fired scope name over writes v former g ≡ flows f scope name over writes v o g
both_is scope name over writes v o former g f own flow =
    sym (ap (λ (x : ViewTree). flows (flow_by g.state.core.objects v x former) scope name over writes v x g) own) ∙ ap (λ (x : Result Flow Fault). flows x scope name over writes v o g) flow

-- what flows, by a call that answered it
pub flowed : (end asked : Result Flow Fault) (f g : Flow) → Gives is_memory (λ (x : Flow). x) asked end → end ≡ Ok f → f ≡ g → asked ≡ Ok g
flowed (Ok x) asked f g given is same = let its : x ≡ f = cc in given ∙ ap (λ (y : Flow). (let r : Result Flow Fault = Ok y in r)) (its ∙ same)
flowed (Err e) asked f g given is same = absurd (cc)

-- what goes to a parent
pub parent_is : (scope : ℕ) (name : List ℕ) (over : ℕ) (writes : Option Trees) (v o : ViewTree) (g : Firing) (r : Run Value) → write_run over writes o g.state.core ≡ r → to_parent scope name over writes v o g ≡ written_back scope name v r.1 (record g { state = with_core r.0 g.state })
parent_is scope name over writes v o g r is = ap (λ (x : Run Value). written_back scope name v x.1 (record g { state = with_core x.0 g.state })) is
