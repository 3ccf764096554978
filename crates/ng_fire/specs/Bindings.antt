-- What the fire of a binding's site writes (guide: Directives, "Isolating the Scope of a Directive"; API: `$compile`, `scope`). Between the two sides of a
-- two-way binding the parent wins, where both have changed. What goes to a parent that can't be written to goes back.
use Rattle.std.specs.Prelude.{ℕ, List, [], ◌∷◌, ◌++◌, Option, None, Some, Result, Ok, Err}
use Rattle.ng_base.specs.Meets.{◌>>=◌ as ◌>>?◌}
use Rattle.ng_base.specs.Objects.{Object}
use Rattle.ng_base.specs.Views.{ViewTree}
use Rattle.ng_base.specs.declared.fault.Fault.{Fault}
use Rattle.ng_base.specs.declared.fault.Fault.TheVariants.{NotAssignable}
use Rattle.ng_base.specs.declared.value.Value.{Value}
use Rattle.ng_base.specs.declared.value.Value.TheVariants as value
use Rattle.ng_behaviour.specs.Scopes.{object_at}
use Rattle.ng_bind.specs.Flows.{flow_of}
use Rattle.ng_bind.specs.declared.flow.Flow.{Flow}
use Rattle.ng_bind.specs.declared.flow.Flow.TheVariants.{Still, ToDest, ToParent}
use Rattle.ng_core.specs.State as act
use Rattle.ng_core.specs.State.{Run}
use Rattle.ng_drawing.specs.Instance.{two_way_kind}
use Rattle.ng_drawing.specs.Looks.{kept_text}
use Rattle.ng_language.specs.Snapshots.{differs}
use Rattle.ng_language.specs.Trees.{Trees}
use Rattle.ng_instances.specs.Bindings.{BoundPiece, bound_word, bound_hole, Bound, bound_text, bound_in, bound_both}
use Rattle.ng_link.specs.Calls.{with_core}
use Rattle.ng_build.specs.Shape.{key_on}
use Rattle.ng_link.specs.State.{State, kept_in}
use Rattle.ng_value.specs.Taken.{taken}
use Rattle.ng_watch.specs.Verdicts.{own_value}
use Rattle.ng_write.specs.Making.{value_in}
use Rattle.ng_fire.specs.Blocks.{Firing, faulted_with}
use Rattle.ng_steps.specs.LinkBindings.{set_on, written_to}
use Rattle.ng_settling.specs.Inputs as inputs

-- the text of pieces with what their holes have kept; an unset hole is empty
abbrev pub text_kept : List ℕ → List BoundPiece → State → List ℕ
text_kept path [] s = []
text_kept path (bound_word w ∷ ps) s = w ++ text_kept path ps s
text_kept path (bound_hole n ∷ ps) s = kept_text (kept_in s.watchers s.resting (key_on path n)) ++ text_kept path ps s

-- a run of the fire: where it faults the fire itself does
abbrev pub unless_fault : {A : Type 0} → Result A Fault → Firing → Firing
unless_fault (Ok v) g = g
unless_fault (Err e) g = faulted_with e g

abbrev pub fired_with : {A : Type 0} → Run A → Firing → Firing
fired_with r g = unless_fault r.1 (record g { state = with_core r.0 g.state })

-- by what was kept before
abbrev pub flow_by : List Object → ViewTree → ViewTree → Option ViewTree → Result Flow Fault
flow_by objects v o None = Ok ToDest
flow_by objects v o (Some last) =
    taken (two_way_kind v) objects v >>? λ p. taken (two_way_kind v) objects o >>? λ q. Ok (flow_of (differs p last) (differs q last))

-- a value is written by a program on a scope, where there is one
abbrev pub write_run : ℕ → Option Trees → ViewTree → act.State → Run Value
write_run over None v c = (c, Err NotAssignable)
write_run over (Some p) v c = inputs.write_run over p (value_in v) c

-- What goes to the parent. Where that meets a fault, the parent's value goes back, and the fire itself faults.
abbrev pub written_back : ℕ → List ℕ → ViewTree → Result Value Fault → Firing → Firing
written_back scope name v (Ok w) g = g
written_back scope name v (Err e) g = faulted_with NotAssignable (fired_with (written_to scope name v g.state.core) g)

abbrev pub to_parent : ℕ → List ℕ → ℕ → Option Trees → ViewTree → ViewTree → Firing → Firing
to_parent scope name over writes v o g = by (write_run over writes o g.state.core)
  where
    by : Run Value → Firing
    by r = written_back scope name v r.1 (record g { state = with_core r.0 g.state })

-- which side goes to which
abbrev pub flows : Result Flow Fault → ℕ → List ℕ → ℕ → Option Trees → ViewTree → ViewTree → Firing → Firing
flows (Ok Still) scope name over writes v o g = g
flows (Ok ToDest) scope name over writes v o g = fired_with (written_to scope name v g.state.core) g
flows (Ok ToParent) scope name over writes v o g = to_parent scope name over writes v o g
flows (Err e) scope name over writes v o g = g

abbrev pub both_fired : ℕ → List ℕ → ℕ → Option Trees → ViewTree → Option ViewTree → Firing → Firing
both_fired scope name over writes v former g = by (own_value g.state.core.objects (object_at g.state.core.scopes scope) name)
  where
    by : ViewTree → Firing
    by o = flows (flow_by g.state.core.objects v o former) scope name over writes v o g

-- What a binding's site writes, once it has kept what it has now: its expression has this value, and this was kept before.
abbrev pub bound_fired : Bound → List ℕ → ViewTree → Option ViewTree → Firing → Firing
bound_fired (bound_text scope name ps) path v former g = record g { state = with_core (set_on scope name (value.Text (text_kept path ps g.state)) g.state.core) g.state }
bound_fired (bound_in scope name) path v former g = fired_with (written_to scope name v g.state.core) g
bound_fired (bound_both scope name over writes) path v former g = both_fired scope name over writes v former g
