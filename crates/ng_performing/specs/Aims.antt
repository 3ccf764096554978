-- What a command is aimed at, in the document that the page shows, and what it asks of the page.
use Rattle.std.specs.Prelude.{ℕ, Bool, true, false, Option, None, Some, option_map, if◌then◌else◌}
use Rattle.ng_base.specs.declared.path.Target.{Target}
use Rattle.ng_control.specs.declared.kind.ControlKind.{ControlKind}
use Rattle.ng_control.specs.declared.kind.ControlKind.TheVariants.{Text, Number, Checkbox}
use Rattle.ng_link.specs.Events.{named, scope_of, kind_at}
use Rattle.ng_link.specs.State.{State}
use Rattle.ng_commands.specs.Commands.{Asked, applies, queues, probes, digests, destroys_scope, emits, broadcasts, types, checks}
use Rattle.ng_page.specs.Targets.{target_in}
use Rattle.ng_script.specs.Acts.{Act, click_on, fire_at, type_into, check_at, eval_root, eval_at, emit_from, broadcast_from, queue_task, probe_root, destroy_scope, make_digest}
use Rattle.ng_script.specs.declared.commands.ScopeOf.{ScopeOf}
use Rattle.ng_script.specs.declared.commands.ScopeOf.TheVariants as scope

-- the scope that a command is aimed at: that of an element is its own, which is that of the instance to which its node belongs unless its directives made one
abbrev pub scope_in : ScopeOf → State → Option ℕ
scope_in scope.Root s = Some 0
scope_in (scope.Node t) s = option_map (scope_of s) (target_in t (named s))

-- the kinds of controls that a text is typed into, and those that are checked
abbrev pub takes_text : ControlKind → Bool
takes_text (Text trim) = true
takes_text Number = true
takes_text Checkbox = false

abbrev pub is_checkbox : ControlKind → Bool
is_checkbox (Text trim) = false
is_checkbox Number = false
is_checkbox Checkbox = true

abbrev pub is_of_kind : (ControlKind → Bool) → Option ControlKind → Bool
is_of_kind takes None = false
is_of_kind takes (Some k) = takes k

-- the control of some kinds that a command is aimed at; there is none where another element stands at the target
abbrev pub if_control : (ControlKind → Bool) → State → Option ℕ → Option ℕ
if_control takes s None = None
if_control takes s (Some n) = if is_of_kind takes (kind_at s n) then Some n else None

abbrev pub control_in : (ControlKind → Bool) → Target → State → Option ℕ
control_in takes t s = if_control takes s (target_in t (named s))

-- what a command asks of a page; nothing where its target stands nowhere
abbrev pub asked_of : Act → State → Option Asked
asked_of (eval_root p) s = Some (applies 0 p)
asked_of (eval_at o p) s = option_map (λ scope. applies scope p) (scope_in o s)
asked_of (emit_from o name args) s = option_map (λ scope. emits scope name args) (scope_in o s)
asked_of (broadcast_from o name args) s = option_map (λ scope. broadcasts scope name args) (scope_in o s)
asked_of (queue_task p) s = Some (queues p)
asked_of (probe_root p) s = Some (probes p)
asked_of (destroy_scope o) s = option_map (λ scope. destroys_scope scope) (scope_in o s)
asked_of make_digest s = Some digests
asked_of (click_on t) s = None
asked_of (fire_at e t d) s = None
asked_of (type_into t x) s = option_map (λ n. types n x) (control_in takes_text t s)
asked_of (check_at t b) s = option_map (λ n. checks n b) (control_in is_checkbox t s)
