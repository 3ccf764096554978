-- What a reader may take from the definitions of actions.
use Rattle.std.specs.Prelude.{ℕ, ◌≡◌, ◌<◌, ◌≤◌, ⊤, true, false, List, [], ◌∷◌, length, map, Option, Some, None}
use Rattle.ng_base.specs.Views.{ViewTree}
use Rattle.ng_behaviour.specs.Listeners.{Listener, Heard, stands_at, heard_at, RiseTo}
use Rattle.ng_behaviour.specs.Scopes.{begins, path_at, object_at, live_at, IsScopeTree}
use Rattle.ng_language.specs.Trees.{Tree, Trees, a_number, a_text, a_name, the_scope, a_constant, member_of, item_of, call_of, a_list, a_record, in_brackets, signed, combined, both_of, either_of, choice_of, assigned, filtered, no_trees, tree_then}
use Rattle.ng_evaluation.specs.Evaluation.{evaluated_program}
use Rattle.ng_write.specs.Reading.{OnlyAt}
use Rattle.ng_core.specs.Keeping.{assigns_name}
use Rattle.ng_core.specs.Events.{Event}
use Rattle.ng_act.specs.Asked.{Asked}
use Rattle.ng_act.specs.Calls.{destroys}
use Rattle.ng_act.specs.Expressions.{programmed}
use Rattle.ng_act.specs.Emitting.{turns, visited}
use Rattle.ng_act.specs.Actions.{does}
use Rattle.ng_core.specs.State.{State, Change, leaves}

-- the places of the listeners that stand
abbrev pub serials : List (ℕ × Listener) → List ℕ
serials es = map (λ x. x.0) es

-- where an event reaches a scope, the listeners that stand there have one turn each, in order, and nobody else has one,
-- whatever they do to the list meanwhile
abbrev pub EventLaw : Type 0
EventLaw =
    (room : ℕ) (e : Event) (scope i : ℕ) (s : State) → RiseTo 0 (heard_at s.heard i).last (heard_at s.heard i).entries
    → visited (does room) e scope (Some i) s ≡ turns (does room) e scope i (serials (heard_at s.heard i).entries) s

-- a listener that is gone from its list never comes back, whatever is opened
abbrev pub GoneLaw : Type 0
GoneLaw =
    (room : ℕ) (a : Asked) (s : State) (i k : ℕ) → k ≤ (heard_at s.heard i).last → stands_at (heard_at s.heard i).entries k ≡ None
    → stands_at (heard_at (does room a s).0.heard i).entries k ≡ None

-- a bare name is written on the locals or on the scope's own object, and on no other object
abbrev pub NameLaw : Type 0
NameLaw = (scope : ℕ) (name : List ℕ) (t : ViewTree) (s : State) → OnlyAt (object_at s.scopes scope) s.objects (assigns_name scope name t s).0.objects

-- once a live scope is destroyed, neither it nor any scope below it lives
abbrev pub DestroyLaw : Type 0
DestroyLaw =
    (room scope r : ℕ) (s : State) → live_at s.scopes scope ≡ true
    → begins (path_at (destroys (does room) scope s).scopes scope) (path_at (destroys (does room) scope s).scopes r) ≡ true
    → live_at (destroys (does room) scope s).scopes r ≡ false

-- an expression of names, constants, members and operators alone: it makes nothing, calls nothing and filters nothing
abbrev pub IsPlain : Tree → Type 0
IsPlain (a_number n) = ⊤
IsPlain (a_text t) = ⊤
IsPlain (a_name n) = ⊤
IsPlain the_scope = ⊤
IsPlain (a_constant c) = ⊤
IsPlain (member_of t n) = IsPlain t
IsPlain (item_of t i) = IsPlain t × IsPlain i
IsPlain (call_of t ts) = ⊥
IsPlain (a_list ts) = ⊥
IsPlain (a_record ps) = ⊥
IsPlain (in_brackets t) = IsPlain t
IsPlain (signed o t) = IsPlain t
IsPlain (combined o l r) = IsPlain l × IsPlain r
IsPlain (both_of l r) = IsPlain l × IsPlain r
IsPlain (either_of l r) = IsPlain l × IsPlain r
IsPlain (choice_of c l r) = IsPlain c × (IsPlain l × IsPlain r)
IsPlain (assigned l r) = ⊥
IsPlain (filtered t n ts) = ⊥

abbrev pub ArePlain : Trees → Type 0
ArePlain no_trees = ⊤
ArePlain (tree_then t ts) = IsPlain t × ArePlain ts

-- such a program has, as an action, the value or the fault that evaluation gives, and changes nothing
abbrev pub PlainLaw : Type 0
PlainLaw =
    (room scope : ℕ) (p : Trees) (s : State) → ArePlain p
    → programmed (does room) scope p s ≡ (s, evaluated_program s.objects (object_at s.scopes scope) s.locals p)

-- no listener stands at a scope
abbrev pub IsQuiet : ℕ → List Heard → Type 0
IsQuiet r heard = (i : ℕ) → (heard_at heard i).scope ≡ r → (heard_at heard i).entries ≡ []

-- what holds of the scopes and listeners of a state: the scopes are a tree, each with an object, and a scope that isn't live
-- has no listeners
pub record IsWhole (s : State) : Type 0 where
  pub tree : IsScopeTree s.scopes
  pub enough : length s.scopes ≤ length s.objects
  pub silent : (r : ℕ) → r < length s.scopes → live_at s.scopes r ≡ false → IsQuiet r s.heard

-- it holds after whatever runs
abbrev pub WholeLaw : Type 0
WholeLaw = (room : ℕ) (a : Asked) (s : State) → IsWhole s → IsWhole (does room a s).0

-- once a live scope is destroyed, no listener stands at it nor at any scope below it
abbrev pub SilentLaw : Type 0
SilentLaw =
    (room scope r : ℕ) (s : State) → IsWhole s → live_at s.scopes scope ≡ true → r < length s.scopes
    → begins (path_at (destroys (does room) scope s).scopes scope) (path_at (destroys (does room) scope s).scopes r) ≡ true
    → IsQuiet r (destroys (does room) scope s).heard

-- the last of the changes
abbrev pub last_change : List Change → Option Change
last_change [] = None
last_change (c ∷ []) = Some c
last_change (c ∷ d ∷ cs) = last_change (d ∷ cs)

-- once a live scope is destroyed, the last change of the watches takes out those of the scope and of all below it
abbrev pub WatchLaw : Type 0
WatchLaw = (room scope : ℕ) (s : State) → live_at s.scopes scope ≡ true → last_change (destroys (does room) scope s).changes ≡ Some (leaves scope)
