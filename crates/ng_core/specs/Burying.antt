-- What dies with a scope.
use Rattle.std.specs.Prelude.{ℕ, zero, suc, length, Option, Some, None}
use Rattle.ng_behaviour.specs.Listeners.{without_listeners_of}
use Rattle.ng_behaviour.specs.Scopes.{path_at, next_scope, without_scope}
use Rattle.ng_core.specs.State.{State, leaves, with_change, with_scopes, with_heard}

abbrev pub next_then : Option ℕ → State → (ℕ → State) → State
next_then None s f = s
next_then (Some scope) s f = f scope

-- there are no more scopes than objects
abbrev pub many : State → ℕ
many s = length s.objects

-- the listeners of a scope are gone
abbrev pub hushed : ℕ → State → State
hushed scope s = with_heard (without_listeners_of s.heard scope) s

-- and those of the live scopes below it
abbrev pub hushes : ℕ → ℕ → ℕ → State → State
hushes zero top last s = s
hushes (suc k) top last s = next_then (next_scope s.scopes (path_at s.scopes last) (path_at s.scopes top)) s (λ scope. hushes k top scope (hushed scope s))

abbrev pub deadened : ℕ → State → State
deadened scope s = with_scopes (without_scope s.scopes scope) s

-- a scope and all below it are not live, and their listeners and declared watches are gone
abbrev pub buried : ℕ → State → State
buried scope s = deadened scope (hushes (many s) scope scope (hushed scope (with_change (leaves scope) s)))
