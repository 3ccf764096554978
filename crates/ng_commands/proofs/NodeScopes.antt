-- The scope of a node is one of the scopes.
use Rattle.std.proofs.Common.{◌≡◌, ◌<◌, ℕ, List, length, Option, Some, None, refl}
use Rattle.std.specs.Prelude.{option_and_then, unwrap_or}
use Rattle.std.specs.BTreeMap.{is_at}
use Rattle.std.specs.Map.{lookup}
use Rattle.std.specs.Ordering.{nat_cmp}
use Rattle.ng_link.specs.Events.{element_scope, scope_of}
use Rattle.ng_instances.specs.Instances.{Linked, linked_at, owner_of}
use Rattle.ng_link.specs.State.{State}
use Rattle.ng_commands.specs.Settled.{IsWatched}
use Rattle.ng_commands.proofs.Watched.{scope_within}

-- the scope of a node is one of the scopes
pub node_scope : (s : State) (n : ℕ) → IsWatched s → 0 < length s.core.scopes → scope_of s n < length s.core.scopes
node_scope s n h root = by_owner (owner_of n s.owners)
  where
    by_linked : (p : List ℕ) (o : Option Linked) → linked_at p s.instances ≡ o → element_scope n o < length s.core.scopes
    by_linked p None e = root
    by_linked p (Some l) e = let is = h.linked p l e in scope_within s.core.scopes l.page (unwrap_or (lookup (is_at (nat_cmp n)) l.page.elements) 0) is.there is.inner

    by_owner : (o : Option (List ℕ)) → element_scope n (option_and_then (λ (p : List ℕ). linked_at p s.instances) o) < length s.core.scopes
    by_owner None = root
    by_owner (Some p) = by_linked p (linked_at p s.instances) refl
