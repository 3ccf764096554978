-- The laws of the scope tree.
use Rattle.std.proofs.Common.{◌≡◌, ℕ, List, Option, Some, None, ap, sym, ◌∙◌}
use Rattle.std.specs.Prelude.{option_and_then, MatchOption}
use Rattle.std.specs.Ordering.{is_gt}
use Rattle.ng_base.specs.Order.{path_cmp}
use Rattle.ng_behaviour.specs.Scopes.{Scope, path_at, at, next_path, NoneAhead, IsNextScope, IsScopeTree, NextScopeLaw, GrownTreeLaw}
use Rattle.ng_behaviour.proofs.NextScope.{Nearest, next_path-is}
use Rattle.ng_behaviour.proofs.Grown.{tree-grows}
use Rattle.ng_behaviour.proofs.Dying.{tree-dies}

next-law : (t : List Scope) (p u : List ℕ) → IsScopeTree t → (o : Option (List ℕ)) → Nearest t p u o → MatchOption (option_and_then (at t) o) (NoneAhead t p u) (IsNextScope t p u)
next-law t p u i None n = n
next-law t p u i (Some b) n =
    let e : at t b ≡ Some n.scope = ap (at t) (sym n.path) ∙ i.leads n.scope n.stands in
    rw e (record { stands = n.stands; ahead = n.ahead; least = λ r h a. ap (λ q. is_gt (path_cmp q (path_at t r))) n.path ∙ n.least r h a })

pub next_law : NextScopeLaw
next_law t p u i = next-law t p u i (next_path t p u) (next_path-is t p u)

pub tree_law : GrownTreeLaw
tree_law t c o i h = (tree-grows t c o i h, tree-dies t (path_at t c) i)
