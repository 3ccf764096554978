-- Each step of the loops over expressions and scopes.
use Rattle.std.proofs.Common.{◌≡◌, ◌<◌, ◌≤◌, ◌+◌, ◌-◌, ℕ, zero, suc, true, false, List, [], ◌∷◌, ◌++◌, length, map, drop, get_or, Option, Some, Ok, refl, ap, sym, ◌∙◌, arith, add-one, subst, bytes_eq, max}
use Rattle.indexmap.specs.IndexMap.{insert_entry}
use Rattle.ng_base.specs.Views.{ViewTree}
use Rattle.ng_language.specs.Heights.{height, heights, pair_height, pair_heights}
use Rattle.ng_language.specs.Trees.{trees_from, pairs_from}
use Rattle.ng_parse.specs.TreeOf.{tree, pair_tree}
use Rattle.ng_parse.specs.declared.tree.Expr.{Expr}
use Rattle.ng_parse.specs.declared.tree.Pair.{Pair}
use Rattle.ng_members.specs.Leaves.{Field}
use Rattle.ng_behaviour.specs.Scopes.{parent_at, path_at, next_scope}
use Rattle.ng_core.specs.Events.{Event}
use Rattle.ng_act.specs.Expressions.{acted, acted_all, acted_pair, acted_pairs}
use Rattle.ng_act.specs.Emitting.{rises, sweeps, visits}
use Rattle.ng_act.specs.Actions.{does}
use Rattle.ng_core.specs.State.{State, Run, is_stopped}

pub drop_expr : (ps : List Expr) (i : ℕ) (p : Expr) → i < length ps → p ≡ get_or ps i p → drop i ps ≡ p ∷ drop (suc i) ps
drop_expr [] i p h e = absurd (omega arith)
drop_expr (q ∷ qs) zero p h e = ap (λ x. x ∷ qs) (sym e)
drop_expr (q ∷ qs) (suc i) p h e = drop_expr qs i p (omega arith) e

pub drop_pair : (ps : List Pair) (i : ℕ) (p : Pair) → i < length ps → p ≡ get_or ps i p → drop i ps ≡ p ∷ drop (suc i) ps
drop_pair [] i p h e = absurd (omega arith)
drop_pair (q ∷ qs) zero p h e = ap (λ x. x ∷ qs) (sym e)
drop_pair (q ∷ qs) (suc i) p h e = drop_pair qs i p (omega arith) e

-- an expression of a list is not higher than the list, nor is the rest
pub expr_low : (ps : List Expr) (i : ℕ) (p : Expr) (n : ℕ) → i < length ps → p ≡ get_or ps i p → heights (trees_from (map tree (drop i ps))) ≤ n
    → (height (tree p) ≤ n) × (heights (trees_from (map tree (drop (i + 1) ps))) ≤ n)
expr_low ps i p n h e l =
    let both : max (height (tree p)) (heights (trees_from (map tree (drop (suc i) ps)))) ≤ n = subst (λ xs. heights (trees_from (map tree xs)) ≤ n) (drop_expr ps i p h e) l in
    (omega arith, rw add-one (omega arith))

pub pair_low : (ps : List Pair) (i : ℕ) (p : Pair) (n : ℕ) → i < length ps → p ≡ get_or ps i p → pair_heights (pairs_from (map pair_tree (drop i ps))) ≤ n
    → (pair_height (pair_tree p) ≤ n) × (pair_heights (pairs_from (map pair_tree (drop (i + 1) ps))) ≤ n)
pair_low ps i p n h e l =
    let both : max (pair_height (pair_tree p)) (pair_heights (pairs_from (map pair_tree (drop (suc i) ps)))) ≤ n = subst (λ xs. pair_heights (pairs_from (map pair_tree xs)) ≤ n) (drop_pair ps i p h e) l in
    (omega arith, rw add-one (omega arith))

pub all_kept : (d0 d sc i : ℕ) (ps : List Expr) (p : Expr) (done : List ViewTree) (v : ViewTree) (s t : State) (x : Run (List ViewTree)) → i < length ps → p ≡ get_or ps i p → d ≡ d0
    → acted (does (64 - d)) sc (tree p) s ≡ (t, Ok v)
    → acted_all (does (64 - d0)) sc done (trees_from (map tree (drop i ps))) s ≡ x → acted_all (does (64 - d0)) sc (done ++ v ∷ []) (trees_from (map tree (drop (i + 1) ps))) t ≡ x
all_kept d0 d sc i ps p done v s t x h e ed run inv =
    let r : acted (does (64 - d0)) sc (tree p) s ≡ (t, Ok v) = subst (λ k. acted (does (64 - k)) sc (tree p) s ≡ (t, Ok v)) ed run in
    let step : acted_all (does (64 - d0)) sc done (trees_from (map tree (drop i ps))) s ≡ acted_all (does (64 - d0)) sc (done ++ v ∷ []) (trees_from (map tree (drop (suc i) ps))) t = rw (drop_expr ps i p h e, r) refl in
    rw add-one (sym step ∙ inv)

pub pairs_kept : (d0 d sc i : ℕ) (ps : List Pair) (p : Pair) (done : List Field) (f : Field) (s t : State) (x : Run (List Field)) → i < length ps → p ≡ get_or ps i p → d ≡ d0
    → acted_pair (does (64 - d)) sc (pair_tree p) s ≡ (t, Ok f)
    → acted_pairs (does (64 - d0)) sc done (pairs_from (map pair_tree (drop i ps))) s ≡ x → acted_pairs (does (64 - d0)) sc (insert_entry bytes_eq done f.0 f.1) (pairs_from (map pair_tree (drop (i + 1) ps))) t ≡ x
pairs_kept d0 d sc i ps p done f s t x h e ed run inv =
    let r : acted_pair (does (64 - d0)) sc (pair_tree p) s ≡ (t, Ok f) = subst (λ k. acted_pair (does (64 - k)) sc (pair_tree p) s ≡ (t, Ok f)) ed run in
    let step : acted_pairs (does (64 - d0)) sc done (pairs_from (map pair_tree (drop i ps))) s ≡ acted_pairs (does (64 - d0)) sc (insert_entry bytes_eq done f.0 f.1) (pairs_from (map pair_tree (drop (suc i) ps))) t = rw (drop_pair ps i p h e, r) refl in
    rw add-one (sym step ∙ inv)

pub rise_step : (d0 d a b at : ℕ) (e : Event) (o p : Option ℕ) (s t x : State) → a ≡ suc b → o ≡ Some at → d ≡ d0 → t ≡ visits (does (64 - d)) e at s → is_stopped t.stopped e.object ≡ false → p ≡ parent_at t.scopes at
    → rises a (does (64 - d0)) e o s ≡ x → rises b (does (64 - d0)) e p t ≡ x
rise_step d0 d a b at e o p s t x ea eo ed run stop ep inv =
    let r : t ≡ visits (does (64 - d0)) e at s = subst (λ k. t ≡ visits (does (64 - k)) e at s) ed run in
    let step : rises a (does (64 - d0)) e o s ≡ rises b (does (64 - d0)) e p t = rw (ea, eo, sym r, stop, ep) refl in
    sym step ∙ inv

pub rise_stop : (d0 d a b at : ℕ) (e : Event) (o : Option ℕ) (s t x : State) → a ≡ suc b → o ≡ Some at → d ≡ d0 → t ≡ visits (does (64 - d)) e at s → is_stopped t.stopped e.object ≡ true
    → rises a (does (64 - d0)) e o s ≡ x → t ≡ x
rise_stop d0 d a b at e o s t x ea eo ed run stop inv =
    let r : t ≡ visits (does (64 - d0)) e at s = subst (λ k. t ≡ visits (does (64 - k)) e at s) ed run in
    let step : rises a (does (64 - d0)) e o s ≡ t = rw (ea, eo, sym r, stop) refl in
    sym step ∙ inv

pub sweep_step : (d0 d a b top last at : ℕ) (e : Event) (s t x : State) → a ≡ suc b → next_scope s.scopes (path_at s.scopes last) (path_at s.scopes top) ≡ Some at → d ≡ d0 → t ≡ visits (does (64 - d)) e at s
    → sweeps a (does (64 - d0)) e top last s ≡ x → sweeps b (does (64 - d0)) e top at t ≡ x
sweep_step d0 d a b top last at e s t x ea eo ed run inv =
    let r : t ≡ visits (does (64 - d0)) e at s = subst (λ k. t ≡ visits (does (64 - k)) e at s) ed run in
    let step : sweeps a (does (64 - d0)) e top last s ≡ sweeps b (does (64 - d0)) e top at t = rw (ea, eo, sym r) refl in
    sym step ∙ inv
