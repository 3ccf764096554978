-- Each arm of an expression: the tree that it opens to, and how high it is.
use Rattle.std.proofs.Common.{◌≡◌, ◌<◌, ◌≤◌, ◌+◌, ◌-◌, ◌*◌, ℕ, suc, true, length, Result, arith}
use Rattle.std.specs.Prelude.{nat_lt}
use Rattle.std.proofs.lemmas.Bool.Decides.{nat_tests}
use Rattle.ng_base.specs.ViewOf.{view_of}
use Rattle.ng_base.specs.declared.fault.Fault.{Fault}
use Rattle.ng_base.specs.declared.view.View.{View}
use Rattle.ng_language.specs.Trees.{Tree, PairTree, in_brackets, signed, combined, both_of, either_of, choice_of, assigned}
use Rattle.ng_parse.specs.TreeOf.{tree, tree_step, pair_step}
use Rattle.ng_parse.specs.declared.tree.Expr.{Expr}
use Rattle.ng_parse.specs.declared.tree.Expr.TheVariants as exprs
use Rattle.ng_parse.specs.declared.tree.Expr.TheViews.{out-Expr}
use Rattle.ng_parse.specs.declared.tree.Expr.TheFolds.{fold_out-Expr}
use Rattle.ng_act.specs.Asked.{Doing}
use Rattle.ng_act.specs.Expressions.{acted}
use Rattle.ng_act.specs.Kept.{Kept}
use Rattle.ng_core.specs.Frames.{Acts, IsSound}
use Rattle.ng_core.specs.declared.core_state.Core.{Core}
use Rattle.ng_core.specs.State.{State}

tree_bracketed : (t : _) → tree (exprs.Bracketed t) ≡ in_brackets (tree t.value)
unfolding out-Expr denote.Hole.Carrier.out
tree_bracketed t = fold_out-Expr Tree PairTree tree_step pair_step (exprs.Bracketed t)

tree_unary : (o : _) (t : _) → tree (exprs.Unary o t) ≡ signed o (tree t.value)
unfolding out-Expr denote.Hole.Carrier.out
tree_unary o t = fold_out-Expr Tree PairTree tree_step pair_step (exprs.Unary o t)

tree_binary : (o : _) (a : _) (b : _) → tree (exprs.Binary o a b) ≡ combined o (tree a.value) (tree b.value)
unfolding out-Expr denote.Hole.Carrier.out
tree_binary o a b = fold_out-Expr Tree PairTree tree_step pair_step (exprs.Binary o a b)

tree_both : (a : _) (b : _) → tree (exprs.Both a b) ≡ both_of (tree a.value) (tree b.value)
unfolding out-Expr denote.Hole.Carrier.out
tree_both a b = fold_out-Expr Tree PairTree tree_step pair_step (exprs.Both a b)

tree_either : (a : _) (b : _) → tree (exprs.Either a b) ≡ either_of (tree a.value) (tree b.value)
unfolding out-Expr denote.Hole.Carrier.out
tree_either a b = fold_out-Expr Tree PairTree tree_step pair_step (exprs.Either a b)

tree_choice : (d : _) (a : _) (b : _) → tree (exprs.Choice d a b) ≡ choice_of (tree d.value) (tree a.value) (tree b.value)
unfolding out-Expr denote.Hole.Carrier.out
tree_choice d a b = fold_out-Expr Tree PairTree tree_step pair_step (exprs.Choice d a b)

tree_assign : (a : _) (b : _) → tree (exprs.Assign a b) ≡ assigned (tree a.value) (tree b.value)
unfolding out-Expr denote.Hole.Carrier.out
tree_assign a b = fold_out-Expr Tree PairTree tree_step pair_step (exprs.Assign a b)

-- an expression by the parts that the code reached
pub bracketed_is : (e : Expr) (t : _) (x : Expr) → e ≡ exprs.Bracketed t → x ≡ t.value → tree e ≡ in_brackets (tree x)
bracketed_is e t x h p = rw (h, p) (tree_bracketed t)

pub unary_is : (e : Expr) (o : _) (t : _) (x : Expr) → e ≡ exprs.Unary o t → x ≡ t.value → tree e ≡ signed o (tree x)
unary_is e o t x h p = rw (h, p) (tree_unary o t)

pub binary_is : (e : Expr) (o : _) (a : _) (b : _) (x y : Expr) → e ≡ exprs.Binary o a b → x ≡ a.value → y ≡ b.value → tree e ≡ combined o (tree x) (tree y)
binary_is e o a b x y h p q = rw (h, p, q) (tree_binary o a b)

pub both_is : (e : Expr) (a : _) (b : _) (x y : Expr) → e ≡ exprs.Both a b → x ≡ a.value → y ≡ b.value → tree e ≡ both_of (tree x) (tree y)
both_is e a b x y h p q = rw (h, p, q) (tree_both a b)

pub either_is : (e : Expr) (a : _) (b : _) (x y : Expr) → e ≡ exprs.Either a b → x ≡ a.value → y ≡ b.value → tree e ≡ either_of (tree x) (tree y)
either_is e a b x y h p q = rw (h, p, q) (tree_either a b)

pub choice_is : (e : Expr) (d : _) (a : _) (b : _) (z x y : Expr) → e ≡ exprs.Choice d a b → z ≡ d.value → x ≡ a.value → y ≡ b.value → tree e ≡ choice_of (tree z) (tree x) (tree y)
choice_is e d a b z x y h o p q = rw (h, o, p, q) (tree_choice d a b)

pub assign_is : (e : Expr) (a : _) (b : _) (x y : Expr) → e ≡ exprs.Assign a b → x ≡ a.value → y ≡ b.value → tree e ≡ assigned (tree x) (tree y)
assign_is e a b x y h p q = rw (h, p, q) (tree_assign a b)

-- what the arm's function does, the expression does
pub acted_as : (r : Result View Fault) (go : Doing) (sc : ℕ) (u v : Tree) (s t : State) → u ≡ v → Acts view_of r t (acted go sc v s) → Acts view_of r t (acted go sc u s)
acted_as r go sc u v s t e h = rw e h

-- a part is lower than the whole, so that a call for it is measured by less
pub whole_asked : (c : Core) (n k a b sc t : ℕ) {P : Type 0} → IsSound c → k ≡ suc n → nat_lt a (b + 10) ≡ true → sc < length c.scopes → P → (64 - c.depth) * 2000 + 10 * k + b ≡ t
    → ((64 - c.depth) * 2000 + 10 * n + a < t) × (IsSound c × ((sc < length c.scopes) × P))
whole_asked c n k a b sc t s e l i p own =
    let less : a < b + 10 = grind (arith, nat_tests) in
    (rw (← own, e) (omega arith), (s, (i, p)))

pub part_asked : (c0 c1 : Core) (m n k a b sc t : ℕ) → Kept c0 c1 → k ≡ suc n → m ≤ n → nat_lt a (b + 10) ≡ true → sc < length c0.scopes → k ≤ 100 → (64 - c0.depth) * 2000 + 10 * k + b ≡ t
    → ((64 - c1.depth) * 2000 + 10 * m + a < t) × (IsSound c1 × ((sc < length c1.scopes) × (m ≤ 100)))
part_asked c0 c1 m n k a b sc t kept e h l i low own =
    let less : a < b + 10 = grind (arith, nat_tests) in
    let q : (64 - c1.depth) * 2000 + 10 * m + a < t = rw (← own, e, kept.depth) (omega arith) in
    (q, (kept.sound, (rw kept.count i, omega arith)))

pub part_low : (m n k : ℕ) → k ≡ suc n → m ≤ n → k ≤ 100 → m ≤ 100
part_low m n k e h l = omega arith
