-- The tree of an expression, by what it opens to.
use Rattle.std.proofs.Common.{◌≡◌, ◌∙◌, ℕ, List, Ok, refl, ap, sym}
use Rattle.ng_base.specs.Views.{ViewTree}
use Rattle.ng_language.specs.Trees.{Tree, PairTree, member_of, item_of}
use Rattle.ng_parse.specs.TreeOf.{tree, tree_step, pair_step}
use Rattle.ng_parse.specs.declared.tree.Expr.{Expr}
use Rattle.ng_parse.specs.declared.tree.Expr.TheVariants as exprs
use Rattle.ng_parse.specs.declared.tree.Expr.TheViews.{out-Expr}
use Rattle.ng_parse.specs.declared.tree.Expr.TheFolds.{fold_out-Expr}
use Rattle.ng_act.specs.Asked.{Doing}
use Rattle.ng_act.specs.Expressions.{made, reached, whole_reached}
use Rattle.ng_core.specs.Calling.{value_called}
use Rattle.ng_core.specs.State.{State, Run}
use Rattle.ng_core.specs.declared.called.Called.{Called}

pub tree_member : (t : _) (n : List ℕ) → tree (exprs.Member t n) ≡ member_of (tree t.value) n
unfolding out-Expr denote.Hole.Carrier.out
tree_member t n = fold_out-Expr Tree PairTree tree_step pair_step (exprs.Member t n)

pub tree_item : (t : _) (i : _) → tree (exprs.Item t i) ≡ item_of (tree t.value) (tree i.value)
unfolding out-Expr denote.Hole.Carrier.out
tree_item t i = fold_out-Expr Tree PairTree tree_step pair_step (exprs.Item t i)

-- an expression by the parts that the code reached
pub member_is : (e : Expr) (t : _) (n : List ℕ) (x : Expr) → e ≡ exprs.Member t n → x ≡ t.value → tree e ≡ member_of (tree x) n
member_is e t n x h p = ap tree h ∙ (tree_member t n ∙ ap (λ z. member_of (tree z) n) (sym p))

pub item_is : (e : Expr) (t : _) (i : _) (x y : Expr) → e ≡ exprs.Item t i → x ≡ t.value → y ≡ i.value → tree e ≡ item_of (tree x) (tree y)
item_is e t i x y h p q = ap tree h ∙ (tree_item t i ∙ (ap (λ z. item_of (tree z) (tree i.value)) (sym p) ∙ ap (λ z. item_of (tree x) (tree z)) (sym q)))

pub made_other : (go : Doing) (sc : ℕ) (w : State → Run ViewTree) (s : State) (e : Expr) → ((n : List ℕ) → e ≡ exprs.Name n → ⊥) → ((t : _) (n : List ℕ) → e ≡ exprs.Member t n → ⊥) → ((t : _) (i : _) → e ≡ exprs.Item t i → ⊥) → made go sc w (tree e) s ≡ w s
unfolding out-Expr denote.Hole.Carrier.out
made_other go sc w s (exprs.Number n) a b c = ap (λ u. made go sc w u s) (fold_out-Expr Tree PairTree tree_step pair_step (exprs.Number n))
made_other go sc w s (exprs.Text t) a b c = ap (λ u. made go sc w u s) (fold_out-Expr Tree PairTree tree_step pair_step (exprs.Text t))
made_other go sc w s (exprs.Name n) a b c = absurd (a n refl)
made_other go sc w s exprs.This a b c = ap (λ u. made go sc w u s) (fold_out-Expr Tree PairTree tree_step pair_step exprs.This)
made_other go sc w s (exprs.Constant k) a b c = ap (λ u. made go sc w u s) (fold_out-Expr Tree PairTree tree_step pair_step (exprs.Constant k))
made_other go sc w s (exprs.Member' p t n) a b c = absurd (b _ n refl)
made_other go sc w s (exprs.Item' p t q i) a b c = absurd (c _ _ refl)
made_other go sc w s (exprs.Call' p t l r) a b c = ap (λ u. made go sc w u s) (fold_out-Expr Tree PairTree tree_step pair_step (exprs.Call' p t l r))
made_other go sc w s (exprs.List' l r) a b c = ap (λ u. made go sc w u s) (fold_out-Expr Tree PairTree tree_step pair_step (exprs.List' l r))
made_other go sc w s (exprs.Record' l r) a b c = ap (λ u. made go sc w u s) (fold_out-Expr Tree PairTree tree_step pair_step (exprs.Record' l r))
made_other go sc w s (exprs.Bracketed' p t) a b c = ap (λ u. made go sc w u s) (fold_out-Expr Tree PairTree tree_step pair_step (exprs.Bracketed' p t))
made_other go sc w s (exprs.Unary' o p t) a b c = ap (λ u. made go sc w u s) (fold_out-Expr Tree PairTree tree_step pair_step (exprs.Unary' o p t))
made_other go sc w s (exprs.Binary' o p l q r) a b c = ap (λ u. made go sc w u s) (fold_out-Expr Tree PairTree tree_step pair_step (exprs.Binary' o p l q r))
made_other go sc w s (exprs.Both' p l q r) a b c = ap (λ u. made go sc w u s) (fold_out-Expr Tree PairTree tree_step pair_step (exprs.Both' p l q r))
made_other go sc w s (exprs.Either' p l q r) a b c = ap (λ u. made go sc w u s) (fold_out-Expr Tree PairTree tree_step pair_step (exprs.Either' p l q r))
made_other go sc w s (exprs.Choice' p l q r u v) a b c = ap (λ u. made go sc w u s) (fold_out-Expr Tree PairTree tree_step pair_step (exprs.Choice' p l q r u v))
made_other go sc w s (exprs.Assign' p l q r) a b c = ap (λ u. made go sc w u s) (fold_out-Expr Tree PairTree tree_step pair_step (exprs.Assign' p l q r))
made_other go sc w s (exprs.Filter' p t n l r) a b c = ap (λ u. made go sc w u s) (fold_out-Expr Tree PairTree tree_step pair_step (exprs.Filter' p t n l r))

pub reached_other : (go : Doing) (sc : ℕ) (w : State → Run ViewTree) (s : State) (e : Expr) → ((n : List ℕ) → e ≡ exprs.Name n → ⊥) → ((t : _) (n : List ℕ) → e ≡ exprs.Member t n → ⊥) → ((t : _) (i : _) → e ≡ exprs.Item t i → ⊥) → reached go sc w (tree e) s ≡ whole_reached w s
unfolding out-Expr denote.Hole.Carrier.out
reached_other go sc w s (exprs.Number n) a b c = ap (λ u. reached go sc w u s) (fold_out-Expr Tree PairTree tree_step pair_step (exprs.Number n))
reached_other go sc w s (exprs.Text t) a b c = ap (λ u. reached go sc w u s) (fold_out-Expr Tree PairTree tree_step pair_step (exprs.Text t))
reached_other go sc w s (exprs.Name n) a b c = absurd (a n refl)
reached_other go sc w s exprs.This a b c = ap (λ u. reached go sc w u s) (fold_out-Expr Tree PairTree tree_step pair_step exprs.This)
reached_other go sc w s (exprs.Constant k) a b c = ap (λ u. reached go sc w u s) (fold_out-Expr Tree PairTree tree_step pair_step (exprs.Constant k))
reached_other go sc w s (exprs.Member' p t n) a b c = absurd (b _ n refl)
reached_other go sc w s (exprs.Item' p t q i) a b c = absurd (c _ _ refl)
reached_other go sc w s (exprs.Call' p t l r) a b c = ap (λ u. reached go sc w u s) (fold_out-Expr Tree PairTree tree_step pair_step (exprs.Call' p t l r))
reached_other go sc w s (exprs.List' l r) a b c = ap (λ u. reached go sc w u s) (fold_out-Expr Tree PairTree tree_step pair_step (exprs.List' l r))
reached_other go sc w s (exprs.Record' l r) a b c = ap (λ u. reached go sc w u s) (fold_out-Expr Tree PairTree tree_step pair_step (exprs.Record' l r))
reached_other go sc w s (exprs.Bracketed' p t) a b c = ap (λ u. reached go sc w u s) (fold_out-Expr Tree PairTree tree_step pair_step (exprs.Bracketed' p t))
reached_other go sc w s (exprs.Unary' o p t) a b c = ap (λ u. reached go sc w u s) (fold_out-Expr Tree PairTree tree_step pair_step (exprs.Unary' o p t))
reached_other go sc w s (exprs.Binary' o p l q r) a b c = ap (λ u. reached go sc w u s) (fold_out-Expr Tree PairTree tree_step pair_step (exprs.Binary' o p l q r))
reached_other go sc w s (exprs.Both' p l q r) a b c = ap (λ u. reached go sc w u s) (fold_out-Expr Tree PairTree tree_step pair_step (exprs.Both' p l q r))
reached_other go sc w s (exprs.Either' p l q r) a b c = ap (λ u. reached go sc w u s) (fold_out-Expr Tree PairTree tree_step pair_step (exprs.Either' p l q r))
reached_other go sc w s (exprs.Choice' p l q r u v) a b c = ap (λ u. reached go sc w u s) (fold_out-Expr Tree PairTree tree_step pair_step (exprs.Choice' p l q r u v))
reached_other go sc w s (exprs.Assign' p l q r) a b c = ap (λ u. reached go sc w u s) (fold_out-Expr Tree PairTree tree_step pair_step (exprs.Assign' p l q r))
reached_other go sc w s (exprs.Filter' p t n l r) a b c = ap (λ u. reached go sc w u s) (fold_out-Expr Tree PairTree tree_step pair_step (exprs.Filter' p t n l r))

-- the value of the whole, and what it calls
pub whole_called : (w : State → Run ViewTree) (s t : State) (v : ViewTree) (k : Called) → w s ≡ (t, Ok v) → k ≡ value_called v → whole_reached w s ≡ (t, Ok (v, k))
whole_called w s t v k r e = rw (r, e) refl
