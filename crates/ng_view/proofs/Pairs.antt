-- The pairs of a literal, one by one.
use Rattle.std.proofs.Common.{◌≡◌, ◌<◌, ◌≤◌, ◌+◌, max, ℕ, zero, suc, List, [], ◌∷◌, map, drop, length, get_or, refl, sym, ap, subst, arith, add-one, bytes_eq}
use Rattle.std.specs.Prelude.{Ok}
use Rattle.indexmap.specs.IndexMap.{insert_entry}
use Rattle.ng_base.specs.Objects.{Object}
use Rattle.ng_base.specs.Views.{ViewTree}
use Rattle.ng_language.specs.Heights.{pair_height, pair_heights}
use Rattle.ng_language.specs.Trees.{pairs_from}
use Rattle.ng_parse.specs.TreeOf.{pair_tree}
use Rattle.ng_parse.specs.declared.tree.Pair.{Pair}
use Rattle.ng_evaluation.specs.Purity.{ArePairsKnown}
use Rattle.ng_members.specs.Leaves.{Local, Field}
use Rattle.ng_evaluation.specs.Evaluation.{evaluated_pair, evaluated_pairs}

drop_pair : (ps : List Pair) (i : ℕ) (p : Pair) → i < length ps → p ≡ get_or ps i p → drop i ps ≡ p ∷ drop (suc i) ps
drop_pair [] i p h e = absurd (omega arith)
drop_pair (q ∷ qs) zero p h e = ap (λ x. x ∷ qs) (sym e)
drop_pair (q ∷ qs) (suc i) p h e = drop_pair qs i p (omega arith) e

pub pairs_known : (ps : List Pair) (i : ℕ) (p : Pair) → i < length ps → p ≡ get_or ps i p → ArePairsKnown (pairs_from (map pair_tree (drop i ps))) → ArePairsKnown (pairs_from (map pair_tree (drop (i + 1) ps)))
pairs_known ps i p h e k =
    let both : ArePairsKnown (pairs_from (map pair_tree (p ∷ drop (suc i) ps))) = subst (λ xs. ArePairsKnown (pairs_from (map pair_tree xs))) (drop_pair ps i p h e) k in
    rw add-one both.1

pub pairs_low : (ps : List Pair) (i : ℕ) (p : Pair) (n : ℕ) → i < length ps → p ≡ get_or ps i p → pair_heights (pairs_from (map pair_tree (drop i ps))) ≤ n → pair_heights (pairs_from (map pair_tree (drop (i + 1) ps))) ≤ n
pairs_low ps i p n h e l =
    let both : max (pair_height (pair_tree p)) (pair_heights (pairs_from (map pair_tree (drop (suc i) ps)))) ≤ n = subst (λ xs. pair_heights (pairs_from (map pair_tree xs)) ≤ n) (drop_pair ps i p h e) l in
    rw add-one (omega arith)

pub pairs_same : (objects : List Object) (scope : ℕ) (locals : List Local) (done : List Field) (ps : List Pair) (i : ℕ) (p : Pair) (name : List ℕ) (v : ViewTree) → i < length ps → p ≡ get_or ps i p
    → evaluated_pair objects scope locals (pair_tree p) ≡ Ok (name, v)
    → evaluated_pairs objects scope locals done (pairs_from (map pair_tree (drop i ps))) ≡ evaluated_pairs objects scope locals (insert_entry bytes_eq done name v) (pairs_from (map pair_tree (drop (i + 1) ps)))
pairs_same objects scope locals done ps i p name v h e f = rw (add-one, drop_pair ps i p h e, f) refl
