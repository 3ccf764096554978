-- Programs that are a literal, and the parts of its value.
use Rattle.std.proofs.Common.{◌≡◌, ℕ, suc, Bool, false, List, [], ◌∷◌, length, map, refl, ap, sym, arith}
use Rattle.std.specs.Prelude.{◌&&◌, ◌==◌}
use Rattle.std.specs.List.{list_all}
use Rattle.std.proofs.lemmas.Bool.Decides.{nat_tests}
use Rattle.ng_language.specs.Trees.{trees_from}
use Rattle.ng_parse.specs.TreeOf.{tree}
use Rattle.ng_parse.specs.declared.tree.Expr.{Expr}
use Rattle.ng_watch.specs.Ended.{is_literal_tree, is_literal}

some_not_none : (n : ℕ) → (suc n == 0) ≡ false
some_not_none n = grind (arith, nat_tests)

-- one statement, and no other
pub sole : (e : Expr) (others : List Expr) → is_literal (trees_from (map tree (e ∷ others))) ≡ (length others == 0) && is_literal_tree (tree e)
sole e [] = refl
sole e (x ∷ others) = ap (λ b. b && is_literal_tree (tree e)) (sym (some_not_none (length others)))

pub all_map : {X Y : Type 0} (p : Y → Bool) (f : X → Y) (xs : List X) → list_all p (map f xs) ≡ list_all (λ x. p (f x)) xs
all_map p f [] = refl
all_map p f (x ∷ xs) = ap (λ b. p (f x) && b) (all_map p f xs)
