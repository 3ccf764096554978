-- The cells of characters that stand for themselves, and of what stands behind a return.
use Rattle.std.proofs.Common.{arith, ◌≡◌, ◌∙◌, ℕ, true, false, List, [], ◌∷◌, ◌++◌, refl, ap}
use Rattle.std.proofs.lemmas.Grind.{common_steps}
use Rattle.std.specs.List.{list_all}
use Rattle.ng_base.specs.Cells.{cells, place}
use Rattle.ng_base.specs.Runs.{is_plain, begins_plain, characters, Fronts}
use Rattle.std.proofs.lemmas.Bool.{and_parts}

pub plain_cells : (total : ℕ) (us vs : List ℕ) → list_all is_plain us ≡ true → Fronts us (cells total false (us ++ vs)) (cells total false vs)
plain_cells total [] vs e = ([], refl, refl)
plain_cells total (u ∷ us) vs e =
    let both = and_parts (is_plain u) (list_all is_plain us) e in
    let others = plain_cells total us vs both.1 in
    let step : cells total false (u ∷ (us ++ vs)) ≡ (u, place total (u ∷ (us ++ vs))) ∷ cells total false (us ++ vs) = grind (arith, common_steps) in
    ((u, place total (u ∷ (us ++ vs))) ∷ others.0, step ∙ ap (λ ks. (u, place total (u ∷ (us ++ vs))) ∷ ks) others.1, ap (λ cs. u ∷ cs) others.2)

-- what begins with no plain character reads so
pub reads_as_mark : (total : ℕ) (cs : List ℕ) → begins_plain cs ≡ false → begins_plain (characters (cells total false cs)) ≡ false
reads_as_mark total [] e = refl
reads_as_mark total (c ∷ cs) e = grind (arith, common_steps)
