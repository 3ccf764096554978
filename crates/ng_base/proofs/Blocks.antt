-- Plain bytes, block by block.
use Rattle.std.proofs.Common.{arith, ◌≡◌, ◌≤◌, ◌+◌, ◌∙◌, ◌++◌, ℕ, true, List, length, take, drop, sym, ap, drop-drop, length-drop, length-append}
use Rattle.std.proofs.Math.Seq.{take-add, take-append_seam, drop-append_seam}
use Rattle.std.proofs.lemmas.Grind.{common_steps}
use Rattle.std.proofs.lemmas.List.Folds.{list_all-append}
use Rattle.std.specs.List.{list_all}
use Rattle.ng_base.specs.Runs.{is_plain}

-- the first bytes are plain, and so are those behind them
pub more_plain : (bs : List ℕ) (n m : ℕ) → list_all is_plain (take n bs) ≡ true → list_all is_plain (take m (drop n bs)) ≡ true → list_all is_plain (take (n + m) bs) ≡ true
more_plain bs n m e f =
    let parts = ap (list_all is_plain) (take-add n m bs) ∙ list_all-append is_plain (take n bs) (take m (drop n bs)) in
    grind (arith, common_steps)

-- a block stands behind the first bytes
pub behind_block : (bs block rest : List ℕ) (n : ℕ) → n ≤ length bs → drop n bs ≡ block ++ rest → (n + length block ≤ length bs) × (drop (n + length block) bs ≡ rest) × (take (length block) (drop n bs) ≡ block)
behind_block bs block rest n l e =
    let whole = sym (length-drop n bs) ∙ ap length e in
    let parts = length-append block rest in
    (grind (arith, common_steps), sym (drop-drop (length block) n bs) ∙ (ap (drop (length block)) e ∙ drop-append_seam block rest), ap (take (length block)) e ∙ take-append_seam block rest)
