-- A word that is longer than the text.
use Rattle.std.proofs.Common.{◌≡◌, ◌<◌, ◌+◌, ℕ, List, [], ◌∷◌, length, drop, get_or, ap, ◌∙◌, None}
use Rattle.std.proofs.lemmas.List.{drop_more}
use Rattle.ng_blocks.specs.Dividing.{after_word}

pub text_over : (ws : List ℕ) (i : ℕ) (cs : List ℕ) → i < length ws → cs ≡ [] → after_word (drop i ws) cs ≡ None
text_over ws i cs less none = ap (λ x. after_word x cs) (drop_more ws i 0 less) ∙ ap (λ x. after_word (get_or ws i 0 ∷ drop (i + 1) ws) x) none
