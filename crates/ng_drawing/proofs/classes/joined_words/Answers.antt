use Rattle.std.proofs.Common.{◌≡◌, ◌++◌, ◌∷◌, ap, sym, ◌∙◌}
use Rattle.ng_markup.specs.Attributes.{spaced}
use Rattle.ng_drawing.proofs.Words.{trailed, spaced_first}
use Rattle.ng_drawing.proofs.classes.joined_words.Goals as goal

pub loop-word-init : goal.loop-word-init
loop-word-init c =
    let split : c.args.words.now ≡ c.in-Some.first.now ∷ c.in-Some.others.now = c.in-Some.ensures in
    ap (λ t. t ++ trailed c.in-Some.others.now) c.in_ok-text.ensures ∙ (spaced_first c.in-Some.first.now c.in-Some.others.now ∙ ap spaced (sym split))
