use Rattle.std.proofs.Common.{◌∙◌, ◌++◌, List, ℕ, ap, append_assoc, sym, ◌∷◌}
use Rattle.ng_steps.specs.LinkBindings.{joined_with}
use Rattle.ng_parts.specs.PieceOf.{piece_of}
use Rattle.ng_parts.specs.declared.pieces.Piece.{Piece}
use Rattle.ng_changes.proofs.Entries.{if_ok}
use Rattle.ng_steps.proofs.binding_texts.push_piece.Goals as goal

pub returns-in_ok-push_txt-in-Word : goal.returns-in_ok-push_txt-in-Word
returns-in_ok-push_txt-in-Word c = λ ps.
    ap (λ (t : List ℕ). t ++ joined_with ps c.args.shown.now) c.in_ok-push_txt-in-Word.ensures.ok
    ∙ (append_assoc c.args.text.now c.in-Word.word (joined_with ps c.args.shown.now)
    ∙ sym (ap (λ (p : Piece). c.args.text.now ++ joined_with (piece_of p ∷ ps) c.args.shown.now) c.in-Word.is))

pub returns-in-Hole : goal.returns-in-Hole
returns-in-Hole c =
    if_ok c.push_first.result c.push_first.ensures
    (λ left joined ps. joined c.in-Hole.field-0 ps ∙ sym (ap (λ (p : Piece). c.args.text.now ++ joined_with (piece_of p ∷ ps) c.args.shown.now) c.in-Hole.is))
