use Rattle.std.proofs.Common.{◌≡◌, ◌∙◌, ◌+◌, ℕ, List, [], ◌∷◌, ap, drop, map, refl, slice_get, sym}
use Rattle.std.proofs.lemmas.List.{drop_all}
use Rattle.ng_base.specs.declared.fault.Fault.{Fault}
use Rattle.ng_core.specs.Frames as cores
use Rattle.ng_core.specs.State as act
use Rattle.ng_drawing.specs.Template.{Piece}
use Rattle.ng_changes.proofs.Answered.{dropped}
use Rattle.ng_steps.proofs.BoundTexts.{gives_err, shown_faults, shown_from, shown_last, shown_turn}
use Rattle.ng_steps.specs.LinkBindings.{and_shown, shown_over}
use Rattle.ng_parts.specs.PieceOf.{piece_of}
use Rattle.ng_steps.proofs.binding_texts.shown_all.Goals as goal

pub loop-piece-init : goal.loop-piece-init
loop-piece-init c = λ xs same.
    let all = shown_over c.args.over.0 (slice_get xs) (map piece_of c.as_slice-piece-items.result.now) (cores.state_of c.args.works.now.core) in
    shown_from all all refl ∙ sym (ap (λ (ts : List (List ℕ)). and_shown ts all) c.new-shown.ensures.items)

pub loop-piece-preserved : goal.loop-piece-preserved
loop-piece-preserved c = λ xs same.
    let l = c.loop-piece in
    let items = c.as_slice-piece-items.result.now in
    let core : act.State = cores.state_of c.args.works.now.core in
    let x : Piece = piece_of c.piece-item.result in
    let rest : List Piece = map piece_of (drop (l.piece-index + 1) items) in
    let first : map piece_of (drop l.piece-index items) ≡ x ∷ rest = ap (map piece_of) (dropped items l.piece-index c.piece-item.result c.loop-piece-test.true c.piece-item.is) in
    shown_turn c.args.over.0 (slice_get xs) x rest core l.shown.items _ c.show_piece.new.shown.items (c.in_ok-show_piece.ensures xs same)
    (l.invariant xs same ∙ ap (λ (ps : List Piece). and_shown l.shown.items (shown_over c.args.over.0 (slice_get xs) ps core)) first)

pub returns-in_err-show_piece : goal.returns-in_err-show_piece
returns-in_err-show_piece c = λ xs same.
    let l = c.loop-piece in
    let items = c.as_slice-piece-items.result.now in
    let core : act.State = cores.state_of c.args.works.now.core in
    let x : Piece = piece_of c.piece-item.result in
    let rest : List Piece = map piece_of (drop (l.piece-index + 1) items) in
    let first : map piece_of (drop l.piece-index items) ≡ x ∷ rest = ap (map piece_of) (dropped items l.piece-index c.piece-item.result c.loop-piece-test.true c.piece-item.is) in
    let e : Fault = c.in_err-show_piece.field-0.0 in
    gives_err _ _ c.from_residual.result e c.from_residual.ensures.1
    (λ free. sym (ap (λ (ps : List Piece). shown_over c.args.over.0 (slice_get xs) ps core) c.as_slice-piece-items.ensures)
    ∙ shown_faults c.args.over.0 (slice_get xs) x rest core l.shown.items _ e (c.in_err-show_piece.ensures xs same free)
    (l.invariant xs same ∙ ap (λ (ps : List Piece). and_shown l.shown.items (shown_over c.args.over.0 (slice_get xs) ps core)) first))

pub returns : goal.returns
returns c = λ xs same.
    let l = c.loop-piece in
    let items = c.as_slice-piece-items.result.now in
    let core : act.State = cores.state_of c.args.works.now.core in
    let none : map piece_of (drop l.piece-index items) ≡ [] = ap (map piece_of) (drop_all l.piece-index items c.loop-piece-test.false) in
    sym (ap (λ (ps : List Piece). shown_over c.args.over.0 (slice_get xs) ps core) c.as_slice-piece-items.ensures)
    ∙ shown_last c.args.over.0 (slice_get xs) (map piece_of (drop l.piece-index items)) core l.shown.items _ none (l.invariant xs same)
