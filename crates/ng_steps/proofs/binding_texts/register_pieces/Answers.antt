use Rattle.std.proofs.Common.{◌≡◌, ◌∙◌, ◌++◌, ◌+◌, ℕ, List, [], ◌∷◌, ap, arith, drop, length, map, refl, sym}
use Rattle.std.proofs.lemmas.List.{drop_all, map-append}
use Rattle.ng_drawing.specs.Template.{Piece}
use Rattle.ng_changes.proofs.Answered.{dropped}
use Rattle.ng_steps.proofs.BoundTexts.{numbers_first, numbers_last, numbers_turn, registered_turn}
use Rattle.ng_steps.specs.LinkBindings.{bound_pieces}
use Rattle.ng_steps.specs.Links.{Linking, registered_many}
use Rattle.ng_steps.specs.LinkingOf.{linking}
use Rattle.ng_instances.specs.Bindings.{BoundPiece}
use Rattle.ng_instances.specs.BoundOf.{piece_of}
use Rattle.ng_build.specs.Linking.{piece_steps}
use Rattle.ng_instances.specs.declared.instances.BoundPiece as code
use Rattle.ng_parts.specs.PieceOf.{piece_of as seen_piece}
use Rattle.ng_parts.specs.declared.pieces.Piece as code_piece
use Rattle.ng_steps.proofs.binding_texts.register_pieces.Goals as goal

pub loop-piece-init : goal.loop-piece-init
loop-piece-init c =
    let all : List Piece = map seen_piece c.as_slice-piece-items.result.now in
    record {
      registered = refl;
      pieces = λ more. numbers_first all c.args.done.now.made.serials.items more ∙ sym (ap (λ (bs : List code.BoundPiece). map piece_of bs ++ bound_pieces all more) c.new-all.ensures.items);
      at_hand = refl;
      scopes = refl;
      grown = omega arith;
      whole = c.requires.whole;
      templates = refl;
    }

pub loop-piece-preserved : goal.loop-piece-preserved
loop-piece-preserved c =
    let l = c.loop-piece in
    let h = l.invariant in
    let items = c.as_slice-piece-items.result.now in
    let x : Piece = seen_piece c.piece-item.result in
    let b : BoundPiece = piece_of c.in_ok-register_piece.field-0 in
    let rest : List Piece = map seen_piece (drop (l.piece-index + 1) items) in
    let all : List Piece = map seen_piece items in
    let first : map seen_piece (drop l.piece-index items) ≡ x ∷ rest = ap (map seen_piece) (dropped items l.piece-index c.piece-item.result c.loop-piece-test.true c.piece-item.is) in
    let more : map piece_of c.push.new.self.items ≡ map piece_of l.all.items ++ b ∷ [] = ap (map piece_of) c.in_ok-push.ensures.items ∙ map-append piece_of l.all.items (c.in_ok-register_piece.field-0 ∷ []) in
    let g : Linking = linking l.works l.done in
    let one = c.in_ok-register_piece.ensures in
    let serials = l.done.made.serials.items in
    record {
      registered = registered_turn x rest all g (linking c.register_piece.new.works c.register_piece.new.done) (linking c.args.works.now c.args.done.now) one.registered
          (sym (ap (λ (ps : List Piece). registered_many (piece_steps ps) g) first) ∙ h.registered);
      pieces = λ ns. numbers_turn x b rest all (map piece_of l.all.items) (length c.args.done.now.made.serials.items) serials c.register_piece.new.done.made.serials.items one.piece one.serials
          (λ ks. h.pieces ks ∙ ap (λ (ps : List Piece). map piece_of l.all.items ++ bound_pieces ps ks) first) ns
          ∙ sym (ap (λ (bs : List BoundPiece). bs ++ bound_pieces rest ns) more);
      at_hand = c.register_piece.ensures.at_hand ∙ h.at_hand;
      scopes = c.register_piece.ensures.scopes ∙ h.scopes;
      grown = (let so_far = h.grown in let next = one.grown in omega (arith, so_far, next));
      whole = one.whole;
      templates = c.register_piece.ensures.templates ∙ h.templates;
    }

pub returns-clause-registered : goal.returns-clause-registered
returns-clause-registered c =
    let l = c.loop-piece in
    let items = c.as_slice-piece-items.result.now in
    let none : drop l.piece-index items ≡ [] = drop_all l.piece-index items c.loop-piece-test.false in
    sym (ap (λ (ps : List code_piece.Piece). registered_many (piece_steps (map seen_piece ps)) (linking l.works l.done)) none)
    ∙ (l.invariant.registered ∙ ap (λ (ps : List Piece). registered_many (piece_steps ps) (linking c.args.works.now c.args.done.now)) c.as_slice-piece-items.ensures)

pub returns-clause-pieces : goal.returns-clause-pieces
returns-clause-pieces c =
    let l = c.loop-piece in
    let items = c.as_slice-piece-items.result.now in
    let count : ℕ = length c.args.done.now.made.serials.items in
    let none : map seen_piece (drop l.piece-index items) ≡ [] = ap (map seen_piece) (drop_all l.piece-index items c.loop-piece-test.false) in
    numbers_last (map seen_piece items) (map seen_piece (drop l.piece-index items)) (map piece_of l.all.items) count l.done.made.serials.items none l.invariant.pieces
    ∙ ap (λ (ps : List Piece). bound_pieces ps (drop count l.done.made.serials.items)) c.as_slice-piece-items.ensures
