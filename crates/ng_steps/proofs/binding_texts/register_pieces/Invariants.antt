use Rattle.std.proofs.Common.{◌≡◌, ◌≤◌, ◌++◌, ℕ, List, drop, length, map}
use Rattle.ng_steps.specs.LinkBindings.{bound_pieces}
use Rattle.ng_steps.specs.Links.{registered_many}
use Rattle.ng_steps.specs.LinkingOf.{linking}
use Rattle.ng_changes.specs.Whole.{IsWhole}
use Rattle.ng_instances.specs.BoundOf.{piece_of, registered_of}
use Rattle.ng_build.specs.Linking.{piece_steps}
use Rattle.ng_link.specs.State.{templates_of}
use Rattle.ng_parts.specs.PieceOf.{piece_of as seen_piece}
use Rattle.ng_steps.proofs.binding_texts.register_pieces.Given as goal

-- the pieces behind this one get the numbers that come
abbrev pub invariant-loop-piece : goal.invariant-loop-piece
invariant-loop-piece l = record {
  registered : registered_many (piece_steps (map seen_piece (drop l.piece-index l.piece-items))) (linking l.works l.done) ≡ registered_many (piece_steps (map seen_piece l.piece-items)) (linking l.initial.works l.initial.done);
  pieces : (more : List ℕ) → bound_pieces (map seen_piece l.piece-items) (drop (length l.initial.done.made.serials.items) (l.done.made.serials.items ++ more)) ≡ map piece_of l.all.items ++ bound_pieces (map seen_piece (drop l.piece-index l.piece-items)) more;
  at_hand : (registered_of l.done.made).at_hand ≡ (registered_of l.initial.done.made).at_hand;
  scopes : l.works.core.scopes ≡ l.initial.works.core.scopes;
  grown : length l.initial.works.core.store ≤ length l.works.core.store;
  whole : IsWhole l.works;
  templates : templates_of l.works ≡ templates_of l.initial.works;
}
