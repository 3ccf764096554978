use Rattle.std.proofs.Common.{◌≡◌, drop, map}
use Rattle.ng_drawing.specs.Drawing.{render_pieces}
use Rattle.ng_parts.specs.PieceOf.{piece_of}
use Rattle.ng_render.specs.OverOf.{now_over}
use Rattle.ng_render.proofs.Walks.{behind, joined}
use Rattle.ng_render.proofs.texts.joined_text.Given as goal

abbrev pub invariant-loop-piece : goal.invariant-loop-piece
invariant-loop-piece l = behind joined l.text (render_pieces (now_over l.over) (map piece_of (drop l.piece-index l.piece-items))) ≡ render_pieces (now_over l.over) (map piece_of l.piece-items)
