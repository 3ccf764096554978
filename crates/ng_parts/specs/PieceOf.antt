-- What a piece of the code stands for.
use Rattle.ng_drawing.specs.Template as template
use Rattle.ng_parts.specs.declared.pieces.Piece.{Piece}
use Rattle.ng_parts.specs.declared.pieces.Piece.TheVariants.{Word, Hole}

abbrev pub piece_of : Piece → template.Piece
piece_of (Word w) = template.word w
piece_of (Hole n) = template.hole n
