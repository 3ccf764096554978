-- How the parts of a text are spelled.
use Rattle.std.specs.Prelude.{◌≡◌, ℕ, Bool, List, length, encode_utf8_all, if◌then◌else◌}
use Rattle.std.specs.List.{AllZip, flat_map}
use Rattle.ng_language.specs.Grammar.{IsParsed}
use Rattle.ng_language.specs.OneTime.{one_time_of}
use Rattle.ng_language.specs.Spelling.{Written}
use Rattle.ng_language.specs.Trees.{Trees}
use Rattle.ng_language.specs.declared.syntax.Token.{Token}
use Rattle.ng_interp.specs.Cutting.{cuts_of, written}
use Rattle.ng_interp.specs.Escapes.{unescaped}
use Rattle.ng_interp.specs.Parts.{Piece, words, hole, has_hole}
use Rattle.ng_interp.specs.declared.cutting.Cut.{Cut}
use Rattle.ng_interp.specs.declared.cutting.Cut.TheVariants as cut

-- the text spells this program
abbrev pub IsExpression : Trees → List ℕ → Type 0
IsExpression b cs = (ts : List Token) × (ps : List ℕ) × Written (length (encode_utf8_all cs)) ts ps cs × IsParsed b ts

-- the part of a cut: words as they read, or the program of a hole after its one-time mark
abbrev pub IsPieceOf : Bool → Cut → Piece → Type 0
IsPieceOf escapes (cut.Words t) (words u) = u ≡ (if escapes then unescaped t else t)
IsPieceOf escapes (cut.Words t) (hole once b) = ⊥
IsPieceOf escapes (cut.Hole p t) (words u) = ⊥
IsPieceOf escapes (cut.Hole p t) (hole once b) = (es : List ℕ) × (one_time_of t ≡ (once, es)) × IsExpression b es

-- the text is cut into words and holes that spell it, and each part is that of its cut
abbrev pub AreParts : List Piece → List ℕ → Type 0
AreParts ps t = (flat_map written (cuts_of t) ≡ t) × AllZip (IsPieceOf (has_hole (cuts_of t))) (cuts_of t) ps
