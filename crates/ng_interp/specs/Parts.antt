-- The parts of a text, or its first refusal.
use Rattle.std.specs.Prelude.{ℕ, ◌+◌, ◌-◌, ◌^◌, min, Bool, true, false, List, [], ◌∷◌, ◌++◌, map, length, encode_utf8_all, Result, Ok, Err, if◌then◌else◌}
use Rattle.std.specs.List.{list_any}
use Rattle.ng_base.specs.Meets.{◌>>=◌}
use Rattle.ng_language.specs.Lexing.{lexed}
use Rattle.ng_language.specs.OneTime.{one_time_of, without_front}
use Rattle.ng_language.specs.Parsing.{parsed}
use Rattle.ng_language.specs.Trees.{Trees}
use Rattle.ng_language.specs.declared.syntax.Token.{Token}
use Rattle.ng_language.specs.declared.syntax.LexFault.{LexFault}
use Rattle.ng_language.specs.declared.syntax.LexKind.{LexKind}
use Rattle.ng_language.specs.declared.syntax.LexKind.TheVariants as lex_kinds
use Rattle.ng_language.specs.declared.syntax.ParseFault.{ParseFault}
use Rattle.ng_language.specs.declared.syntax.ParseKind.{ParseKind}
use Rattle.ng_language.specs.declared.syntax.ParseKind.TheVariants as parse_kinds
use Rattle.ng_parse.specs.ProgramOf.{program}
use Rattle.ng_interp.specs.Cutting.{cuts_of}
use Rattle.ng_interp.specs.Escapes.{unescaped}
use Rattle.ng_interp.specs.declared.cutting.Cut.{Cut}
use Rattle.ng_interp.specs.declared.cutting.Cut.TheVariants as cut
use Rattle.ng_interp.specs.declared.pieces.Part.{Part}
use Rattle.ng_interp.specs.declared.pieces.Parts.{Parts}
use Rattle.ng_interp.specs.declared.pieces.Part.TheVariants as part
use Rattle.ng_interp.specs.declared.pieces.InterpFault.{InterpFault}
use Rattle.ng_interp.specs.declared.pieces.InterpKind.{InterpKind}
use Rattle.ng_interp.specs.declared.pieces.InterpKind.TheVariants as kinds

-- plain words, or a hole: whether it is one-time, and its program
pub data Piece : Type 0 where
  words : List ℕ → Piece
  hole : Bool → Trees → Piece

abbrev pub piece_of : Part → Piece
piece_of (part.Words t) = words t
piece_of (part.Hole once p) = hole once (program p)

abbrev pub pieces_of : Parts → List Piece
pieces_of p = map piece_of p.items.items

abbrev pub is_memory : InterpKind → Bool
is_memory (kinds.Memory m) = true
is_memory _ = false

abbrev pub is_free : InterpFault → Bool
is_free f = is_memory f.kind

abbrev pub is_hole : Cut → Bool
is_hole (cut.Words t) = false
is_hole (cut.Hole p t) = true

-- a text that has a hole reads its escapes
abbrev pub has_hole : List Cut → Bool
has_hole cuts = list_any is_hole cuts

-- without the first character
abbrev pub behind_first : List ℕ → List ℕ
behind_first [] = []
behind_first (c ∷ cs) = cs

-- the text of a hole from its expression on
abbrev pub expression_on : Bool → List ℕ → List ℕ
expression_on once t = if once then without_front (behind_first (behind_first (without_front t))) else without_front t

-- how many bytes of a hole's text stand before its expression: white space, and `::` where it is one-time
abbrev pub bytes_before : Bool → List ℕ → ℕ
bytes_before once t = length (encode_utf8_all t) - length (encode_utf8_all (expression_on once t))

-- so many bytes after a place, as far as 64 bits go
abbrev pub place_behind : ℕ → ℕ → ℕ
place_behind place bytes = min (place + bytes) (2 ^ 64 - 1)

abbrev pub fault : InterpKind → ℕ → InterpFault
fault k p = record { place = p; kind = k }

-- a refusal of the lexer at this place of the text
abbrev pub lex_kind_fault : ℕ → LexKind → InterpFault
lex_kind_fault p (lex_kinds.Memory m) = fault (kinds.Memory m) 0
lex_kind_fault p k = fault (kinds.Lex k) p

abbrev pub lex_fault : ℕ → LexFault → InterpFault
lex_fault p f = lex_kind_fault (place_behind p f.place) f.kind

-- a refusal of the parser at this place of the text
abbrev pub parse_kind_fault : ℕ → ParseKind → InterpFault
parse_kind_fault p (parse_kinds.Memory m) = fault (kinds.Memory m) 0
parse_kind_fault p k = fault (kinds.Parse k) p

abbrev pub parse_fault : ℕ → ParseFault → InterpFault
parse_fault p f = parse_kind_fault (place_behind p f.place) f.kind

abbrev pub parsed_at : ℕ → Result Trees ParseFault → Result Trees InterpFault
parsed_at p (Ok b) = Ok b
parsed_at p (Err f) = Err (parse_fault p f)

abbrev pub lexed_at : ℕ → ℕ → Result (List Token × List ℕ) LexFault → Result Trees InterpFault
lexed_at p end (Ok ts) = parsed_at p (parsed ts.0 ts.1 end)
lexed_at p end (Err f) = Err (lex_fault p f)

-- the program of an expression that begins at a place of the text, or its refusal
abbrev pub expression_at : ℕ → List ℕ → Result Trees InterpFault
expression_at p cs = lexed_at p (length (encode_utf8_all cs)) (lexed (length (encode_utf8_all cs)) cs)

-- the hole with this text, one-time or not, and this expression in it
abbrev pub hole_with : ℕ → List ℕ → Bool × List ℕ → Result Piece InterpFault
hole_with p t e = expression_at (place_behind p (bytes_before e.0 t)) e.1 >>= λ b. Ok (hole e.0 b)

-- the hole with this text, which begins at a place
abbrev pub hole_at : ℕ → List ℕ → Result Piece InterpFault
hole_at p t = hole_with p t (one_time_of t)

-- the part of a cut
abbrev pub piece_at : Bool → Cut → Result Piece InterpFault
piece_at escapes (cut.Words t) = Ok (words (if escapes then unescaped t else t))
piece_at escapes (cut.Hole p t) = hole_at p t

-- the parts of cuts, after those that were read
abbrev pub pieces_on : Bool → List Piece → List Cut → Result (List Piece) InterpFault
pieces_on escapes done [] = Ok done
pieces_on escapes done (c ∷ cs) = piece_at escapes c >>= λ p. pieces_on escapes (done ++ p ∷ []) cs

-- the parts of a text, or the refusal of its first hole that has no program
abbrev pub pieces_in : List ℕ → Result (List Piece) InterpFault
pieces_in t = pieces_on (has_hole (cuts_of t)) [] (cuts_of t)

-- words and shown texts in turn
abbrev pub joined : List Piece → List (List ℕ) → List ℕ
joined [] shown = []
joined (words t ∷ ps) shown = t ++ joined ps shown
joined (hole once b ∷ ps) [] = joined ps []
joined (hole once b ∷ ps) (s ∷ shown) = s ++ joined ps shown
