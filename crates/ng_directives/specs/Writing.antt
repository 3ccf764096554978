-- The model of a control (API: ngModel): its text is a name or a member, and what is put in is written by the program that the text spells with
-- `=` and a name behind it. That name is a local which has what was put in; no text spells it. What a binding writes back is written so, too.
use Rattle.std.specs.Prelude.{ℕ, Bool, false, not, ◌&&◌, List, [], ◌∷◌, ◌++◌, length, encode_utf8_all, codes, Option, None, Some, Result, Ok, Err, if◌then◌else◌}
use Rattle.std.specs.List.{list_all}
use Rattle.ng_interp.specs.Parts as interp
use Rattle.ng_interp.specs.Parts.{Piece, words, hole}
use Rattle.ng_interp.specs.declared.pieces.InterpFault.{InterpFault}
use Rattle.ng_interp.specs.declared.pieces.InterpKind.TheVariants as interp_kinds
use Rattle.ng_language.specs.Lexing.{lexed}
use Rattle.ng_language.specs.Parsing.{parsed}
use Rattle.ng_language.specs.Reading.{is_assignable}
use Rattle.ng_language.specs.Trees.{Trees, no_trees, tree_then}
use Rattle.ng_language.specs.declared.syntax.LexFault.{LexFault}
use Rattle.ng_language.specs.declared.syntax.ParseKind.TheVariants as parse_kinds
use Rattle.ng_language.specs.declared.syntax.Sign.TheVariants as signs
use Rattle.ng_language.specs.declared.syntax.Token.{Token}
use Rattle.ng_language.specs.declared.syntax.Token.TheVariants as tokens
use Rattle.ng_directives.specs.Programs.{parsed_program}
use Rattle.ng_directives.specs.Texts.{refused}
use Rattle.ng_directives.specs.declared.fault.TplFault.{TplFault}
use Rattle.ng_directives.specs.declared.fault.TplKind.TheVariants.{Expression}

-- the local that has what was put in
abbrev pub input_name : List ℕ
input_name = codes "="

-- the tokens of a text, with `=` and that name behind them
abbrev pub writing_tokens : List Token → List Token
writing_tokens ts = ts ++ (tokens.Sign signs.Assign ∷ (tokens.Name input_name ∷ []))

abbrev pub writing_places : ℕ → List ℕ → List ℕ
writing_places end ps = ps ++ (end ∷ (end ∷ []))

abbrev pub lexed_writing : ℕ → Result (List Token × List ℕ) LexFault → Option Trees
lexed_writing end (Ok ts) = parsed_program (parsed (writing_tokens ts.0) (writing_places end ts.1) end)
lexed_writing end (Err f) = None

-- the program that writes what was put in, where the text may be written to
abbrev pub writing_in : List ℕ → Option Trees
writing_in t = lexed_writing (length (encode_utf8_all t)) (lexed (length (encode_utf8_all t)) t)

abbrev pub judged_writing : ℕ → Option Trees → Result Trees TplFault
judged_writing place None = Err (refused Expression place)
judged_writing place (Some b) = Ok b

-- one name or member
abbrev pub is_named : Trees → Bool
is_named (tree_then t no_trees) = is_assignable t
is_named _ = false

-- the program that writes to an expression as a whole, which is this one, where that is one name or member (API: `$compile`, `scope`, `=`)
abbrev pub writing_back : List ℕ → Trees → Option Trees
writing_back t p = if is_named p then writing_in t else None

abbrev pub is_named_piece : Piece → Bool
is_named_piece (words t) = false
is_named_piece (hole once p) = not once && is_named p

abbrev pub not_named : InterpFault
not_named = interp.fault (interp_kinds.Parse parse_kinds.NotAssignable) 0

-- the parts of a model's text, unless it is something else
abbrev pub named_only : List Piece → Result (List Piece) InterpFault
named_only ps = if list_all is_named_piece ps then Ok ps else Err not_named
