-- A text that is a program as a whole, as that of `ng-init` or of an event: it may do something, and no mark of a one-time binding
-- stands before it (API: ngInit, ngClick).
use Rattle.std.specs.Prelude.{ℕ, List, length, encode_utf8_all, Option, None, Some, Result, Ok, Err, if◌then◌else◌}
use Rattle.ng_base.specs.Meets.{◌>>=◌}
use Rattle.ng_language.specs.Lexing.{lexed}
use Rattle.ng_language.specs.Parsing.{parsed}
use Rattle.ng_language.specs.Trees.{Trees}
use Rattle.ng_language.specs.declared.syntax.Token.{Token}
use Rattle.ng_language.specs.declared.syntax.LexFault.{LexFault}
use Rattle.ng_language.specs.declared.syntax.ParseFault.{ParseFault}
use Rattle.ng_evaluation.specs.Purity.{all_filters_known}
use Rattle.ng_directives.specs.Texts.{refused}
use Rattle.ng_directives.specs.declared.fault.TplFault.{TplFault}
use Rattle.ng_directives.specs.declared.fault.TplKind.{TplKind}
use Rattle.ng_directives.specs.declared.fault.TplKind.TheVariants.{Expression, UnknownFilter}

abbrev pub parsed_program : Result Trees ParseFault → Option Trees
parsed_program (Ok b) = Some b
parsed_program (Err f) = None

abbrev pub lexed_program : ℕ → Result (List Token × List ℕ) LexFault → Option Trees
lexed_program end (Ok ts) = parsed_program (parsed ts.0 ts.1 end)
lexed_program end (Err f) = None

-- the program that a text spells, if it is in the grammar
abbrev pub program_in : List ℕ → Option Trees
program_in t = lexed_program (length (encode_utf8_all t)) (lexed (length (encode_utf8_all t)) t)

-- what is wrong with it: it is not in the grammar, or a filter of it isn't there with its number of arguments
abbrev pub program_refusal : Option Trees → Option TplKind
program_refusal None = Some Expression
program_refusal (Some b) = if all_filters_known b then None else Some UnknownFilter

-- the program of a text that begins at a place, if it is in the grammar
abbrev pub spelled : ℕ → Option Trees → Result Trees TplFault
spelled place None = Err (refused Expression place)
spelled place (Some b) = Ok b

abbrev pub judged_known : ℕ → Trees → Result Trees TplFault
judged_known place b = if all_filters_known b then Ok b else Err (refused UnknownFilter place)

-- the program of a text that begins at a place, unless something is wrong with it
abbrev pub judged_program : ℕ → Option Trees → Result Trees TplFault
judged_program place o = spelled place o >>= judged_known place
