-- What a call of the parser gave, against the grammar.
use Rattle.std.proofs.Common.{ℕ, List, ◌∙◌, sym, Result, Ok, Err}
use Rattle.std.specs.Prelude.{IfOk}
use Rattle.ng_base.specs.Meets.{Gives}
use Rattle.ng_language.specs.Trees.{Trees}
use Rattle.ng_language.specs.Grammar.{IsParsed}
use Rattle.ng_language.specs.Parsing.{parsed, is_free}
use Rattle.ng_language.proofs.Whole.{parsed_is, parsed_only}
use Rattle.ng_language.specs.declared.syntax.Token.{Token}
use Rattle.ng_language.specs.declared.syntax.ParseFault.{ParseFault}
use Rattle.ng_parse.specs.ProgramOf.{program}
use Rattle.ng_parse.specs.declared.programs.Program.{Program}

pub found : (ts : List Token) (ps : List ℕ) (end : ℕ) (r : Result Program ParseFault) → Gives is_free program (parsed ts ps end) r → IfOk r (λ p. IsParsed (program p) ts)
found ts ps end (Ok p) g = parsed_is (program p) ts ps end g
found ts ps end (Err e) g = tt

pub only : (ts : List Token) (ps : List ℕ) (end : ℕ) (bs : Trees) (r : Result Program ParseFault) → Gives is_free program (parsed ts ps end) r → IsParsed bs ts → Gives is_free program (Ok bs) r
only ts ps end bs (Ok p) g h = sym (parsed_only bs ts ps end h) ∙ g
only ts ps end bs (Err e) g h = λ n. sym (parsed_only bs ts ps end h) ∙ g n
