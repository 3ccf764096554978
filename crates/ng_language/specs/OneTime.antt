-- A binding that begins with `::` is one-time.
use Rattle.std.specs.Prelude.{Bool, true, false, ℕ, List}
use Rattle.ng_base.specs.Codes.{colon}
use Rattle.ng_base.specs.Trimming.{past, trimmed}
use Rattle.ng_language.specs.Letters.{is_space}
use Rattle.ng_language.specs.Choice.{when_some}
use Rattle.ng_language.specs.Lexing.{next_is}

-- without the white space in front
abbrev pub without_front : List ℕ → List ℕ
without_front cs = past is_space cs

abbrev pub one_time : List ℕ → Bool × List ℕ
one_time cs = when_some (next_is colon cs) (λ ds. when_some (next_is colon ds) (λ es. (true, without_front es)) (false, cs)) (false, cs)

-- whether a text is one-time, and its expression
abbrev pub one_time_of : List ℕ → Bool × List ℕ
one_time_of cs = one_time (trimmed is_space cs)
