-- What a repeat's text says, or why it says nothing.
use Rattle.std.specs.Prelude.{ℕ, Bool, true, false, ◌||◌, List, [], Option, None, Some, length, encode_utf8_all, Result, Ok, Err, if◌then◌else◌}
use Rattle.std.specs.List.{list_all}
use Rattle.std.specs.Option.{option_map}
use Rattle.ng_base.specs.Meets.{◌>>=◌}
use Rattle.ng_language.specs.Choice.{when_some}
use Rattle.ng_language.specs.Letters.{is_space}
use Rattle.ng_language.specs.Lexing.{lexed}
use Rattle.ng_language.specs.OneTime.{one_time_of}
use Rattle.ng_language.specs.Parsing.{parsed}
use Rattle.ng_language.specs.Trees.{Trees}
use Rattle.ng_language.specs.declared.syntax.Token.{Token}
use Rattle.ng_language.specs.declared.syntax.LexFault.{LexFault}
use Rattle.ng_language.specs.declared.syntax.ParseFault.{ParseFault}
use Rattle.ng_parse.specs.ProgramOf.{program}
use Rattle.ng_blocks.specs.Dividing.{cut_from}
use Rattle.ng_blocks.specs.Heads.{head_of}
use Rattle.ng_blocks.specs.declared.dividing.Divider.TheVariants.{In, TrackBy}
use Rattle.ng_blocks.specs.declared.repeats.Head.{Head}
use Rattle.ng_blocks.specs.declared.repeats.Repeat.{Repeat}
use Rattle.ng_blocks.specs.declared.repeats.RepeatFault.{RepeatFault}
use Rattle.ng_blocks.specs.declared.repeats.RepeatFault.TheVariants.{BadRepeat, Expression, Memory}

-- the names of a repeat, whether it is one-time, and its programs
pub record Says : Type 0 where
  pub key : Option (List ℕ)
  pub name : List ℕ
  pub one_time : Bool
  pub source : Trees
  pub track : Option Trees

abbrev pub repeat_of : Repeat → Says
repeat_of r = record { key = r.key; name = r.name; one_time = r.one_time; source = program r.source; track = option_map program r.track }

abbrev pub is_free : RepeatFault → Bool
is_free (Memory m) = true
is_free _ = false

-- what a repeat with these names says
abbrev pub said : Head → Bool → Trees → Option Trees → Says
said h once source track = record { key = h.key; name = h.name; one_time = once; source = source; track = track }

abbrev pub parsed_program : Result Trees ParseFault → Result Trees RepeatFault
parsed_program (Ok b) = Ok b
parsed_program (Err f) = Err Expression

abbrev pub lexed_program : ℕ → Result (List Token × List ℕ) LexFault → Result Trees RepeatFault
lexed_program end (Ok ts) = parsed_program (parsed ts.0 ts.1 end)
lexed_program end (Err f) = Err Expression

-- the program that a text spells
abbrev pub program_of : List ℕ → Result Trees RepeatFault
program_of cs = lexed_program (length (encode_utf8_all cs)) (lexed (length (encode_utf8_all cs)) cs)

-- nothing but white space stands in the text
abbrev pub is_blank : List ℕ → Bool
is_blank cs = list_all is_space cs

abbrev pub untracked : Head → Bool × List ℕ → Result Says RepeatFault
untracked h s = if is_blank s.1 then Err BadRepeat else (program_of s.1 >>= λ b. Ok (said h s.0 b None))

abbrev pub tracked : Head → Bool × List ℕ → List ℕ → Result Says RepeatFault
tracked h s track =
    if is_blank s.1 || is_blank track then Err BadRepeat
    else (program_of s.1 >>= λ b. program_of track >>= λ t. Ok (said h s.0 b (Some t)))

-- what stands after `in`
abbrev pub tail_read : Head → List ℕ → Result Says RepeatFault
tail_read h rest = when_some (cut_from TrackBy [] rest) (λ p. tracked h (one_time_of p.0) p.1) (untracked h (one_time_of rest))

-- what a repeat's text says, or its refusal: the form first, then the expressions
abbrev pub repeat_read : List ℕ → Result Says RepeatFault
repeat_read cs =
    when_some (cut_from In [] cs)
    (λ p. when_some (head_of p.0) (λ h. tail_read h p.1) (Err BadRepeat))
    (Err BadRepeat)
