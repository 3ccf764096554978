-- The program that a row of tokens is, or its one refusal.
use Rattle.std.specs.Prelude.{Bool, true, false, ℕ, suc, ◌+◌, ◌-◌, ◌*◌, ◌&&◌, nat_le, nat_eq, List, [], ◌∷◌, length, slice_index_or, Option, Some, None, Result, Ok, Err, if◌then◌else◌}
use Rattle.ng_base.specs.Meets.{◌>>=◌}
use Rattle.ng_language.specs.Choice.{when_some}
use Rattle.ng_language.specs.Trees.{Tree, Trees, trees_from}
use Rattle.ng_language.specs.Heights.{heights}
use Rattle.ng_language.specs.Reading.{statements}
use Rattle.ng_language.specs.declared.syntax.Sign.TheVariants as sign
use Rattle.ng_language.specs.declared.syntax.Token.{Token}
use Rattle.ng_language.specs.declared.syntax.Token.TheVariants as token
use Rattle.ng_language.specs.declared.syntax.Refusal.{Refusal}
use Rattle.ng_language.specs.declared.syntax.Refusal.TheVariants as refusals
use Rattle.ng_language.specs.declared.syntax.ParseFault.{ParseFault}
use Rattle.ng_language.specs.declared.syntax.ParseKind.{ParseKind}
use Rattle.ng_language.specs.declared.syntax.ParseKind.TheVariants as kinds

abbrev pub is_memory : ParseKind → Bool
is_memory (kinds.Memory m) = true
is_memory _ = false

abbrev pub is_free : ParseFault → Bool
is_free f = is_memory f.kind

abbrev pub parse_fault : ParseKind → ℕ → ParseFault
parse_fault k p = record { place = p; kind = k }

abbrev pub is_opening : Token → Bool
is_opening (token.Sign sign.OpenRound) = true
is_opening (token.Sign sign.OpenSquare) = true
is_opening (token.Sign sign.OpenCurly) = true
is_opening _ = false

abbrev pub is_closing : Token → Bool
is_closing (token.Sign sign.CloseRound) = true
is_closing (token.Sign sign.CloseSquare) = true
is_closing (token.Sign sign.CloseCurly) = true
is_closing _ = false

-- how many brackets are open behind a token
abbrev pub open_behind : Token → ℕ → ℕ
open_behind t n = if is_opening t then suc n else if is_closing t then n - 1 else n

-- the first token behind so many others, with so many brackets open, that is one too many: the 1,001st, or a bracket
-- while 100 are open
abbrev pub one_too_many : ℕ → ℕ → List Token → Option ℕ
one_too_many i n [] = None
one_too_many i n (t ∷ ts) =
    if nat_le 1000 i then Some i
    else if is_opening t && nat_le 100 n then Some i
    else one_too_many (suc i) (open_behind t n) ts

-- a refusal where so many of the tokens are left: at that token, or at the text's end
abbrev pub fault_of : ℕ → List ℕ → ℕ → Refusal → ParseFault
fault_of n ps end (refusals.Unfit left) =
    if nat_eq left 0 then parse_fault kinds.Ended end else parse_fault kinds.Unexpected (slice_index_or ps (n - left) end)
fault_of n ps end (refusals.NotAssignable left) = parse_fault kinds.NotAssignable (slice_index_or ps (n - left) end)
fault_of n ps end (refusals.Memory m) = parse_fault (kinds.Memory m) 0

abbrev pub located : ℕ → List ℕ → ℕ → Result (List Tree) Refusal → Result (List Tree) ParseFault
located n ps end (Ok bs) = Ok bs
located n ps end (Err r) = Err (fault_of n ps end r)

-- statements that are not too high
abbrev pub low : List Tree → Result Trees ParseFault
low bs = if nat_le (heights (trees_from bs)) 100 then Ok (trees_from bs) else Err (parse_fault kinds.TooDeep 0)

-- the program of tokens at these places, in a text that ends there
abbrev pub parsed : List Token → List ℕ → ℕ → Result Trees ParseFault
parsed ts ps end =
    when_some (one_too_many 0 0 ts)
    (λ i. Err (parse_fault kinds.TooDeep (slice_index_or ps i end)))
    (located (length ts) ps end (statements (32 * length ts + 23) [] ts) >>= low)
