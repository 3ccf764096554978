-- How a repeat is spelled: its names, `in`, its source, and where it is tracked `track by` and an expression.
use Rattle.std.specs.Prelude.{◌≡◌, ◌≢◌, ◌≤◌, ℕ, Bool, true, false, List, [], ◌∷◌, ◌++◌, length, encode_utf8_all, codes, Option, None, Some}
use Rattle.std.specs.List.{list_all}
use Rattle.ng_language.specs.Grammar.{IsParsed}
use Rattle.ng_language.specs.Letters.{is_space}
use Rattle.ng_language.specs.OneTime.{one_time_of}
use Rattle.ng_language.specs.Spelling.{Written}
use Rattle.ng_language.specs.Trees.{Trees}
use Rattle.ng_language.specs.declared.syntax.Sign.TheVariants as sign
use Rattle.ng_language.specs.declared.syntax.Token.{Token}
use Rattle.ng_language.specs.declared.syntax.Token.TheVariants as token
use Rattle.ng_blocks.specs.Repeats.{Says, is_blank}
use Rattle.ng_blocks.specs.declared.dividing.Divider.{Divider}
use Rattle.ng_blocks.specs.declared.dividing.Divider.TheVariants.{In, TrackBy}

-- how a divider is written; any white space may stand between `track` and `by`
abbrev pub IsDivider : Divider → List ℕ → Type 0
IsDivider In us = us ≡ codes "in"
IsDivider TrackBy us = (ws : List ℕ) × (us ≡ codes "track" ++ (ws ++ codes "by")) × (ws ≢ []) × (list_all is_space ws ≡ true)

abbrev pub begins_spaced : List ℕ → Bool
begins_spaced [] = false
begins_spaced (c ∷ cs) = is_space c

abbrev pub ends_spaced : List ℕ → Bool
ends_spaced [] = false
ends_spaced (c ∷ []) = is_space c
ends_spaced (c ∷ d ∷ cs) = ends_spaced (d ∷ cs)

-- a divider stands in the text between white space, with this before it and that after it
abbrev pub IsCut : Divider → List ℕ → List ℕ → List ℕ → Type 0
IsCut d cs before after =
    (us : List ℕ) × (cs ≡ before ++ (us ++ after)) × IsDivider d us × (ends_spaced before ≡ true) × (begins_spaced after ≡ true)

-- it is the first
abbrev pub IsFirstCut : Divider → List ℕ → List ℕ → List ℕ → Type 0
IsFirstCut d cs before after = IsCut d cs before after × ((b a : List ℕ) → IsCut d cs b a → length before ≤ length b)

abbrev pub HasNoCut : Divider → List ℕ → Type 0
HasNoCut d cs = (b a : List ℕ) → IsCut d cs b a → ⊥

-- the tokens are a name, or a key and a name in parentheses
abbrev pub IsHead : Option (List ℕ) → List ℕ → List Token → Type 0
IsHead None n ts = ts ≡ token.Name n ∷ []
IsHead (Some k) n ts = ts ≡ token.Sign sign.OpenRound ∷ token.Name k ∷ token.Sign sign.Comma ∷ token.Name n ∷ token.Sign sign.CloseRound ∷ []

-- the text spells these tokens
abbrev pub SpellsTokens : List Token → List ℕ → Type 0
SpellsTokens ts cs = (ps : List ℕ) × Written (length (encode_utf8_all cs)) ts ps cs

abbrev pub IsNames : Option (List ℕ) → List ℕ → List ℕ → Type 0
IsNames key name cs = (ts : List Token) × SpellsTokens ts cs × IsHead key name ts

-- the text is not blank and spells this program
abbrev pub IsExpression : Trees → List ℕ → Type 0
IsExpression b cs = (is_blank cs ≡ false) × ((ts : List Token) × SpellsTokens ts cs × IsParsed b ts)

-- an expression, with `::` before it where it is one-time
abbrev pub IsSource : Bool → Trees → List ℕ → Type 0
IsSource once b cs = (es : List ℕ) × (one_time_of cs ≡ (once, es)) × IsExpression b es

abbrev pub IsTail : Bool → Trees → Option Trees → List ℕ → Type 0
IsTail once source None cs = HasNoCut TrackBy cs × IsSource once source cs
IsTail once source (Some track) cs =
    (a : List ℕ) × (b : List ℕ) × IsFirstCut TrackBy cs a b × IsSource once source a × IsExpression track b

abbrev pub IsRepeat : Says → List ℕ → Type 0
IsRepeat r cs =
    (head : List ℕ) × (rest : List ℕ) × IsFirstCut In cs head rest × IsNames r.key r.name head × IsTail r.one_time r.source r.track rest
