-- A walked list: entries under rising serials, the last serial given, and walks, each with a place and an end.
use Rattle.std.specs.Prelude.{ℕ, ◌<◌, ◌≤◌, ◌≡◌, Bool, ◌&&◌, eqb, not, List, [], ◌∷◌, Option, Some, None, refl, slice_index_or, slice_set, IsSome, count_by, is_some}
use Rattle.std.specs.List.{filter}
use Rattle.std.specs.Map.{lookup}
use Rattle.std.specs.Coded.{Coded, code_by, coded×, coded_ℕ, coded_list, coded_option}
use Rattle.ng_base.specs.declared.name.Serial.{Serial}
use Rattle.ng_chain.specs.declared.chain.Token.{Token}
use Rattle.ng_chain.specs.declared.chain.Span.{Span}

-- what a chain stands for; in each of the places for walks stands the walk that is open there
pub record Walked (T : Type 0) : Type 0 where
  pub entries : List (Token × T)
  pub last : ℕ
  pub walks : List (Option Span)

abbrev pub token_code : Coded Token
token_code = code_by (ℕ × ℕ) (coded× coded_ℕ coded_ℕ) (λ t. (t.serial.0, t.slot)) (λ p. record { serial = record { 0 = p.0 }; slot = p.1 }) (λ _. refl)

abbrev pub span_code : Coded Span
span_code = code_by (ℕ × ℕ) (coded× coded_ℕ coded_ℕ) (λ s. (s.place, s.end)) (λ p. record { place = p.0; end = p.1 }) (λ _. refl)

abbrev pub walked_code : {T : Type 0} → Coded T → Coded (Walked T)
walked_code {T} c =
    code_by (List (Token × T) × (ℕ × List (Option Span))) (coded× (coded_list (coded× token_code c)) (coded× coded_ℕ (coded_list (coded_option span_code)))) (λ w. (w.entries, (w.last, w.walks))) (λ p. record { entries = p.0; last = p.1.0; walks = p.1.1 }) (λ _. refl)

abbrev pub serial_of : Token → ℕ
serial_of t = t.serial.0

abbrev pub same_token : Token → Token → Bool
same_token t u = eqb (serial_of t) (serial_of u) && eqb t.slot u.slot

-- the value under a serial
abbrev pub found : {T : Type 0} → List (Token × T) → ℕ → Option T
found es s = lookup (λ t. eqb s (serial_of t)) es

-- the value of a token
abbrev pub value_of : {T : Type 0} → List (Token × T) → Token → Option T
value_of es t = lookup (same_token t) es

-- the entries but that of a serial
abbrev pub without : {T : Type 0} → ℕ → List (Token × T) → List (Token × T)
without s es = filter (λ e. not (eqb s (serial_of e.0))) es

-- serials rise, and stand above k and not above n
abbrev pub IsRising : {T : Type 0} → ℕ → ℕ → List (Token × T) → Type 0
IsRising k n [] = Unit {0}
IsRising k n (e ∷ es) = (k < serial_of e.0) × (serial_of e.0 ≤ n) × IsRising (serial_of e.0) n es

-- the walk that is open in a place
abbrev pub walk_at : List (Option Span) → ℕ → Option Span
walk_at ws k = slice_index_or ws k None

-- one walk is opened, moved or closed
abbrev pub with_walk : {T : Type 0} → Walked T → ℕ → Option Span → Walked T
with_walk c k w = record { entries = c.entries; last = c.last; walks = slice_set c.walks k w }

abbrev pub with_entries : {T : Type 0} → Walked T → List (Token × T) → Walked T
with_entries c es = record { entries = es; last = c.last; walks = c.walks }

abbrev pub open_walks : List (Option Span) → ℕ
open_walks ws = count_by is_some ws

-- nothing stands above a place and not above an end
abbrev pub NothingAhead : {T : Type 0} → List (Token × T) → ℕ → ℕ → Type 0
NothingAhead es p e = (s : ℕ) → p < s → s ≤ e → found es s ≡ None

-- the least serial that stands above a place and not above an end
pub record IsNext {T : Type 0} (es : List (Token × T)) (p e s : ℕ) : Type 0 where
  pub above : p < s
  pub within : s ≤ e
  pub stands : IsSome (found es s)
  pub least : (r : ℕ) → p < r → r < s → found es r ≡ None

-- a step of a walk
abbrev pub Steps : {T : Type 0} → List (Token × T) → Option Span → Option Serial → Option Span → Type 0
Steps es None r new = Unit {0}
Steps es (Some w) None new = NothingAhead es w.place w.end × (new ≡ Some w)
Steps es (Some w) (Some s) new = IsNext es w.place w.end s.0 × (new ≡ Some (record { place = s.0; end = w.end }))
