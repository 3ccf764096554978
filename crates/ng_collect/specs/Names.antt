-- The name of the directive that a name of an element or an attribute picks (guide: Directives, "Normalization").
use Rattle.std.specs.Prelude.{ℕ, Bool, false, ◌==◌, ◌&&◌, ◌||◌, List, [], ◌∷◌, Option, None, Some, option_and_then, if◌then◌else◌}
use Rattle.std.specs.Char.{is_ascii_uppercase, to_ascii_uppercase}
use Rattle.std.specs.Option.{unwrap_or}
use Rattle.ng_base.specs.Codes.{hyphen, colon, underscore, letter_a, letter_n, letter_t, letter_x}

abbrev pub letter_d : ℕ
letter_d = 100

abbrev pub letter_g : ℕ
letter_g = 103

abbrev pub letter_o : ℕ
letter_o = 111

-- `-`, `:` and `_` join the words of a name
abbrev pub is_joiner : ℕ → Bool
is_joiner c = c == hyphen || c == colon || c == underscore

-- what stands after a character, where that is the first
abbrev pub after : ℕ → List ℕ → Option (List ℕ)
after w [] = None
after w (c ∷ cs) = if c == w then Some cs else None

abbrev pub after_joiner : List ℕ → Option (List ℕ)
after_joiner [] = None
after_joiner (c ∷ cs) = if is_joiner c then Some cs else None

-- what stands after `x` and a joiner, and after `data` and a joiner
abbrev pub after_x : List ℕ → Option (List ℕ)
after_x n = option_and_then after_joiner (after letter_x n)

abbrev pub after_data : List ℕ → Option (List ℕ)
after_data n = option_and_then after_joiner (option_and_then (after letter_a) (option_and_then (after letter_t) (option_and_then (after letter_a) (after letter_d n))))

-- a name without such a front
abbrev pub without_prefix : List ℕ → List ℕ
without_prefix n = unwrap_or (after_x n) (unwrap_or (after_data n) n)

-- a name without the joiners at its front
abbrev pub past_joiners : List ℕ → List ℕ
past_joiners [] = []
past_joiners (c ∷ cs) = if is_joiner c then past_joiners cs else c ∷ cs

-- a character after a joiner is in upper case; some joiners in a row are one, and one at the end stays
abbrev pub cased : Option ℕ → ℕ → ℕ
cased None c = c
cased (Some joiner) c = to_ascii_uppercase c

abbrev pub camel_from : Option ℕ → List ℕ → List ℕ
camel_from None [] = []
camel_from (Some joiner) [] = joiner ∷ []
camel_from held (c ∷ cs) = if is_joiner c then camel_from (Some c) cs else cased held c ∷ camel_from None cs

abbrev pub camel : List ℕ → List ℕ
camel [] = []
camel (c ∷ cs) = c ∷ camel_from None cs

-- the name of the directive that a name picks
abbrev pub directive_name : List ℕ → List ℕ
directive_name n = camel (past_joiners (without_prefix n))

-- names that begin with `ng` and an upper-case letter are the core's
abbrev pub begins_upper : List ℕ → Bool
begins_upper [] = false
begins_upper (c ∷ cs) = is_ascii_uppercase c

abbrev pub begins_g : List ℕ → Bool
begins_g [] = false
begins_g (c ∷ cs) = c == letter_g && begins_upper cs

abbrev pub is_core : List ℕ → Bool
is_core [] = false
is_core (c ∷ cs) = c == letter_n && begins_g cs

-- names that begin with `on` are those of a browser's events
abbrev pub begins_n : List ℕ → Bool
begins_n [] = false
begins_n (c ∷ cs) = c == letter_n

abbrev pub begins_on : List ℕ → Bool
begins_on [] = false
begins_on (c ∷ cs) = c == letter_o && begins_n cs
