-- Characters of expressions.
use Rattle.std.specs.Prelude.{Bool, ℕ, ◌-◌, ◌&&◌, ◌||◌, nat_le, nat_eq, if◌then◌else◌}
use Rattle.std.specs.Char.{is_ascii_alphabetic, is_ascii_digit}
use Rattle.ng_base.specs.Codes.{tab, line_feed, vertical_tab, form_feed, carriage_return, space, quotation_mark, dollar_sign, apostrophe, full_stop, digit_zero, digit_nine, capital_a, capital_e, capital_f, underscore, letter_a, letter_e, letter_f, letter_n, letter_r, letter_t, letter_v, no_break_space}

-- space, CR, tab, LF, VT, and the space that does not break
abbrev pub is_space : ℕ → Bool
is_space c = nat_eq c space || nat_eq c carriage_return || nat_eq c tab || nat_eq c line_feed || nat_eq c vertical_tab || nat_eq c no_break_space

-- a letter, `_` or `$`
abbrev pub begins_name : ℕ → Bool
begins_name c = is_ascii_alphabetic c || nat_eq c underscore || nat_eq c dollar_sign

abbrev pub is_in_name : ℕ → Bool
is_in_name c = begins_name c || is_ascii_digit c

abbrev pub is_quote : ℕ → Bool
is_quote c = nat_eq c apostrophe || nat_eq c quotation_mark

-- a point, or the letter of an exponent
abbrev pub goes_on : ℕ → Bool
goes_on c = nat_eq c full_stop || nat_eq c letter_e || nat_eq c capital_e

abbrev pub is_hex : ℕ → Bool
is_hex c = is_ascii_digit c || (nat_le letter_a c && nat_le c letter_f) || (nat_le capital_a c && nat_le c capital_f)

-- the value of a hexadecimal digit: `A` and `a` are 10
abbrev pub hex_value : ℕ → ℕ
hex_value c = if nat_le c digit_nine then c - digit_zero else if nat_le c capital_f then c - 55 else c - 87

abbrev pub is_surrogate : ℕ → Bool
is_surrogate n = nat_le 0xD800 n && nat_le n 0xDFFF

-- what stands behind a `\` for itself or for a control character
abbrev pub escaped : ℕ → ℕ
escaped c =
    if nat_eq c letter_n then line_feed
    else if nat_eq c letter_f then form_feed
    else if nat_eq c letter_r then carriage_return
    else if nat_eq c letter_t then tab
    else if nat_eq c letter_v then vertical_tab
    else c
