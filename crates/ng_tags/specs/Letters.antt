-- Characters of tags.
use Rattle.std.specs.Prelude.{Bool, ℕ, ◌+◌, ◌&&◌, ◌||◌, ◌==◌, nat_le, not, if◌then◌else◌}
use Rattle.std.specs.Char.{is_ascii_alphabetic, is_ascii_digit}
use Rattle.ng_base.specs.Codes as char

-- in the name of an element, behind its first letter
abbrev pub is_in_name : ℕ → Bool
is_in_name c = is_ascii_alphabetic c || is_ascii_digit c || c == char.hyphen || c == char.colon || c == char.underscore

-- tab, line feed, form feed and space
abbrev pub is_space : ℕ → Bool
is_space c = c == char.tab || c == char.line_feed || c == char.form_feed || c == char.space

-- in the name of an attribute: no white space, `"`, `'`, `<`, `>`, `/`, `=`
abbrev pub is_in_attribute : ℕ → Bool
is_in_attribute c = not (is_space c || c == char.quotation_mark || c == char.apostrophe || c == char.less_than_sign || c == char.greater_than_sign || c == char.slash || c == char.equals_sign)

-- in a value without quotes: no white space, `"`, `'`, `=`, `<`, `>`, backquote
abbrev pub is_bare : ℕ → Bool
is_bare c = not (is_space c || c == char.quotation_mark || c == char.apostrophe || c == char.equals_sign || c == char.less_than_sign || c == char.greater_than_sign || c == char.backquote)

-- a capital letter as a small one
abbrev pub lower : ℕ → ℕ
lower c = if nat_le char.capital_a c && nat_le c char.capital_z then c + 32 else c

-- a letter, `/`, `!` or `?`, which behind a `<` begin a tag
abbrev pub begins_tag : ℕ → Bool
begins_tag c = is_ascii_alphabetic c || c == char.slash || c == char.exclamation_mark || c == char.question_mark
