-- Texts with references, up to what ends them.
use Rattle.std.specs.Prelude.{Bool, false, ℕ, zero, suc, ◌==◌, ◌&&◌, not, List, [], ◌∷◌, ◌++◌, length, Option, None, Some, is_some, option_and_then, if◌then◌else◌}
use Rattle.std.specs.Str.{bytes_eq}
use Rattle.ng_base.specs.Codes as char
use Rattle.ng_base.specs.Cells.{Cell}
use Rattle.ng_tags.specs.Free.{fault, met_or}
use Rattle.ng_tags.specs.Letters as letters
use Rattle.ng_tags.specs.Letters.{is_bare}
use Rattle.ng_tags.specs.Skips.{past, past_spaces, name_run}
use Rattle.ng_tags.specs.References.{character}
use Rattle.ng_tags.specs.declared.fault.HtmlFault.{HtmlFault}
use Rattle.ng_tags.specs.declared.fault.HtmlKind.TheVariants as kind
use Rattle.ng_tags.specs.declared.texts.Decoded.{Decoded}
use Rattle.ng_tags.specs.declared.until.Until.{Until}
use Rattle.ng_tags.specs.declared.until.Until.TheVariants as until

-- whether a `<` with this behind it begins a tag
abbrev pub tag_follows : List Cell → Bool
tag_follows [] = false
tag_follows (c ∷ cs) = letters.begins_tag c.0

abbrev pub past_name : List ℕ → List ℕ × List Cell → Option (List Cell)
past_name n r = if bytes_eq n r.0 then past char.greater_than_sign (past_spaces r.1) else None

-- behind the end tag of this name, where its `<` stands before
abbrev pub past_end_tag : List ℕ → List Cell → Option (List Cell)
past_end_tag n cs = option_and_then (λ ds. past_name n (name_run [] ds)) (past char.slash cs)

-- whether a text ends before this character, with that behind it
abbrev pub ends : Until → ℕ → List Cell → Bool
ends until.Tag c cs = c == char.less_than_sign && tag_follows cs
ends until.Double c cs = c == char.quotation_mark
ends until.Single c cs = c == char.apostrophe
ends until.Space c cs = not (is_bare c)
ends (until.EndTag n) c cs = c == char.less_than_sign && is_some (past_end_tag n cs)

-- whether a text may end before this character
abbrev pub may_end : Until → ℕ → Bool
may_end until.Tag c = c == char.less_than_sign
may_end until.Double c = c == char.quotation_mark
may_end until.Single c = c == char.apostrophe
may_end until.Space c = not (is_bare c)
may_end (until.EndTag n) c = c == char.less_than_sign

-- whether it goes on with this character as it is, whatever stands behind it
abbrev pub goes_on : Until → ℕ → Bool
goes_on u c = not (c == char.ampersand) && not (may_end u c)

abbrev pub decoded : List ℕ → Option HtmlFault → Decoded
decoded t f = record { text = t; fault = f }

abbrev pub no_text : Decoded
no_text = decoded [] None

-- a character more, or a reference that is refused at its place
abbrev pub with_character : Decoded → ℕ → Option ℕ → Decoded
with_character d p (Some x) = decoded (d.text ++ x ∷ []) d.fault
with_character d p None = decoded d.text (Some (met_or d.fault (fault kind.BadReference p)))

abbrev pub text_within : ℕ → Until → Decoded → List Cell → Decoded × List Cell
text_within zero u d cs = (d, cs)
text_within (suc k) u d [] = (d, [])
text_within (suc k) u d (c ∷ cs) =
    if ends u c.0 cs then (d, c ∷ cs)
    else text_within k u (with_character d c.1 (character c.0 cs).0) (character c.0 cs).1

-- the text up to what ends it, behind what was read, and what is left
abbrev pub text_from : Until → Decoded → List Cell → Decoded × List Cell
text_from u d cs = text_within (suc (length cs)) u d cs

abbrev pub text_run : Until → List Cell → Decoded × List Cell
text_run u cs = text_from u no_text cs
