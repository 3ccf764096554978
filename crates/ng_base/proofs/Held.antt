-- What a text holds spells characters.
use Rattle.std.proofs.Common.{◌≡◌, ◌++◌, ℕ, List, true}
use Rattle.std.proofs.lemmas.Str.{IsUtf8-string_bytes, IsUtf8-from_is_utf8, is_utf8-from_IsUtf8, IsUtf8-append}
use Rattle.std.specs.Str.{IsUtf8, is_utf8}
use Rattle.ng_base.specs.Held.{held_bytes, short_bytes}
use Rattle.ng_base.specs.declared.short.ShortText.{ShortText}
use Rattle.ng_base.specs.declared.txt.Held.{Held}
use Rattle.ng_base.specs.declared.txt.Held.TheVariants.{Short, Long}

pub IsUtf8-short : (text : ShortText) → IsUtf8 (short_bytes text)
IsUtf8-short text = IsUtf8-from_is_utf8 _ text.holds.spelled

pub IsUtf8-held : (held : Held) → IsUtf8 (held_bytes held)
IsUtf8-held (Short text) = IsUtf8-short text
IsUtf8-held (Long text) = IsUtf8-string_bytes text.value

-- with a text after its bytes a short text still spells characters
pub lengthened : (text : ShortText) (bytes rest : List ℕ) → IsUtf8 rest → bytes ≡ short_bytes text ++ rest → is_utf8 bytes ≡ true
lengthened text bytes rest u e = is_utf8-from_IsUtf8 bytes (rw e (IsUtf8-append _ rest (IsUtf8-short text) u))
