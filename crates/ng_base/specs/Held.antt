-- The characters that a text holds, in bytes.
use Rattle.std.specs.Prelude.{ℕ, List, take}
use Rattle.std.specs.String.{string_bytes}
use Rattle.ng_base.specs.declared.short.ShortText.{ShortText}
use Rattle.ng_base.specs.declared.txt.Held.{Held}
use Rattle.ng_base.specs.declared.txt.Held.TheVariants.{Short, Long}

-- the bytes of a short text stand at the front of its room
abbrev pub short_bytes : ShortText → List ℕ
short_bytes text = take text.len text.bytes

abbrev pub held_bytes : Held → List ℕ
held_bytes (Short text) = short_bytes text
held_bytes (Long text) = string_bytes text.value
