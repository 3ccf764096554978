-- Refusals, and the one that is free: memory was refused.
use Rattle.std.specs.Prelude.{Bool, true, false, ℕ, zero, Option, None, Some}
use Rattle.ng_base.specs.declared.fault.Memory.TheVariants.{Refused}
use Rattle.ng_tags.specs.declared.fault.HtmlFault.{HtmlFault}
use Rattle.ng_tags.specs.declared.fault.HtmlKind.{HtmlKind}
use Rattle.ng_tags.specs.declared.fault.HtmlKind.TheVariants as kind

abbrev pub fault : HtmlKind → ℕ → HtmlFault
fault k p = record { place = p; kind = k }

-- memory was refused, which has no place
abbrev pub refused : HtmlFault
refused = fault (kind.Memory Refused) 0

abbrev pub is_refused : HtmlKind → ℕ → Bool
is_refused (kind.Memory Refused) zero = true
is_refused _ _ = false

abbrev pub is_free : HtmlFault → Bool
is_free f = is_refused f.kind f.place

-- the fault that was met before, or else this one
abbrev pub met_or : Option HtmlFault → HtmlFault → HtmlFault
met_or None g = g
met_or (Some f) g = f

-- the fault that was met first
abbrev pub met_first : Option HtmlFault → Option HtmlFault → Option HtmlFault
met_first None g = g
met_first (Some f) g = Some f
