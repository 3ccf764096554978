use Rattle.std.proofs.Common.{◌≡◌, length, drop}
use Rattle.ng_language.specs.Views.{ViewStands}
use Rattle.ng_filters.specs.Parts.{member_at}
use Rattle.ng_filters.specs.Seen.{seen}
use Rattle.ng_filters.proofs.parts.member_at.Given as goal

abbrev pub invariant-loop-name : goal.invariant-loop-name
invariant-loop-name l = record { stands : ViewStands (length l.store) (seen l.at); same : member_at l.store (seen l.at) (drop l.name-index l.name-items) ≡ member_at l.store (seen l.v) l.path }
