use Rattle.std.proofs.Common.{◌≡◌}
use Rattle.serde_json.specs.View.{members_view}
use Rattle.ng_write.specs.Facts.{facts_are_whole}
use Rattle.ng_write.proofs.facts.facts_are_whole.Given as goal

abbrev pub invariant-loop-name : goal.invariant-loop-name
invariant-loop-name l = facts_are_whole (members_view l.name-iterator) ≡ facts_are_whole (members_view l.facts.entries)
