use Rattle.std.proofs.Common.{◌≡◌, []}
use Rattle.serde_json.specs.View.{members_view}
use Rattle.ng_entries.specs.Entries.{templates_after}
use Rattle.ng_entries.proofs.entries.templates_from.Given as goal

abbrev pub invariant-loop-name : goal.invariant-loop-name
invariant-loop-name l = templates_after l.entries.items (members_view l.name-iterator) ≡ templates_after [] (members_view l.members.entries)
