use Rattle.std.proofs.Common.{◌≡◌, []}
use Rattle.serde_json.specs.View.{members_view}
use Rattle.ng_entries.specs.Entries.{functions_after}
use Rattle.ng_entries.proofs.entries.functions_from.Given as goal

abbrev pub invariant-loop-name : goal.invariant-loop-name
invariant-loop-name l = functions_after l.entries.items (members_view l.name-iterator) ≡ functions_after [] (members_view l.members.entries)
