use Rattle.std.proofs.Common.{◌≡◌}
use Rattle.serde_json.specs.View.{members_view}
use Rattle.ng_app.specs.App.{are_known}
use Rattle.ng_app.proofs.reading.all_known.Given as goal

abbrev pub invariant-loop-name : goal.invariant-loop-name
invariant-loop-name l = are_known (members_view l.name-iterator) ≡ are_known (members_view l.members.entries)
