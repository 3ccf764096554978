use Rattle.std.proofs.Common.{◌≡◌}
use Rattle.serde_json.specs.View.{members_view}
use Rattle.ng_entries.specs.Entries.{has_form}
use Rattle.ng_entries.proofs.entries.has_form.Given as goal

abbrev pub invariant-loop-name : goal.invariant-loop-name
invariant-loop-name l = has_form l.form (members_view l.name-iterator) ≡ has_form l.form (members_view l.members.entries)
