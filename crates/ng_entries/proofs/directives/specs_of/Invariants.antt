use Rattle.std.proofs.Common.{◌≡◌, []}
use Rattle.serde_json.specs.View.{members_view}
use Rattle.ng_entries.specs.DirectiveEntries.{specs_after}
use Rattle.ng_entries.proofs.directives.specs_of.Given as goal

abbrev pub invariant-loop-name : goal.invariant-loop-name
invariant-loop-name l = specs_after l.specs (members_view l.name-iterator) ≡ specs_after [] (members_view l.members.entries)
