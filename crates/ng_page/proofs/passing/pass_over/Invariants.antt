use Rattle.std.proofs.Common.{◌≡◌, ◌≤◌, ◌+◌, ◌-◌, ℕ, true}
use Rattle.std.specs.Option.{option_copied}
use Rattle.ng_base.specs.declared.path.Key.{Key}
use Rattle.ng_digest.specs.Machine.{above}
use Rattle.ng_link.specs.State as link
use Rattle.ng_watch.specs.Walks.{Arrival, Walks}
use Rattle.ng_page.specs.PageMachine.{page_machine}
use Rattle.ng_page.proofs.passing.pass_over.Given as goal

abbrev pub invariant-keys : goal.invariant-keys
invariant-keys l = record {
  few : l.passed ≤ l.count;
  ahead : (k : Key) → above page_machine (option_copied l.cursor) k ≡ true → above page_machine l.engine.progress.cursor k ≡ true;
  so_far : (n : ℕ) (a : Arrival) → Walks (link.state_of l.engine.works).core.objects (link.state_of l.engine.works).watchers (option_copied l.last) (option_copied l.cursor) n a → Walks (link.state_of l.engine.works).core.objects (link.state_of l.engine.works).watchers (option_copied l.last) l.engine.progress.cursor (l.passed + n) a;
}

abbrev pub decreases-keys : goal.decreases-keys
decreases-keys l = l.count - l.passed
