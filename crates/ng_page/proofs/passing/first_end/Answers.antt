use Rattle.std.proofs.Common.{◌≡◌, ◌∙◌, Option, Some, List, false, ap, sym, subst}
use Rattle.std.specs.Prelude.{IsSome}
use Rattle.std.specs.List.Sorted.{IsStrictlySortedBy}
use Rattle.std.specs.Map.{keys_of}
use Rattle.std.specs.Option.{option_copied}
use Rattle.ng_base.specs.declared.path.Key.{Key}
use Rattle.ng_link.specs.State as link
use Rattle.ng_behaviour.specs.Keys.{key_cmp}
use Rattle.ng_watch.specs.Table.{found, watchers_of}
use Rattle.ng_watch.specs.Walks.{next_of}
use Rattle.ng_watch.specs.declared.watched.Watched.{Watched}
use Rattle.ng_page.specs.KnownClean.{is_between}
use Rattle.ng_page.proofs.Nearest.{after_over, ends_first}
use Rattle.ng_page.proofs.passing.first_end.Goals as goal

pub returns-else-comes_first : goal.returns-else-comes_first
returns-else-comes_first c =
    let e = c.args.engine.now in
    let s = link.state_of e.works in
    let b : Key = c.args.bound.now in
    let m : Key = c.in-Some.next.now in
    let last = option_copied c.args.last in
    let next : next_of (Some b) s.watchers ≡ Some m = ap (λ (rows : List (Key × Watched)). next_of (Some b) (watchers_of rows)) (sym c.watchers-watchers.ensures) ∙ sym c.in-Some.ensures.key in
    let there : IsSome (found m s.watchers) = subst (λ (rows : List (Key × Watched)). IsSome (found m (watchers_of rows))) c.watchers-watchers.ensures c.in-Some.ensures.there in
    let other : is_between e.progress.cursor last m ≡ false = ap (λ (o : Option Key). is_between o last m) (sym c.cursor.ensures) ∙ (sym c.comes_first.ensures ∙ c.if-comes_first.false) in
    ends_first s.core.objects s.watchers
    (subst (λ (rows : List (Key × Watched)). IsStrictlySortedBy key_cmp (keys_of (watchers_of rows))) c.watchers-watchers.ensures c.count-in_order.ensures.ordered)
    last m there e.progress.cursor (after_over s.watchers e.progress.cursor b m c.requires next) other
