use Rattle.std.proofs.Common.{◌≡◌, map}
use Rattle.ng_parts.specs.SiteOf.{site_of}
use Rattle.ng_watch.specs.Table.{watchers_of}
use Rattle.ng_instances.specs.RowOf.{row_of}
use Rattle.ng_instances.specs.Rows.{with_sites}
use Rattle.ng_instances.proofs.placing.watch_all.Given as goal

abbrev pub invariant-loop-row : goal.invariant-loop-row
invariant-loop-row l = with_sites (map row_of l.row-iterator.rest.items) (map site_of l.left) (watchers_of l.watchers) ≡ with_sites (map row_of l.fn.rows.items) (map site_of l.fn.sites) (watchers_of l.fn.watchers)
