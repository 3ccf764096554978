use Rattle.std.proofs.Common.{◌≡◌, ◌++◌, drop}
use Rattle.ng_parts.specs.FragmentOf.{sites_of}
use Rattle.ng_copies.proofs.including.add_sites.Given as goal

abbrev pub invariant-loop-site : goal.invariant-loop-site
invariant-loop-site l = sites_of l.into.items ++ sites_of (drop l.site-index l.sites) ≡ sites_of l.initial.into.items ++ sites_of l.sites
