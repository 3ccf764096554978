use Rattle.std.proofs.Common.{◌≡◌, ◌++◌, drop, map}
use Rattle.std.specs.List.{filter}
use Rattle.ng_template.specs.Around.{worded}
use Rattle.ng_directives.specs.Manners.{is_read}
use Rattle.ng_template.proofs.wording.all_worded.Given as goal

abbrev pub invariant-loop-p : goal.invariant-loop-p
invariant-loop-p l = l.all.items ++ map (worded l.attrs) (filter (is_read l.modelled) (drop l.p-index l.picks)) ≡ map (worded l.attrs) (filter (is_read l.modelled) l.picks)
