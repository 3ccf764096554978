use Rattle.std.proofs.Common.{◌≡◌, map, drop}
use Rattle.std.specs.List.{list_any}
use Rattle.ng_template.specs.Around.{names_template}
use Rattle.ng_template.specs.AroundOf.{block_of}
use Rattle.ng_template.proofs.around.any_named.Given as goal

abbrev pub invariant-loop-block : goal.invariant-loop-block
invariant-loop-block l = list_any names_template (map block_of (drop l.block-index l.heads)) ≡ list_any names_template (map block_of l.heads)
