-- Words that the laws of picked directives use.
use Rattle.std.specs.Prelude.{List, filter, find}
use Rattle.ng_collect.specs.declared.definition.DirectiveDef.{DirectiveDef}
use Rattle.ng_collect.specs.declared.pick.Pick.{Pick}
use Rattle.ng_collect.specs.Sorted.{is_before, in_order, is_terminal, reaches}

-- picked directives in order
abbrev pub sorted : List Pick → List Pick
sorted ps = in_order is_before ps

-- all of them but those whose priority is below that of the first terminal one
abbrev pub not_left_out : List DirectiveDef → List Pick → List Pick
not_left_out defs ps = filter (reaches (find (is_terminal defs) (sorted ps))) (sorted ps)
