-- The statements that a program of the code stands for.
use Rattle.std.specs.Prelude.{map}
use Rattle.ng_language.specs.Trees.{Trees, trees_from}
use Rattle.ng_parse.specs.TreeOf.{tree}
use Rattle.ng_parse.specs.declared.programs.Program.{Program}

abbrev pub program : Program → Trees
program p = trees_from (map tree p.statements.value.items)
