-- What the blocks round an element stand for in the code.
use Rattle.std.specs.Prelude.{ℕ, List, [], ◌∷◌, map, Option, None, Some, option_map}
use Rattle.ng_drawing.specs.Cases.{Case}
use Rattle.ng_language.specs.Trees.{Trees}
use Rattle.ng_parse.specs.ProgramOf.{program}
use Rattle.ng_parse.specs.declared.programs.Program.{Program}
use Rattle.ng_template.specs.Around.{Inside, is_plain, has_picks, has_template, Before, a_case, a_start, a_repeat, a_block, Block, block_if, block_for, block_named, Around, Found}
use Rattle.ng_template.specs.Compiles.{Outermost, the_case, the_block}
use Rattle.ng_parts.specs.RepeatedOf.{repeated_of}
use Rattle.ng_parts.specs.SiteOf.{site_of}
use Rattle.ng_template.specs.declared.around.Around as code
use Rattle.ng_template.specs.declared.around.Before as code_before
use Rattle.ng_template.specs.declared.around.Before.TheVariants as before
use Rattle.ng_template.specs.declared.around.Block as code_block
use Rattle.ng_template.specs.declared.around.Block.TheVariants.{If, For, Named}
use Rattle.ng_template.specs.declared.around.Case as code_case
use Rattle.ng_template.specs.declared.around.Found as code_found
use Rattle.ng_template.specs.declared.around.Inside as code_inside
use Rattle.ng_template.specs.declared.around.Inside.TheVariants.{Plain, Picks, Template}
use Rattle.ng_template.specs.declared.wrapping.Outermost as code_outermost
use Rattle.ng_template.specs.declared.wrapping.Outermost.TheVariants as outermost

abbrev pub inside_of : code_inside.Inside → Inside
inside_of Plain = is_plain
inside_of (Picks ps) = has_picks ps.items
inside_of (Template ps) = has_template ps.items

abbrev pub programs_of : List Program → List Trees
programs_of ps = map program ps

abbrev pub before_of : code_before.Before → Before
before_of before.Case = a_case
before_of before.Start = a_start
before_of before.Repeat = a_repeat
before_of (before.Block named) = a_block named

abbrev pub block_of : code_block.Block → Block
block_of (If h) = block_if (site_of h)
block_of (For h r) = block_for (site_of h) (repeated_of r)
block_of (Named h starts) = block_named (site_of h) (programs_of starts.items)

abbrev pub blocks_of : List code_block.Block → List Block
blocks_of bs = map block_of bs

abbrev pub case_of : code_case.Case → Case
case_of c = c.text

abbrev pub found_of : code_found.Found → Found
found_of f = (option_map case_of f.case, blocks_of f.heads.items)

abbrev pub around_of : code.Around → Around
around_of a = record { case = option_map case_of a.found.case; heads = blocks_of a.found.heads.items; inside = inside_of a.inside }

abbrev pub outermost_of : code_outermost.Outermost → Outermost
outermost_of (outermost.Case switch c) = the_case switch (case_of c)
outermost_of (outermost.Block b) = the_block (block_of b)

-- the numbers of an anchor's own sites
abbrev pub numbers_of : Option ℕ → List ℕ
numbers_of None = []
numbers_of (Some n) = n ∷ []
