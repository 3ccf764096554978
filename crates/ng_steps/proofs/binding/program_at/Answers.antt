use Rattle.ng_parse.specs.ProgramOf.{program}
use Rattle.ng_parts.proofs.Lookups.{lookup_seen}
use Rattle.ng_steps.proofs.binding.program_at.Goals as goal

pub returns : goal.returns
returns c = lookup_seen program c.args.programs.now c.args.n c.get.result c.get.ensures.lookup
