use Rattle.std.proofs.Common.{None, arith}
use Rattle.ng_link.proofs.Same.{core_stands}
use Rattle.ng_link.proofs.works.Works.forget_faults.Goals as goal

pub returns-clause-stands : goal.returns-clause-stands
returns-clause-stands c = core_stands c.args.self.now (record c.args.self.now.core { handed = record { count = 0; first = None } }) (omega arith) (omega arith)

pub returns-clause-sound : goal.returns-clause-sound
returns-clause-sound c = λ s. record { objects = s.objects; parents = s.parents; locals = s.locals; funs = s.funs; tasks = s.tasks; changes = s.changes; depth = s.depth; room = s.room }
