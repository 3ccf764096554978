use Rattle.ng_parse.proofs.Laws.{found, only}
use Rattle.ng_parse.proofs.parsing.parse.Goals as goal

pub returns-clause-found : goal.returns-clause-found
returns-clause-found c = let t = c.args.t.now in found t.tokens.items t.places.items t.end c.read_program.result c.read_program.ensures

pub returns-clause-only : goal.returns-clause-only
returns-clause-only c = λ bs h. let t = c.args.t.now in only t.tokens.items t.places.items t.end bs c.read_program.result c.read_program.ensures h
