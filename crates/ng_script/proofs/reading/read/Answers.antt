use Rattle.ng_script.proofs.Answered.{found, only, refused, one}
use Rattle.ng_script.proofs.reading.read.Goals as goal

pub returns-clause-found : goal.returns-clause-found
returns-clause-found c = found c.args.bytes.now c.read_bytes.result c.read_bytes.ensures

pub returns-clause-only : goal.returns-clause-only
returns-clause-only c = λ es h. only c.args.bytes.now es c.read_bytes.result c.read_bytes.ensures h

pub returns-clause-refused : goal.returns-clause-refused
returns-clause-refused c = refused c.args.bytes.now c.read_bytes.result c.read_bytes.ensures

pub returns-clause-one : goal.returns-clause-one
returns-clause-one c = λ f h. one c.args.bytes.now f c.read_bytes.result c.read_bytes.ensures h
