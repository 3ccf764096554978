use Rattle.std.proofs.Common.{sym, ap, ◌∙◌, false}
use Rattle.std.specs.Str.{chars}
use Rattle.ng_base.specs.Cells.{cells}
use Rattle.ng_base.proofs.RunCells.{plain_cells, reads_as_mark}
use Rattle.ng_base.proofs.reader.Reader.run.Goals as goal

pub returns-clause-front : goal.returns-clause-front
returns-clause-front c =
    let p = plain_cells c.self.inside.total (chars c.plain_front.result.0.now) (chars c.plain_front.result.1.now) c.plain_front.ensures.plain in
    (p.0, sym c.self.view_is ∙ (ap (cells c.self.inside.total false) c.plain_front.ensures.parts ∙ p.1), p.2)

pub returns-clause-longest : goal.returns-clause-longest
returns-clause-longest c = reads_as_mark c.self.inside.total (chars c.plain_front.result.1.now) c.plain_front.ensures.longest
