use Rattle.std.proofs.Common.{ap, sym, ◌∙◌}
use Rattle.std.proofs.lemmas.Str.{chars-nil}
use Rattle.ng_blocks.specs.Keys.{text_of}
use Rattle.ng_blocks.proofs.keys.TrackKey.text.Goals as goal

pub returns-in-Place-clause-chars : goal.returns-in-Place-clause-chars
returns-in-Place-clause-chars c = chars-nil ∙ ap text_of (sym c.in-Place.is)
