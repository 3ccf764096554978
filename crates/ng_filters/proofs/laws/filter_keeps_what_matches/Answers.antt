use Rattle.ng_base.specs.ViewOf.{view_of}
use Rattle.ng_filters.proofs.Kept.{filter_is}
use Rattle.ng_filters.proofs.laws.filter_keeps_what_matches.Goals as goal

pub returns : goal.returns
returns c = filter_is c.args.store.now (view_of c.args.input.now) (view_of c.args.pattern.now) (view_of c.args.kept.now) c.requires.array c.requires.pattern c.requires.filtered
