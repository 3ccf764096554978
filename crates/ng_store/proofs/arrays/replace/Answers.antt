use Rattle.std.proofs.Common.{◌∙◌, ap}
use Rattle.std.specs.List.{splice}
use Rattle.std.specs.Vec.Iter.{into_iter_items, into_iter_steps}
use Rattle.indexmap.proofs.CallerLemmas.{Drains-YieldsInOrder}
use Rattle.ng_store.proofs.arrays.replace.Goals as goal

pub returns-clause-spliced : goal.returns-clause-spliced
returns-clause-spliced c =
    let e = c.in_ok-splice.ensures.items in
    e.4 ∙ ap (splice c.args.items.now.items c.args.from c.args.to) (Drains-YieldsInOrder into_iter_steps into_iter_items e.0 e.1 e.2.3 e.3 ∙ e.2.0)
