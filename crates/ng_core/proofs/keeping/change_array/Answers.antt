use Rattle.std.proofs.Common.{rules, length}
use Rattle.ng_base.specs.Views.{views_list}
use Rattle.ng_base.specs.ViewOf.{views_of}
use Rattle.ng_core.proofs.Targets.{values_stand}
use Rattle.ng_core.proofs.keeping.change_array.Goals as goal

pub change_array-requires-clause-args : goal.change_array-requires-clause-args
change_array-requires-clause-args c =
    let s = values_stand (length c.args.core.now.store) (views_list (views_of c.args.args.now)) c.requires.args in
    search (rules, s)
