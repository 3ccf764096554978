use Rattle.std.proofs.Common.{sym, ap, ◌∙◌}
use Rattle.ng_events.specs.Stands.{all_heard}
use Rattle.ng_events.proofs.Quiet.{quiet-scope, quiet-nobody, quiet-lists, quiet-leaves}
use Rattle.ng_events.proofs.table.quiet_scope.Goals as goal

pub returns-in-None-clause-lists : goal.returns-in-None-clause-lists
returns-in-None-clause-lists c =
    ap all_heard (sym (quiet-nobody c.args.stands.now.items c.args.names.now c.args.scope (sym c.in-None.ensures.value) c.requires.places c.requires.alone)) ∙ quiet-lists c.args.scope c.args.stands.now.items

pub returns-in-Some-clause-lists : goal.returns-in-Some-clause-lists
returns-in-Some-clause-lists c =
    ap all_heard (c.quiet_lists.ensures.new ∙ quiet-scope c.args.stands.now.items c.args.names.now c.args.scope c.in-Some.places.now (sym c.in-Some.ensures.value) c.quiet_lists.ensures.ordered c.requires.places c.requires.alone)
    ∙ quiet-lists c.args.scope c.args.stands.now.items

pub returns-in-Some-clause-leaves : goal.returns-in-Some-clause-leaves
returns-in-Some-clause-leaves c =
    rw (c.quiet_lists.ensures.new ∙ quiet-scope c.args.stands.now.items c.args.names.now c.args.scope c.in-Some.places.now (sym c.in-Some.ensures.value) c.quiet_lists.ensures.ordered c.requires.places c.requires.alone)
    (quiet-leaves c.args.scope c.args.stands.now.items)
