use Rattle.ng_base.specs.ViewOf.{view_of, views_of}
use Rattle.ng_filters.proofs.Stands.{applied_stands}
use Rattle.ng_filters.proofs.dispatch.apply.Goals as goal

pub returns-clause-stands : goal.returns-clause-stands
returns-clause-stands c = applied_stands c.args.store.now c.args.name.now (view_of c.args.input.now) (views_of c.args.args.now) (view_of c.in_ok-view.view) c.sound.ensures c.requires.input c.in_ok-view.ensures
