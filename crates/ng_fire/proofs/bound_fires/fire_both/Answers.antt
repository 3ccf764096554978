use Rattle.std.proofs.Common.{◌∙◌, ap, sym}
use Rattle.std.specs.Prelude.{Ok, option_map}
use Rattle.ng_base.specs.ViewOf.{view_of}
use Rattle.ng_bind.specs.declared.flow.Flow.TheVariants.{Still, ToDest, ToParent}
use Rattle.ng_changes.proofs.Answered.{ok_then}
use Rattle.ng_fire.proofs.BoundFires.{both_is, flowed}
use Rattle.ng_fire.specs.Blocks.{Firing}
use Rattle.ng_fire.specs.FireOf.{firing}
use Rattle.ng_parse.specs.ProgramOf.{program}
use Rattle.ng_value.specs.Snaps.{snap_of}
use Rattle.ng_watch.specs.Verdicts.{own_value}
use Rattle.ng_fire.proofs.bound_fires.fire_both.Goals as goal

pub returns-in-Ok-Still-clause-fired : goal.returns-in-Ok-Still-clause-fired
returns-in-Ok-Still-clause-fired c =
    let same = rw c.in-Ok-Still.is at c.in-Ok-Still.field-0-is in
    let w = c.args.works.now in
    let g : Firing = firing w c.args.told.now in
    let own = c.in_ok-own.ensures.value ∙ ap (λ k. own_value w.core.store k c.args.name.now) c.object-object.ensures in
    sym (both_is c.args.scope.0 c.args.name.now c.args.over.0 (option_map program c.args.writes.now) (view_of c.args.value.now) (view_of c.in_ok-own.own) (option_map snap_of c.args.former.now) g (Ok Still) own (flowed c.flow_of-flow.result _ c.in-Ok-Still.field-0 Still c.flow_of-flow.ensures c.in-Ok-Still.is same))

pub returns-in-Ok-ToDest-clause-fired : goal.returns-in-Ok-ToDest-clause-fired
returns-in-Ok-ToDest-clause-fired c =
    let same = rw c.in-Ok-ToDest.is at c.in-Ok-ToDest.field-0-is in
    let w = c.args.works.now in
    let g : Firing = firing w c.args.told.now in
    let own = c.in_ok-own.ensures.value ∙ ap (λ k. own_value w.core.store k c.args.name.now) c.object-object.ensures in
    ok_then c.write_value.result c.write_value.ensures.fired
    (λ e. e
    ∙ sym (both_is c.args.scope.0 c.args.name.now c.args.over.0 (option_map program c.args.writes.now) (view_of c.args.value.now) (view_of c.in_ok-own.own) (option_map snap_of c.args.former.now) g (Ok ToDest) own (flowed c.flow_of-flow.result _ c.in-Ok-ToDest.field-0 ToDest c.flow_of-flow.ensures c.in-Ok-ToDest.is same)))

pub returns-in-Ok-ToParent-clause-fired : goal.returns-in-Ok-ToParent-clause-fired
returns-in-Ok-ToParent-clause-fired c =
    let same = rw c.in-Ok-ToParent.is at c.in-Ok-ToParent.field-0-is in
    let w = c.args.works.now in
    let g : Firing = firing w c.args.told.now in
    let own = c.in_ok-own.ensures.value ∙ ap (λ k. own_value w.core.store k c.args.name.now) c.object-object.ensures in
    ok_then c.write_parent.result c.write_parent.ensures.fired
    (λ e. e
    ∙ sym (both_is c.args.scope.0 c.args.name.now c.args.over.0 (option_map program c.args.writes.now) (view_of c.args.value.now) (view_of c.in_ok-own.own) (option_map snap_of c.args.former.now) g (Ok ToParent) own (flowed c.flow_of-flow.result _ c.in-Ok-ToParent.field-0 ToParent c.flow_of-flow.ensures c.in-Ok-ToParent.is same)))
