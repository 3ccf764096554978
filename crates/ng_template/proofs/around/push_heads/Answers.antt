use Rattle.std.proofs.Common.{arith, sym, ◌∙◌}
use Rattle.ng_template.specs.Around.{at_place, heads_of, heads_onto}
use Rattle.ng_template.specs.AroundOf.{blocks_of, programs_of}
use Rattle.ng_template.proofs.Blocks.{heads-turn, heads-refused, gives_err}
use Rattle.ng_template.proofs.around.push_heads.Goals as goal

pub returns-in_err-starts : goal.returns-in_err-starts
returns-in_err-starts c =
    gives_err _ (at_place c.args.place (heads_onto (blocks_of c.args.heads.now.items) (heads_of c.args.picks.now))) c.from_residual.result c.in_err-starts.field-0.0 c.from_residual.ensures.1
    (λ m. sym c.loop-pick.invariant ∙ heads-refused c.args.place c.args.picks.now c.loop-pick.pick-index c.pick-item.result (omega arith) c.pick-item.is (programs_of c.loop-pick.starts.items) (blocks_of c.loop-pick.heads.items) c.in_err-starts.field-0.0 (c.in_err-starts.ensures m))

pub loop-pick-preserved : goal.loop-pick-preserved
loop-pick-preserved c =
    heads-turn c.args.place c.args.picks.now c.loop-pick.pick-index c.pick-item.result (omega arith) c.pick-item.is (programs_of c.loop-pick.starts.items) (blocks_of c.loop-pick.heads.items)
    (programs_of c.in_ok-starts.starts.items, blocks_of c.push_head.new.heads.items) c.in_ok-starts.ensures
    ∙ c.loop-pick.invariant
