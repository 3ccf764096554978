use Rattle.std.proofs.Common.{subst, ℕ}
use Rattle.ng_link.specs.Unlinking.{CutsOut}
use Rattle.ng_link.proofs.unlinking.cut_nodes.Goals as goal

pub returns : goal.returns
returns c =
    let told = c.in_ok-empty_group.ensures in
    let cut : CutsOut c.args.anchor c.in-Ok.at c.args.dom.now c.cut_group.new.self = record {
      emptied = c.empty_group.new.self;
      empties = record { reads = told.reads; gone = told.gone; top = told.top; fewer = told.fewer };
      becomes = c.cut_group.ensures.reads;
      stays = c.cut_group.ensures.stays;
    } in
    subst (λ (n : ℕ). CutsOut c.args.anchor n c.args.dom.now c.cut_group.new.self) c.in-Ok.ensures.1 cut
