use Rattle.ng_link.specs.State.{state_of}
use Rattle.ng_value.specs.Snaps.{snap_of}
use Rattle.ng_page.proofs.KeptKinds.{kept_there, plain_before}
use Rattle.ng_page.proofs.testing.fire.Goals as goal

pub end_of-requires : goal.end_of-requires
end_of-requires c =
    record { there = λ q. kept_there c.args.key.now (snap_of c.args.snapshot) (state_of c.args.works.now) (state_of c.fire.new.works) (c.in_ok-fired.ensures.quiet q) c.requires.there }

pub returns-clause-quiet : goal.returns-clause-quiet
returns-clause-quiet c = λ q.
    let both = c.end_of.ensures.quiet q in
    let same = c.in_ok-fired.ensures.quiet both.0 in
    (same, plain_before c.args.key.now (snap_of c.args.snapshot) (state_of c.args.works.now) (state_of c.fire.new.works) same both.1)
