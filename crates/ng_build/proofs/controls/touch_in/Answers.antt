use Rattle.std.proofs.Common.{ap, sym, ◌∙◌}
use Rattle.ng_control.specs.State.{after_touch}
use Rattle.ng_build.proofs.ControlSets.{unchanged, changed_set}
use Rattle.ng_build.proofs.controls.touch_in.Goals as goal

pub returns-in-None : goal.returns-in-None
returns-in-None c =
    ap (λ m. m.entries) c.get_mut.follows.holds-at-none ∙ sym (unchanged after_touch c.args.key.now c.args.controls.now.entries (sym c.in-None.ensures.value))

pub returns-in-Some : goal.returns-in-Some
returns-in-Some c =
    let new = c.touch.new.self in
    (c.get_mut.follows.holds new).0 ∙ changed_set after_touch c.args.key.now c.args.controls.now.entries c.in-Some.control.now new (sym c.in-Some.ensures.value) c.touch.ensures
