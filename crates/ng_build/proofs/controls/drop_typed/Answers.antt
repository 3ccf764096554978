use Rattle.std.proofs.Common.{ap, sym, ◌∙◌}
use Rattle.ng_control.specs.State.{with_model}
use Rattle.ng_value.specs.Snaps.{snap_of}
use Rattle.ng_build.proofs.ControlSets.{unchanged, changed_set}
use Rattle.ng_build.proofs.controls.drop_typed.Goals as goal

pub returns-in-None : goal.returns-in-None
returns-in-None c =
    ap (λ m. m.entries) c.get_mut.follows.holds-at-none
    ∙ sym (unchanged (λ x. with_model x (snap_of c.args.s.now)) c.args.key.now c.args.controls.now.entries (sym c.in-None.ensures.value))

pub returns-in-Some : goal.returns-in-Some
returns-in-Some c =
    let new = c.model.new.self in
    (c.get_mut.follows.holds new).0
    ∙ changed_set (λ x. with_model x (snap_of c.args.s.now)) c.args.key.now c.args.controls.now.entries c.in-Some.control.now new (sym c.in-Some.ensures.value)
    (c.model.ensures ∙ ap (with_model c.in-Some.control.now) c.view.ensures)
