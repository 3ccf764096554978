use Rattle.std.proofs.Common.{◌≡◌, Bor, Option, Some, None, ap, sym, ◌∙◌}
use Rattle.std.specs.Prelude.{option_map}
use Rattle.ng_build.specs.Controls.{ControlHere, kind_in}
use Rattle.ng_link.specs.Events.{control_at, state_by}
use Rattle.ng_build.specs.HandledOf.{control_of}
use Rattle.ng_link.specs.State.{state_of}
use Rattle.ng_build.specs.declared.controlled.ControlHere as code
use Rattle.ng_link.proofs.works.Works.control_kind.Goals as goal

pub returns-in-None : goal.returns-in-None
returns-in-None c =
    let s = state_of c.args.self.now in
    let none : control_at s c.args.n ≡ None = sym c.entered_control.ensures ∙ ap (option_map (λ (h : Bor code.ControlHere). control_of h.now)) c.in-None.is in
    sym (ap (λ (h : Option ControlHere). kind_in (state_by h s)) none)

pub returns-in-Some : goal.returns-in-Some
returns-in-Some c =
    let s = state_of c.args.self.now in
    let one : control_at s c.args.n ≡ Some (control_of c.in-Some.one.now) = sym c.entered_control.ensures ∙ ap (option_map (λ (h : Bor code.ControlHere). control_of h.now)) c.in-Some.is in
    c.kind_under.ensures ∙ sym (ap (λ (h : Option ControlHere). kind_in (state_by h s)) one)
