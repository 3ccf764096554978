use Rattle.std.proofs.Common.{◌≡◌, ℕ, ap, sym, subst, ◌∙◌}
use Rattle.ng_control.specs.State.{checked_in}
use Rattle.ng_dom.specs.Document.{next_name}
use Rattle.ng_link.specs.Calls.{with_control_at}
use Rattle.ng_build.specs.Controls.{Controls}
use Rattle.ng_instances.specs.InstanceOf.{spot_in}
use Rattle.ng_link.specs.State.{state_of, looks_of}
use Rattle.ng_link.specs.Standing.{Standing}
use Rattle.ng_link.specs.declared.works.Works.{Works}
use Rattle.ng_link.proofs.Fired.{control_stands, written_next}
use Rattle.ng_link.proofs.works.Works.take_check.Goals as goal

pub returns-clause-state : goal.returns-clause-state
returns-clause-state c =
    let s = state_of c.args.self.now in
    let k = c.args.key.now in
    let old = c.args.self.now.dom in
    let new = c.show_kept.new.self.dom in
    let cs = c.check_in-value.new.controls.entries in
    let fires = c.in_ok-show_kept.ensures.fires in
    let next : next_name new ≡ next_name old = written_next (looks_of s.watchers s.resting cs) (spot_in c.args.self.now.inner.entries c.args.self.now.instances.entries k) old new fires.dom in
    ap state_of fires.rest
    ∙ (ap (λ (x : Controls). record s { controls = x; next_node = next_name new }) c.check_in-value.ensures.taken ∙ ap (λ (n : ℕ). record (with_control_at checked_in k s) { next_node = n }) next)

pub returns-clause-stands : goal.returns-clause-stands
returns-clause-stands c =
    let fires = c.in_ok-show_kept.ensures.fires in
    λ ts g. let F : Works → Type 0 = λ x. Standing x ts in
    subst F (sym fires.rest) (control_stands c.args.self.now c.check_in-value.new.controls c.show_kept.new.self.dom c.args.key.now checked_in c.check_in-value.ensures.taken fires.dom ts g)
