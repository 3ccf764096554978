use Rattle.std.proofs.Common.{◌∙◌, ◌<◌, List, Option, ap, length, subst, sym}
use Rattle.ng_base.specs.declared.fault.Fault.{Fault}
use Rattle.ng_link.specs.State.{state_of}
use Rattle.ng_drawing.specs.Named.{Named}
use Rattle.ng_page.specs.Opening.{linked_by}
use Rattle.ng_page.proofs.Prepared.{whole_told}
use Rattle.ng_page.proofs.opening.tell.Goals as goal

pub returns-in-None : goal.returns-in-None
returns-in-None c = record {
  state = sym (ap (λ (o : Option Fault). linked_by o (state_of c.args.works.now)) c.in-None.is);
  works = λ h. h;
}

pub returns-in-Some : goal.returns-in-Some
returns-in-Some c =
    let v = c.args.works.now in
    let w = c.hand_over.new.self in
    let left = c.hand_over.ensures in
    record {
      state = left.state ∙ sym (ap (λ (o : Option Fault). linked_by o (state_of v)) c.in-Some.is);
      works = λ h.
          record {
            whole = whole_told v w c.in-Some.met left.state left.sound left.depth left.stands h.whole;
            templates = subst (λ (ts : List Named). 0 < length ts) (sym left.templates) h.templates;
          };
    }
