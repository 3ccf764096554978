use Rattle.std.proofs.Common.{◌∙◌, ap, sym}
use Rattle.ng_link.specs.Events.{control_at, state_by, kind_at}
use Rattle.ng_page.specs.PageOf.{state_of}
use Rattle.ng_performing.specs.Aims.{takes_text, is_of_kind}
use Rattle.ng_performing.proofs.Aimed.{of_kind, of_no_kind, text_kind}
use Rattle.ng_performing.proofs.performing.text_at.Goals as goal

pub returns-in-None-clause-found : goal.returns-in-None-clause-found
returns-in-None-clause-found c =
    let n = c.args.node.made.0 in
    of_no_kind takes_text n (kind_at (state_of c.args.page.now) n) (ap (is_of_kind takes_text) (sym c.in-None.ensures))

pub returns-then-takes_text-clause-found : goal.returns-then-takes_text-clause-found
returns-then-takes_text-clause-found c =
    let n = c.args.node.made.0 in
    of_kind takes_text n c.in-Some.kind (kind_at (state_of c.args.page.now) n) c.in-Some.ensures (sym c.takes_text.ensures ∙ c.if-takes_text.true)

pub returns-then-takes_text-clause-control : goal.returns-then-takes_text-clause-control
returns-then-takes_text-clause-control c =
    let s = state_of c.args.page.now in
    text_kind (state_by (control_at s c.args.node.made.0) s) c.in-Some.kind c.in-Some.ensures (sym c.takes_text.ensures ∙ c.if-takes_text.true)

pub returns-else-takes_text-clause-found : goal.returns-else-takes_text-clause-found
returns-else-takes_text-clause-found c =
    let n = c.args.node.made.0 in
    of_no_kind takes_text n (kind_at (state_of c.args.page.now) n) (ap (is_of_kind takes_text) (sym c.in-Some.ensures) ∙ (sym c.takes_text.ensures ∙ c.if-takes_text.false))
