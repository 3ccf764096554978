use Rattle.std.proofs.Common.{ap, refl}
use Rattle.ng_instances.specs.Instances.{OutletState}
use Rattle.ng_link.proofs.HeldCut.{outlet_cut, outlet_past, none_past, kept_at, seen_outlet}
use Rattle.ng_link.proofs.unlinking.cut_outlet.Goals as goal

pub returns-in-None-clause-outlets : goal.returns-in-None-clause-outlets
returns-in-None-clause-outlets c = outlet_past c.args.outlets.now.items c.args.o c.args.i (c.in-None.ensures).item.3

pub returns-in-None-clause-anchor : goal.returns-in-None-clause-anchor
returns-in-None-clause-anchor c = λ x at. absurd (none_past c.args.outlets.now.items c.args.o x (c.in-None.ensures).item.3 at)

pub returns-in-Some-clause-outlets : goal.returns-in-Some-clause-outlets
returns-in-Some-clause-outlets c =
    let h = (c.in-Some.ensures).item in
    let x = c.in-Some.outlet.now in
    outlet_cut c.args.outlets.now.items c.args.o c.args.i x (record x { bodies = c.cut_body.new.bodies }) (kept_at c.args.outlets.now.items c.args.o x h.3.0 h.1) refl c.cut_body.ensures

pub returns-in-Some-clause-anchor : goal.returns-in-Some-clause-anchor
returns-in-Some-clause-anchor c = λ x at.
    let h = (c.in-Some.ensures).item in
    let y = c.in-Some.outlet.now in
    ap (λ (z : OutletState). z.anchor) (seen_outlet c.args.outlets.now.items c.args.o y x (kept_at c.args.outlets.now.items c.args.o y h.3.0 h.1) at)
