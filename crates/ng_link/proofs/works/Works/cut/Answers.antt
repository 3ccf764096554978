use Rattle.std.proofs.Common.{ℕ, ap, subst, ◌∙◌, slice_get, option_and_then}
use Rattle.ng_instances.specs.Instances.{Linked}
use Rattle.ng_link.specs.State.{templates_of}
use Rattle.ng_link.specs.Unlinking.{IsHeldAt, CutsOut}
use Rattle.ng_link.specs.declared.works.Works.{Works}
use Rattle.ng_link.proofs.Unlinked.{unlinked_state, unlinked_stands}
use Rattle.ng_link.proofs.works.Works.cut.Goals as goal

pub unreachable-requires : goal.unreachable-requires
unreachable-requires c = c.in_default.ensures (templates_of c.args.self.now) c.requires.held

pub returns-clause-state : goal.returns-clause-state
returns-clause-state c =
    let w : Works = c.args.self.now in
    let holds = c.requires.held in
    let all = templates_of w in
    let o : ℕ = c.in-Some.o in
    let i : ℕ = c.in-Some.i in
    let at : IsHeldAt c.args.p.now o i holds.0.page.outlets = c.in-Some.ensures all holds in
    let anchor = c.cut_held-anchor.ensures.anchor all at.0 (ap (option_and_then (λ (l : Linked). slice_get l.page.outlets o)) holds.1 ∙ at.1) in
    let nodes = subst (λ (n : ℕ). CutsOut n i w.dom c.cut_nodes.new.dom) anchor c.in_ok-cut_nodes.ensures in
    unlinked_state w c.cut_held-anchor.new.instances c.forget_below.new.instances c.cut_nodes.new.dom c.forget_below.new.owners c.forget_inner.new.inner c.forget_on.new.table c.forget_on-2.new.table c.args.holder.now c.args.p.now o i
    c.requires.stands holds at (c.cut_held-anchor.ensures.instances all) (c.cut_held-anchor.ensures.spots w.inner.entries) nodes c.in_ok-forget_below.ensures.instances c.in_ok-forget_below.ensures.owners c.in_ok-forget_inner.ensures c.in_ok-forget_on.ensures c.in_ok-forget_on-2.ensures

pub returns-clause-stands : goal.returns-clause-stands
returns-clause-stands c =
    let w : Works = c.args.self.now in
    let holds = c.requires.held in
    let all = templates_of w in
    let o : ℕ = c.in-Some.o in
    let i : ℕ = c.in-Some.i in
    let at : IsHeldAt c.args.p.now o i holds.0.page.outlets = c.in-Some.ensures all holds in
    let anchor = c.cut_held-anchor.ensures.anchor all at.0 (ap (option_and_then (λ (l : Linked). slice_get l.page.outlets o)) holds.1 ∙ at.1) in
    let nodes = subst (λ (n : ℕ). CutsOut n i w.dom c.cut_nodes.new.dom) anchor c.in_ok-cut_nodes.ensures in
    unlinked_stands w c.cut_held-anchor.new.instances c.forget_below.new.instances c.cut_nodes.new.dom c.forget_below.new.owners c.forget_inner.new.inner c.forget_on.new.table c.forget_on-2.new.table c.args.holder.now c.args.p.now o i
    c.requires.stands holds at (c.cut_held-anchor.ensures.instances all) (c.cut_held-anchor.ensures.spots w.inner.entries) nodes c.in_ok-forget_below.ensures.instances c.in_ok-forget_below.ensures.owners c.in_ok-forget_inner.ensures c.in_ok-forget_on.ensures c.in_ok-forget_on-2.ensures
