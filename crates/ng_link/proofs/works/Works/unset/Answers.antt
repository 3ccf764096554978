use Rattle.std.proofs.Common.{◌≡◌, ap, sym, ◌∙◌, Bool, None, true, false, cond}
use Rattle.ng_watch.specs.Table.{Table, with_kept}
use Rattle.ng_link.specs.Calls.{is_drawn}
use Rattle.ng_link.specs.State.{state_of, templates_of}
use Rattle.ng_link.proofs.Forgotten.{unset_stands}
use Rattle.ng_link.proofs.works.Works.unset.Goals as goal

pub returns-then-is_drawn-clause-state : goal.returns-then-is_drawn-clause-state
returns-then-is_drawn-clause-state c =
    let s = state_of c.args.self.now in
    let k = c.args.key.now in
    let on : is_drawn s k ≡ true = sym (c.is_drawn.ensures (templates_of c.args.self.now)) ∙ c.if-is_drawn.true in
    sym (ap (λ (b : Bool). cond b s (record s { watchers = with_kept k None s.watchers })) on)

pub returns-clause-state : goal.returns-clause-state
returns-clause-state c =
    let s = state_of c.args.self.now in
    let k = c.args.key.now in
    let off : is_drawn s k ≡ false = sym (c.is_drawn.ensures (templates_of c.args.self.now)) ∙ c.if-is_drawn.false in
    ap (λ (t : Table). record s { watchers = t }) c.unset.ensures ∙ sym (ap (λ (b : Bool). cond b s (record s { watchers = with_kept k None s.watchers })) off)

pub returns-clause-stands : goal.returns-clause-stands
returns-clause-stands c = λ ts g.
    let k = c.args.key.now in
    let off : is_drawn (state_of c.args.self.now) k ≡ false = sym (c.is_drawn.ensures (templates_of c.args.self.now)) ∙ c.if-is_drawn.false in
    unset_stands c.args.self.now c.unset.new.self k c.unset.ensures off ts g
