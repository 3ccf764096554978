use Rattle.std.proofs.Common.{◌≡◌, ℕ, Option, Some, None, ap, sym, subst, ◌∙◌}
use Rattle.std.specs.Prelude.{option_map, option_and_then}
use Rattle.ng_base.specs.Views.{ViewTree}
use Rattle.ng_control.specs.State.{with_model}
use Rattle.ng_dom.specs.Document.{next_name}
use Rattle.ng_value.specs.Snaps.{snap_of}
use Rattle.ng_watch.specs.Seen.{Watcher}
use Rattle.ng_watch.specs.Table.{Table, watchers_of, with_kept}
use Rattle.ng_link.specs.Calls.{keeping_at}
use Rattle.ng_build.specs.Controls.{Controls}
use Rattle.ng_instances.specs.InstanceOf.{spot_in}
use Rattle.ng_link.specs.Firing.{WritesAt}
use Rattle.ng_link.specs.State.{state_of, looks_of}
use Rattle.ng_link.specs.Standing.{Standing}
use Rattle.ng_link.specs.declared.works.Works.{Works}
use Rattle.ng_link.proofs.Fired.{kept_stands, written_next}
use Rattle.ng_link.proofs.works.Works.keep.Goals as goal

-- what a watcher that is there had kept
former_kept : (o : Option Watcher) (r : Option ViewTree) → option_map (λ (w : Watcher). w.kept) o ≡ Some r → r ≡ option_and_then (λ (w : Watcher). w.kept) o
former_kept None r e = absurd (cc)
former_kept (Some w) r e = let same : w.kept ≡ r = cc in sym same

pub returns-clause-state : goal.returns-clause-state
returns-clause-state c =
    let s = state_of c.args.self.now in
    let k = c.args.key.now in
    let v = snap_of c.args.s in
    let old = c.args.self.now.dom in
    let new = c.draw_in.new.self.dom in
    let cs = c.drop_typed.new.controls.entries in
    let t = with_kept k (Some v) s.watchers in
    let looks = looks_of (watchers_of c.keep-former.new.self) (state_of c.args.self.now).resting c.drop_typed.new.controls.entries in
    let dom = subst (λ (o : Option ℕ). WritesAt looks o c.args.self.now.dom c.draw_in.new.self.dom) (sym c.requires.drawn) c.in_ok-draw_in.ensures.written in
    let next : next_name new ≡ next_name old = written_next (looks_of (watchers_of c.keep-former.new.self) s.resting cs) (spot_in c.args.self.now.inner.entries c.args.self.now.instances.entries k) old new dom in
    ap state_of c.draw_in.ensures.rest
    ∙ (ap (λ (x : Table). record s { watchers = x; controls = cs; next_node = next_name new }) c.keep-former.ensures.kept
    ∙ (ap (λ (x : Controls). record s { watchers = t; controls = x; next_node = next_name new }) c.drop_typed.ensures
    ∙ ap (λ (n : ℕ). record (keeping_at k v s) { next_node = n }) next))

pub returns-clause-former : goal.returns-clause-former
returns-clause-former c = former_kept _ _ c.keep-former.ensures.former

pub returns-clause-stands : goal.returns-clause-stands
returns-clause-stands c =
    let old = c.args.self.now in
    let v = snap_of c.args.s in
    let looks = looks_of (watchers_of c.keep-former.new.self) (state_of c.args.self.now).resting c.drop_typed.new.controls.entries in
    let dom = subst (λ (o : Option ℕ). WritesAt looks o c.args.self.now.dom c.draw_in.new.self.dom) (sym c.requires.drawn) c.in_ok-draw_in.ensures.written in
    λ ts g. let F : Works → Type 0 = λ x. Standing x ts in
    subst F (sym c.draw_in.ensures.rest)
    (kept_stands old c.keep-former.new.self c.drop_typed.new.controls c.draw_in.new.self.dom c.args.key.now (Some v) (λ x. with_model x v) c.keep-former.ensures.kept c.drop_typed.ensures dom ts g)
