use Rattle.std.proofs.Common.{◌≡◌, ℕ, List, false, ap, sym, ◌∙◌}
use Rattle.std.specs.BTreeMap.{insert_entry}
use Rattle.ng_base.specs.declared.path.Key.{Key}
use Rattle.ng_behaviour.specs.Keys.{key_cmp}
use Rattle.ng_watch.specs.Seen.{watching_of}
use Rattle.ng_watch.specs.Table.{Table, watchers_of, with_watch}
use Rattle.ng_instances.specs.Instances.{is_site}
use Rattle.ng_link.specs.State.{Declared, declared_of, listening_of, state_of}
use Rattle.ng_link.proofs.Same.{declared_stands}
use Rattle.ng_build.proofs.Tables.{put-seen}
use Rattle.ng_link.proofs.works.Works.declare.Goals as goal

pub returns-clause-state : goal.returns-clause-state
returns-clause-state c =
    let s = state_of c.args.self.now in
    let k = c.args.key in
    let w = watching_of c.args.w in
    let off : is_site s.inner s.instances k ≡ false = sym c.is_site.ensures ∙ c.if-is_site.false in
    let copy : record { path = c.in_ok-path.path; serial = k.serial } ≡ k = ap (λ (p : List ℕ). record { path = p; serial = k.serial }) c.in_ok-path.ensures in
    let watchers : watchers_of c.add.new.self ≡ with_watch k w s.watchers = c.in_ok-add.ensures.added ∙ ap (λ (q : Key). with_watch q w s.watchers) copy in
    let listeners : declared_of c.insert.new.self.entries ≡ insert_entry key_cmp s.declared k (listening_of c.args.l) = ap declared_of c.in_ok-insert.ensures.entries ∙ put-seen listening_of key_cmp k c.args.l c.args.self.now.declared.entries in
    rw off (ap (λ (t : Table). record s { watchers = t; declared = declared_of c.insert.new.self.entries }) watchers ∙ ap (λ (d : Declared). record s { watchers = with_watch k w s.watchers; declared = d }) listeners)

pub returns-clause-stands : goal.returns-clause-stands
returns-clause-stands c =
    let s = state_of c.args.self.now in
    let k = c.args.key in
    let w = watching_of c.args.w in
    let off : is_site s.inner s.instances k ≡ false = sym c.is_site.ensures ∙ c.if-is_site.false in
    let copy : record { path = c.in_ok-path.path; serial = k.serial } ≡ k = ap (λ (p : List ℕ). record { path = p; serial = k.serial }) c.in_ok-path.ensures in
    let watchers : watchers_of c.add.new.self ≡ with_watch k w s.watchers = c.in_ok-add.ensures.added ∙ ap (λ (q : Key). with_watch q w s.watchers) copy in
    declared_stands c.args.self.now c.add.new.self c.insert.new.self k off w c.requires watchers
