use Rattle.std.proofs.Common.{◌≡◌, false, ap, sym, ◌∙◌}
use Rattle.std.specs.Map.{remove_entry}
use Rattle.ng_behaviour.specs.Keys.{is_key}
use Rattle.ng_watch.specs.Table.{Table, without_watch}
use Rattle.ng_instances.specs.Instances.{is_site}
use Rattle.ng_link.specs.State.{Declared, declared_of, listening_of, state_of}
use Rattle.ng_link.proofs.Same.{undeclared_stands}
use Rattle.ng_build.proofs.Tables.{removed-seen}
use Rattle.ng_link.proofs.works.Works.undeclare.Goals as goal

pub returns-clause-state : goal.returns-clause-state
returns-clause-state c =
    let s = state_of c.args.self.now in
    let k = c.args.key.now in
    let off : is_site s.inner s.instances k ≡ false = sym c.is_site.ensures ∙ c.if-is_site.false in
    let listeners : declared_of c.remove-2.new.self.entries ≡ remove_entry (is_key k) s.declared = ap declared_of c.remove-2.ensures.entries ∙ removed-seen listening_of (is_key k) c.args.self.now.declared.entries in
    rw off (ap (λ (t : Table). record s { watchers = t; declared = declared_of c.remove-2.new.self.entries }) c.remove.ensures.removed ∙ ap (λ (d : Declared). record s { watchers = without_watch k s.watchers; declared = d }) listeners)

pub returns-clause-stands : goal.returns-clause-stands
returns-clause-stands c =
    let k = c.args.key.now in
    let off : is_site (state_of c.args.self.now).inner (state_of c.args.self.now).instances k ≡ false = sym c.is_site.ensures ∙ c.if-is_site.false in
    undeclared_stands c.args.self.now c.remove.new.self c.remove-2.new.self k off c.remove.ensures.removed
