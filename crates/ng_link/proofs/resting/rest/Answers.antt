use Rattle.std.proofs.Common.{◌≡◌, Option, true, ap, sym, ◌∙◌, option_map}
use Rattle.ng_value.specs.Snaps.{snap_of}
use Rattle.ng_value.specs.declared.snapshot.Snap.{Snap}
use Rattle.ng_behaviour.specs.Keys.{key_cmp}
use Rattle.ng_instances.specs.Instances.{is_site}
use Rattle.ng_instances.specs.InstanceOf.{instances_of}
use Rattle.ng_link.specs.State.{resting_of}
use Rattle.ng_build.proofs.Tables.{put-seen}
use Rattle.ng_link.proofs.resting.rest.Goals as goal

pub returns-in_ok-insert-clause-rested : goal.returns-in_ok-insert-clause-rested
returns-in_ok-insert-clause-rested c = λ all.
    let site : is_site c.args.inner.now.entries (instances_of all c.args.instances.now.entries) c.args.key ≡ true = sym (c.is_site.ensures all) ∙ c.if-is_site.true in
    rw site (ap resting_of c.in_ok-insert.ensures.entries ∙ put-seen (λ (s : Option Snap). option_map snap_of s) key_cmp c.args.key c.args.kept c.args.resting.now.entries)
