use Rattle.std.proofs.Common.{◌<◌, ℕ, length, subst, sym}
use Rattle.ng_settling.proofs.settling.probed.Goals as goal

pub probe_text-requires : goal.probe_text-requires
probe_text-requires c = subst (λ (o : ℕ). o < length c.args.core.now.store) (sym c.object-root.ensures) (c.requires.sound.objects.below 0 c.requires.root)
