use Rattle.std.proofs.Common.{◌∙◌, ap, length, refl}
use Rattle.ng_store.proofs.Sound.{length-update_at}
use Rattle.ng_app.proofs.Installed.{installed_sound}
use Rattle.ng_app.proofs.installing.install.Goals as goal

pub returns-clause-sound : goal.returns-clause-sound
returns-clause-sound c = installed_sound c.args.core.now _ _ c.requires.sound (ap length c.in_ok-set.ensures.set ∙ length-update_at _ _ _) c.in_ok-push.ensures.items c.requires.root refl refl refl refl refl refl
