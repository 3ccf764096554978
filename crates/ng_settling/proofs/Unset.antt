-- Watchers that are to begin anew leave the instances as they are.
use Rattle.std.proofs.Common.{◌≡◌, ◌∙◌, List, [], ◌∷◌, refl}
use Rattle.ng_base.specs.declared.path.Key.{Key}
use Rattle.ng_changes.proofs.Wholes.{unset_linked}
use Rattle.ng_link.specs.Calls.{unset_at}
use Rattle.ng_link.specs.State.{State}
use Rattle.ng_settling.specs.Settling.{unset_all}

pub unset_all_linked : (ks : List Key) (s : State) → (unset_all ks s).instances ≡ s.instances
unset_all_linked [] s = refl
unset_all_linked (k ∷ ks) s = unset_all_linked ks (unset_at k s) ∙ unset_linked k s

pub ruleset still_linked = (unset_all_linked)
