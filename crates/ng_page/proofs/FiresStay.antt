-- What the program of a declared watch leaves of sites.
use Rattle.std.proofs.Common.{◌≡◌, true, sym, subst, Option, Some, None}
use Rattle.std.specs.Prelude.{is_some}
use Rattle.ng_core.specs.State as act
use Rattle.ng_core.specs.State.{Run}
use Rattle.ng_base.specs.Views.{ViewTree}
use Rattle.ng_base.specs.declared.path.Key.{Key}
use Rattle.ng_fire.specs.Fires.{run_with, fire_run, fired_by, listener_at, value_at}
use Rattle.ng_link.specs.State.{State, Listening}
use Rattle.ng_watch.specs.Table.{kept_at}
use Rattle.ng_commands.proofs.Sites.{SitesStay, sites_refl}
use Rattle.ng_commands.proofs.StepsStay.{listener_stays, RunStays, followed_sites, faulted_some}

run_stays : (l : Option Listening) (former value : Option ViewTree) (c : act.State) → RunStays c (run_with l former value c)
run_stays None former value c = tt
run_stays (Some l) former None c = tt
run_stays (Some l) former (Some v) c = listener_stays l former v c

fired_sites : (o : Option (Run ViewTree)) (s : State) → RunStays s.core o → SitesStay s (fired_by o s).0
fired_sites None s h = sites_refl s
fired_sites (Some r) s h = followed_sites r s h

pub run_sites : (k : Key) (s t : State) → t.core ≡ s.core → SitesStay t (fired_by (fire_run k s) t).0
run_sites k s t same = fired_sites (fire_run k s) t (subst (λ (c : act.State). RunStays c (fire_run k s)) (sym same) (run_stays (listener_at s k) (kept_at k s.watchers) (value_at s k) s.core))

pub fired_some : (o : Option (Run ViewTree)) (s : State) → (fired_by o s).1 ≡ true → is_some (fired_by o s).0.core.handed.first ≡ true
fired_some None s e = cc
fired_some (Some r) s e = faulted_some r s e
