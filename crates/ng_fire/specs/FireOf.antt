-- What the fire of a site in the code stands for.
use Rattle.ng_fire.specs.Blocks.{Firing}
use Rattle.ng_changes.specs.declared.following.Followed.{Followed}
use Rattle.ng_link.specs.State.{state_of}
use Rattle.ng_link.specs.declared.works.Works.{Works}

abbrev pub firing : Works → Followed → Firing
firing w f = record { state = state_of w; faulted = f.faulted; added = f.added }
