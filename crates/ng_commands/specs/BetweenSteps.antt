-- What holds of the works of a page between two steps.
use Rattle.std.specs.Prelude.{◌<◌, [], length}
use Rattle.ng_changes.specs.Whole.{IsWhole}
use Rattle.ng_link.specs.State as link
use Rattle.ng_link.specs.declared.works.Works.{Works}
use Rattle.ng_commands.specs.Settled.{IsWatched, Fits}

-- the works are whole, and the page's template is there
pub record WorksAre (w : Works) : Type 0 where
  pub whole : IsWhole w
  pub templates : 0 < length (link.templates_of w)

-- All that is linked is watched, and each block has the bodies that it calls for.
pub record PageIs (w : Works) : Type 0 where
  pub works : WorksAre w
  pub watched : IsWatched (link.state_of w)
  pub fits : Fits [] (link.state_of w)
