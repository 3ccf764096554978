-- When a page is there to be shown, and when it shows its rendering.
use Rattle.std.specs.Prelude.{◌≡◌, false}
use Rattle.ng_drawing.specs.Drawing.{shown_as}
use Rattle.ng_link.specs.State.{shown, rendering}
use Rattle.ng_page.specs.PageOf.{state_of, IsPage, Displays}
use Rattle.ng_page.specs.declared.page.Page.{Page}

-- a page shows what its watchers have kept, and further commands can be done on it
pub record IsReady (p : Page) : Type 0 where
  pub page : IsPage p
  pub unspent : p.spent ≡ false
  pub shown : Displays p (shown (state_of p))

-- and that is its rendering
abbrev pub Renders : Page → Type 0
Renders p = rendering (state_of p) ≡ shown_as (shown (state_of p))
