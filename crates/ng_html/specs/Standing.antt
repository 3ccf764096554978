-- What the events so far are, where these elements are open.
use Rattle.std.specs.Prelude.{◌≡◌, ◌≤◌, false, ℕ, suc, ◌+◌, List, [], ◌∷◌, length}
use Rattle.ng_markup.specs.Tables.{is_void}
use Rattle.ng_markup.specs.Forest.{Forest}
use Rattle.ng_tags.specs.declared.event.Event.{Event}
use Rattle.ng_tags.specs.declared.event.Event.TheVariants as event
use Rattle.ng_html.specs.Building.{Around, open_limit, top_closed}
use Rattle.ng_html.specs.Grammar.{SpellsForest, AllInside, height, tag}

-- the events from es up to rest are these open elements, the innermost first, and what stands in it so far
abbrev pub Stands : List Around → Forest → List Event → List Event → Type 0
Stands [] done es rest = SpellsForest done es rest × (height done ≤ open_limit)
Stands (o ∷ os) done es rest =
    (p : ℕ) × (mid : List Event) × Stands os o.before es (event.Start (tag o.name o.attributes p false) ∷ mid) × SpellsForest done mid rest
    × (is_void o.name ≡ false) × AllInside o.name done × (top_closed o.name os ≡ false) × (height done + suc (length os) ≤ open_limit)
