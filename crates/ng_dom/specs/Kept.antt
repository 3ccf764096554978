-- What the code's record of a node stands for.
use Rattle.std.specs.Prelude.{ℕ, map, Option, option_map, is_some, None, ◌≡◌, ◌⊎◌}
use Rattle.ng_dom.specs.Records.{Runs, node_at, live_in}
use Rattle.ng_dom.specs.Rooms.{Shape, Room, Rooms, text_shape, comment_shape, element_shape, anchor_shape}
use Rattle.ng_dom.specs.declared.record.Content.{Content}
use Rattle.ng_dom.specs.declared.record.Content.TheVariants.{Text, Comment, Element, Anchor}
use Rattle.ng_dom.specs.declared.record.Record.{Record}
use Rattle.ng_dom.specs.declared.record.Home.{Home}

abbrev pub shape_kept : Content → Shape
shape_kept (Text t) = text_shape t
shape_kept (Comment t) = comment_shape t
shape_kept (Element e ats ks) = element_shape e ats.entries ks.items
shape_kept (Anchor gs) = anchor_shape (map (λ g. g.items) gs.items)

abbrev pub room_kept : Record → Room
room_kept x = record { parent = x.parent; shape = shape_kept x.content }

-- the table of nodes by name
abbrev pub rooms_of : Runs → Rooms
rooms_of nodes q = option_map room_kept (node_at nodes q)

-- what each node is drawn from
abbrev pub homes_of : Runs → ℕ → Option Home
homes_of nodes q = option_map (λ x. x.home) (node_at nodes q)

-- no node comes or goes, and each is drawn from what it was
pub record SameNodes (old new : Runs) : Type 0 where
  pub homes : (q : ℕ) → homes_of new q ≡ homes_of old q
  pub live : live_in new ≡ live_in old
  pub there : (q : ℕ) → is_some (node_at new q) ≡ is_some (node_at old q)

-- each node is as it was, or no longer there
pub record Loses (old new : Runs) : Type 0 where
  pub each : (q : ℕ) → (node_at new q ≡ node_at old q) ⊎ (node_at new q ≡ None)
