-- What an event of the code stands for, and how far its dispatch has come.
use Rattle.std.specs.Prelude.{ℕ, ◌<◌, Result, Ok, Err}
use Rattle.serde_json.specs.View.{view}
use Rattle.ng_base.specs.declared.fault.Fault.{Fault}
use Rattle.ng_base.specs.declared.name.Oid.{Oid}
use Rattle.ng_link.specs.State as link
use Rattle.ng_link.specs.declared.works.Works.{Works}
use Rattle.ng_commands.specs.Handling.{Happening, Event, Going, unmade, awaited, made, refused}
use Rattle.ng_commands.specs.declared.handling.Happening as code_happening
use Rattle.ng_commands.specs.declared.handling.Event as code
use Rattle.ng_commands.specs.declared.handling.Event.TheVariants as events

abbrev pub number : Oid → ℕ
number o = o.0

abbrev pub event_seen : code.Event → Event
event_seen events.Unmade = unmade
event_seen events.Awaited = awaited
event_seen (events.Made o) = made o.0
event_seen events.Refused = refused

abbrev pub after_seen : Result Oid Fault → Event
after_seen (Ok o) = made o.0
after_seen (Err f) = refused

-- how far a dispatch has come, over works and with an event
abbrev pub going : Works → code.Event → Going
going w e = record { state = link.state_of w; event = event_seen e }

abbrev pub happening_seen : code_happening.Happening → Happening
happening_seen x = record { type = x.name.now; extra = view x.extra.now }

-- an event that was made is one of so many objects
abbrev pub MadeBelow : ℕ → code.Event → Type 0
MadeBelow count events.Unmade = Unit {0}
MadeBelow count events.Awaited = Unit {0}
MadeBelow count (events.Made o) = o.0 < count
MadeBelow count events.Refused = Unit {0}
