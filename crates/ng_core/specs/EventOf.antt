-- What an event of the code stands for.
use Rattle.ng_base.specs.ViewOf.{view_of}
use Rattle.ng_core.specs.Events.{Event}
use Rattle.ng_core.specs.declared.event_objects.Event.{Event as Announced}

abbrev pub event_of : Announced → Event
event_of e = record { object = e.object.0; args = view_of e.args; name = e.name }
