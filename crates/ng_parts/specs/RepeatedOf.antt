-- What a repeat's names and its track expression in the code stand for.
use Rattle.std.specs.Prelude.{option_map}
use Rattle.ng_drawing.specs.Template as template
use Rattle.ng_language.specs.Trees.{Trees}
use Rattle.ng_parse.specs.ProgramOf.{program}
use Rattle.ng_parts.specs.declared.repeated.Repeated.{Repeated}
use Rattle.ng_parts.specs.declared.track.Track.{Track}

abbrev pub track_of : Track → Trees
track_of t = program t.program

abbrev pub repeated_of : Repeated → template.Repeated
repeated_of r = record { key = r.key; name = r.name; track = option_map track_of r.track }
