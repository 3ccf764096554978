-- What a directive leaves in the code stands for.
use Rattle.std.specs.Prelude.{◌≡◌, map, Option, None, Some}
use Rattle.ng_steps.specs.declared.attending.Leaving.{Leaving}
use Rattle.ng_parse.specs.ProgramOf.{program}
use Rattle.ng_parts.specs.Directing.{Programs}
use Rattle.ng_parts.specs.ProgramsOf.{watch_of, listener_of}

pub record AreLeft (l : Leaving) (p : Programs) : Type 0 where
  pub watches : map watch_of l.watches.items ≡ p.watches
  pub listeners : map listener_of l.listeners.items ≡ p.listeners
  pub link : program l.link ≡ p.link

-- it is that of a directive, or there is none
abbrev pub IsLeaving : Option Leaving → Option Programs → Type 0
IsLeaving None o = o ≡ None
IsLeaving (Some l) o = (p : Programs) × ((o ≡ Some p) × AreLeft l p)
