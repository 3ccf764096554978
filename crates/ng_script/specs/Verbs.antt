-- The words that commands begin with, and the events that they fire.
use Rattle.std.specs.Prelude.{ℕ, Bool, true, false, List, codes, Option, None, Some, if◌then◌else◌}
use Rattle.std.specs.Str.{bytes_eq}
use Rattle.ng_script.specs.declared.verbs.Verb.{Verb}
use Rattle.ng_script.specs.declared.verbs.Verb.TheVariants as verb

-- the command that a word names
abbrev pub verb_named : List ℕ → Option Verb
verb_named n =
    if bytes_eq n (codes "click") then Some verb.Click
    else if bytes_eq n (codes "fire") then Some verb.Fire
    else if bytes_eq n (codes "type") then Some verb.Typed
    else if bytes_eq n (codes "check") then Some verb.Check
    else if bytes_eq n (codes "eval") then Some verb.Eval
    else if bytes_eq n (codes "at") then Some verb.At
    else if bytes_eq n (codes "emit") then Some verb.Emit
    else if bytes_eq n (codes "broadcast") then Some verb.Broadcast
    else if bytes_eq n (codes "async") then Some verb.Async
    else if bytes_eq n (codes "probe") then Some verb.Probe
    else if bytes_eq n (codes "destroy") then Some verb.Destroy
    else if bytes_eq n (codes "digest") then Some verb.Digest
    else None

-- the names of events
abbrev pub is_event : List ℕ → Bool
is_event n =
    if bytes_eq n (codes "click") then true
    else if bytes_eq n (codes "dblclick") then true
    else if bytes_eq n (codes "mousedown") then true
    else if bytes_eq n (codes "mouseup") then true
    else if bytes_eq n (codes "mouseover") then true
    else if bytes_eq n (codes "mouseout") then true
    else if bytes_eq n (codes "mousemove") then true
    else if bytes_eq n (codes "mouseenter") then true
    else if bytes_eq n (codes "mouseleave") then true
    else if bytes_eq n (codes "keydown") then true
    else if bytes_eq n (codes "keyup") then true
    else if bytes_eq n (codes "keypress") then true
    else if bytes_eq n (codes "submit") then true
    else if bytes_eq n (codes "focus") then true
    else if bytes_eq n (codes "blur") then true
    else if bytes_eq n (codes "copy") then true
    else if bytes_eq n (codes "cut") then true
    else if bytes_eq n (codes "paste") then true
    else false

-- the truth value that a word names
abbrev pub flag_named : List ℕ → Option Bool
flag_named n =
    if bytes_eq n (codes "true") then Some true
    else if bytes_eq n (codes "false") then Some false
    else None
