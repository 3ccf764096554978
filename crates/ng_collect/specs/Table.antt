-- The core's directives, with what the element that has one needs to know of them (API: ng, "Directive"; guide: HTML Compiler).
use Rattle.std.specs.Prelude.{ℕ, ℤ, pos, Bool, true, false, ◌||◌, List, Option, None, Some, option_map, codes, if◌then◌else◌}
use Rattle.std.specs.Str.{bytes_eq}
use Rattle.ng_collect.specs.declared.table.CoreDirective.{CoreDirective}
use Rattle.ng_collect.specs.declared.table.CoreDirective.TheVariants as dirs
use Rattle.ng_collect.specs.declared.table.DomEvent.{DomEvent}
use Rattle.ng_collect.specs.declared.table.DomEvent.TheVariants as events

-- the event that a directive of this name handles
unfoldable pub event_named : List ℕ → Option DomEvent
event_named n =
    if bytes_eq n (codes "ngClick") then Some events.Click
    else if bytes_eq n (codes "ngDblclick") then Some events.Dblclick
    else if bytes_eq n (codes "ngMousedown") then Some events.Mousedown
    else if bytes_eq n (codes "ngMouseup") then Some events.Mouseup
    else if bytes_eq n (codes "ngMouseover") then Some events.Mouseover
    else if bytes_eq n (codes "ngMouseout") then Some events.Mouseout
    else if bytes_eq n (codes "ngMousemove") then Some events.Mousemove
    else if bytes_eq n (codes "ngMouseenter") then Some events.Mouseenter
    else if bytes_eq n (codes "ngMouseleave") then Some events.Mouseleave
    else if bytes_eq n (codes "ngKeydown") then Some events.Keydown
    else if bytes_eq n (codes "ngKeyup") then Some events.Keyup
    else if bytes_eq n (codes "ngKeypress") then Some events.Keypress
    else if bytes_eq n (codes "ngSubmit") then Some events.Submit
    else if bytes_eq n (codes "ngFocus") then Some events.Focus
    else if bytes_eq n (codes "ngBlur") then Some events.Blur
    else if bytes_eq n (codes "ngCopy") then Some events.Copy
    else if bytes_eq n (codes "ngCut") then Some events.Cut
    else if bytes_eq n (codes "ngPaste") then Some events.Paste
    else None

-- the directive of the core that has this name
unfoldable pub named : List ℕ → Option CoreDirective
named n =
    if bytes_eq n (codes "ngSwitchWhen") then Some dirs.SwitchWhen
    else if bytes_eq n (codes "ngSwitchDefault") then Some dirs.SwitchDefault
    else if bytes_eq n (codes "ngRepeat") then Some dirs.Repeat
    else if bytes_eq n (codes "ngNonBindable") then Some dirs.NonBindable
    else if bytes_eq n (codes "ngIf") then Some dirs.If
    else if bytes_eq n (codes "ngInit") then Some dirs.Init
    else if bytes_eq n (codes "ngInclude") then Some dirs.Include
    else if bytes_eq n (codes "ngChecked") then Some dirs.Checked
    else if bytes_eq n (codes "ngDisabled") then Some dirs.Disabled
    else if bytes_eq n (codes "ngOpen") then Some dirs.Open
    else if bytes_eq n (codes "ngReadonly") then Some dirs.Readonly
    else if bytes_eq n (codes "ngSelected") then Some dirs.Selected
    else if bytes_eq n (codes "ngHref") then Some dirs.Href
    else if bytes_eq n (codes "ngSrc") then Some dirs.Src
    else if bytes_eq n (codes "ngModel") then Some dirs.Model
    else if bytes_eq n (codes "ngBind") then Some dirs.Bind
    else if bytes_eq n (codes "ngShow") then Some dirs.Show
    else if bytes_eq n (codes "ngHide") then Some dirs.Hide
    else if bytes_eq n (codes "ngClass") then Some dirs.Class
    else if bytes_eq n (codes "ngSwitch") then Some dirs.Switch
    else if bytes_eq n (codes "ngTransclude") then Some dirs.Transclude
    else if bytes_eq n (codes "ngChange") then Some dirs.Change
    else if bytes_eq n (codes "ngTrim") then Some dirs.Trim
    else option_map dirs.Event (event_named n)

-- what stands first where an element has several
abbrev pub priority : CoreDirective → ℤ
priority dirs.SwitchWhen = pos 1200
priority dirs.SwitchDefault = pos 1200
priority dirs.Repeat = pos 1000
priority dirs.NonBindable = pos 1000
priority dirs.If = pos 600
priority dirs.Init = pos 450
priority dirs.Include = pos 400
priority dirs.Checked = pos 100
priority dirs.Disabled = pos 100
priority dirs.Open = pos 100
priority dirs.Readonly = pos 100
priority dirs.Selected = pos 100
priority dirs.Href = pos 99
priority dirs.Src = pos 99
priority dirs.Model = pos 1
priority dirs.Bind = pos 0
priority dirs.Show = pos 0
priority dirs.Hide = pos 0
priority dirs.Class = pos 0
priority dirs.Switch = pos 0
priority dirs.Transclude = pos 0
priority dirs.Change = pos 0
priority dirs.Trim = pos 0
priority (dirs.Event e) = pos 0

-- a block stands in place of its element, and has the rest of the element as its body
abbrev pub is_block : CoreDirective → Bool
is_block dirs.SwitchWhen = true
is_block dirs.SwitchDefault = true
is_block dirs.Repeat = true
is_block dirs.If = true
is_block dirs.Include = true
is_block _ = false

-- directives of lower priority are left out: by a block, and by the one that makes its element plain
abbrev pub ends_list : CoreDirective → Bool
ends_list dirs.NonBindable = true
ends_list d = is_block d

-- what may be an element of its own, too
abbrev pub stands_on_elements : CoreDirective → Bool
stands_on_elements dirs.Include = true
stands_on_elements dirs.Switch = true
stands_on_elements dirs.Transclude = true
stands_on_elements _ = false

-- what gives the element its contents, as a template does
abbrev pub gives_contents : CoreDirective → Bool
gives_contents dirs.Include = true
gives_contents dirs.Bind = true
gives_contents dirs.Transclude = true
gives_contents _ = false

-- names of the core that are no directives here: the first two stay as plain names, and the last one goes
abbrev pub is_plain_name : List ℕ → Bool
is_plain_name n = bytes_eq n (codes "ngApp") || bytes_eq n (codes "ngStrictDi")

abbrev pub is_cloak : List ℕ → Bool
is_cloak n = bytes_eq n (codes "ngCloak")
