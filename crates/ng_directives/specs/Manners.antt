-- What each directive does with its text, and which attribute it sets beside its own (API: ngHref, ngSrc, ngChecked, ngDisabled, ngOpen,
-- ngReadonly, ngSelected, ngModel, ngBind, ngClass, ngShow, ngHide, ngChange, ngInit, ngClick, ngNonBindable, ngIf, ngSwitch, ngRepeat).
use Rattle.std.specs.Prelude.{ℕ, Bool, true, false, not, ◌&&◌, ◌||◌, List, [], codes}
use Rattle.std.specs.List.{filter, list_any}
use Rattle.ng_collect.specs.Sorted.{of_core}
use Rattle.ng_collect.specs.Table.{gives_contents}
use Rattle.ng_collect.specs.declared.pick.Directive.{Directive}
use Rattle.ng_collect.specs.declared.pick.Directive.TheVariants.{Core, Interpolated, User}
use Rattle.ng_collect.specs.declared.pick.Pick.{Pick}
use Rattle.ng_collect.specs.declared.table.CoreDirective.{CoreDirective}
use Rattle.ng_collect.specs.declared.table.CoreDirective.TheVariants as dirs
use Rattle.ng_collect.specs.declared.table.DomEvent.{DomEvent}
use Rattle.ng_collect.specs.declared.table.DomEvent.TheVariants as events
use Rattle.ng_directives.specs.declared.manners.Manner.{Manner}
use Rattle.ng_directives.specs.declared.manners.Manner.TheVariants as manners
use Rattle.ng_directives.specs.declared.manners.Setting.TheVariants.{Interpolates, Links, Switches, Binds, Classes, Shows, Hides, Chooses}

-- what a directive of the core does with its text; one that makes its element plain does nothing with it
abbrev pub core_manner : CoreDirective → Manner
core_manner dirs.SwitchWhen = manners.Fills
core_manner dirs.SwitchDefault = manners.Fills
core_manner dirs.Repeat = manners.Fills
core_manner dirs.If = manners.Fills
core_manner dirs.Include = manners.Fills
core_manner dirs.Init = manners.Starts
core_manner dirs.Checked = manners.Sets Switches
core_manner dirs.Disabled = manners.Sets Switches
core_manner dirs.Open = manners.Sets Switches
core_manner dirs.Readonly = manners.Sets Switches
core_manner dirs.Selected = manners.Sets Switches
core_manner dirs.Href = manners.Sets Links
core_manner dirs.Src = manners.Sets Links
core_manner dirs.Model = manners.Models
core_manner dirs.Bind = manners.Sets Binds
core_manner dirs.Show = manners.Sets Shows
core_manner dirs.Hide = manners.Sets Hides
core_manner dirs.Class = manners.Sets Classes
core_manner dirs.Switch = manners.Sets Chooses
core_manner dirs.Change = manners.Changes
core_manner dirs.Trim = manners.Passes
core_manner (dirs.Event e) = manners.Handles e
core_manner dirs.Transclude = manners.Slots
core_manner dirs.NonBindable = manners.Passes

abbrev pub manner_of : Directive → Manner
manner_of (Core d) = core_manner d
manner_of Interpolated = manners.Sets Interpolates
manner_of (User n) = manners.Asks n

-- Beside an `ng-model` an `ng-checked` is not read, and without one an `ng-change` is not.
abbrev pub is_model : CoreDirective → Bool
is_model dirs.Model = true
is_model _ = false

abbrev pub is_checking : CoreDirective → Bool
is_checking dirs.Checked = true
is_checking _ = false

abbrev pub is_change : CoreDirective → Bool
is_change dirs.Change = true
is_change _ = false

abbrev pub any_models : List Pick → Bool
any_models ps = list_any (λ (p : Pick). of_core is_model p.directive) ps

abbrev pub is_unread : Bool → CoreDirective → Bool
is_unread modelled d = (modelled && is_checking d) || (not modelled && is_change d)

abbrev pub is_read : Bool → Pick → Bool
is_read modelled p = not (of_core (is_unread modelled) p.directive)

-- the directives of an element whose texts are read
abbrev pub picks_read : List Pick → List Pick
picks_read ps = filter (is_read (any_models ps)) ps

-- whether a directive makes its element plain (API: ngNonBindable)
abbrev pub core_makes_plain : CoreDirective → Bool
core_makes_plain dirs.NonBindable = true
core_makes_plain _ = false

abbrev pub makes_plain : Directive → Bool
makes_plain (Core d) = core_makes_plain d
makes_plain Interpolated = false
makes_plain (User n) = false

abbrev pub any_makes_plain : List Pick → Bool
any_makes_plain ps = list_any (λ (p : Pick). makes_plain p.directive) ps

-- whether a directive makes its element a slot (API: ngTransclude)
abbrev pub is_slotting : Manner → Bool
is_slotting manners.Slots = true
is_slotting _ = false

abbrev pub makes_slot : Pick → Bool
makes_slot p = is_slotting (manner_of p.directive)

abbrev pub any_makes_slot : List Pick → Bool
any_makes_slot ps = list_any makes_slot ps

-- whether one of these directives gives its element contents, as a template does
abbrev pub any_gives_contents : List Pick → Bool
any_gives_contents ps = list_any (λ (p : Pick). of_core gives_contents p.directive) ps

-- the attribute that a directive sets beside its own
abbrev pub core_target : CoreDirective → List ℕ
core_target dirs.Checked = codes "checked"
core_target dirs.Disabled = codes "disabled"
core_target dirs.Open = codes "open"
core_target dirs.Readonly = codes "readonly"
core_target dirs.Selected = codes "selected"
core_target dirs.Href = codes "href"
core_target dirs.Src = codes "src"
core_target _ = []

abbrev pub target_of : Directive → List ℕ
target_of (Core d) = core_target d
target_of Interpolated = []
target_of (User n) = []

-- the name of an event
abbrev pub event_name : DomEvent → List ℕ
event_name events.Click = codes "click"
event_name events.Dblclick = codes "dblclick"
event_name events.Mousedown = codes "mousedown"
event_name events.Mouseup = codes "mouseup"
event_name events.Mouseover = codes "mouseover"
event_name events.Mouseout = codes "mouseout"
event_name events.Mousemove = codes "mousemove"
event_name events.Mouseenter = codes "mouseenter"
event_name events.Mouseleave = codes "mouseleave"
event_name events.Keydown = codes "keydown"
event_name events.Keyup = codes "keyup"
event_name events.Keypress = codes "keypress"
event_name events.Submit = codes "submit"
event_name events.Focus = codes "focus"
event_name events.Blur = codes "blur"
event_name events.Copy = codes "copy"
event_name events.Cut = codes "cut"
event_name events.Paste = codes "paste"
