-- What the directives of an element come to: its attributes in the order in which they are set, its class, its sites, its contents and
-- what it does (guide: HTML Compiler, "How directives are compiled").
use Rattle.std.specs.Prelude.{ℕ, ◌+◌, ◌==◌, ◌&&◌, Bool, true, false, not, List, [], ◌∷◌, ◌++◌, length, nat_lt, Option, None, Some, option_map, Result, Ok, Err, codes, if◌then◌else◌}
use Rattle.std.specs.Option.{option_map_or}
use Rattle.std.specs.Str.{bytes_eq}
use Rattle.ng_base.specs.Meets.{◌>>=◌}
use Rattle.ng_collect.specs.Cloak.{kept_value}
use Rattle.ng_collect.specs.declared.pick.Pick.{Pick}
use Rattle.ng_control.specs.declared.kind.ControlKind.{ControlKind}
use Rattle.ng_control.specs.declared.kind.ControlKind.TheVariants as controls
use Rattle.ng_drawing.specs.Template as template
use Rattle.ng_drawing.specs.Template.{Site, Control, Uses, Acts, PartClass, PartAttributes, while_true, while_false, always, unless_empty, flag, classes}
use Rattle.ng_drawing.specs.declared.kind.SiteKind.{SiteKind}
use Rattle.ng_drawing.specs.declared.kind.SiteKind.TheVariants as kinds
use Rattle.ng_html.specs.Attrs.{attr_of}
use Rattle.ng_interp.specs.Parts as interp
use Rattle.ng_interp.specs.declared.pieces.InterpFault.{InterpFault}
use Rattle.ng_language.specs.Trees.{Trees}
use Rattle.ng_tags.specs.declared.attrs.Attr.{Attr}
use Rattle.ng_directives.specs.Limits.{site_limit, worn}
use Rattle.ng_directives.specs.Manners.{manner_of, target_of, event_name}
use Rattle.ng_directives.specs.Programs.{program_in, judged_program}
use Rattle.ng_directives.specs.Texts.{judged, numbered, sites_in, counted}
use Rattle.ng_directives.specs.Writing.{named_only, writing_in, judged_writing}
use Rattle.ng_directives.specs.declared.manners.Manner.{Manner}
use Rattle.ng_directives.specs.declared.manners.Manner.TheVariants.{Sets, Models, Changes, Starts, Handles, Fills, Passes, Slots, Asks}
use Rattle.ng_directives.specs.declared.manners.Setting.{Setting}
use Rattle.ng_directives.specs.declared.manners.Setting.TheVariants.{Interpolates, Links, Switches, Binds, Classes, Shows, Hides, Chooses, Names}
use Rattle.ng_directives.specs.declared.fault.TplFault.{TplFault}

-- the attribute that a directive stands on, as it stays: its name, and its value without the word `ng-cloak` in a class
abbrev pub name_on : Option Attr → List ℕ
name_on None = []
name_on (Some a) = a.name

abbrev pub text_on : Option Attr → List ℕ
text_on None = []
text_on (Some a) = kept_value (attr_of a)

-- a text that is a whole expression, which is one hole
abbrev pub whole : List ℕ → Result (List interp.Piece) InterpFault
whole t = interp.hole_at 0 t >>= λ h. Ok (h ∷ [])

-- the parts of a directive's text
abbrev pub parts_for : Setting → List ℕ → Result (List interp.Piece) InterpFault
parts_for Interpolates t = interp.pieces_in t
parts_for Links t = interp.pieces_in t
parts_for Switches t = whole t
parts_for Binds t = whole t
parts_for Classes t = whole t
parts_for Shows t = whole t
parts_for Hides t = whole t
parts_for Chooses t = whole t
parts_for Names t = whole t >>= named_only

-- what its sites keep
abbrev pub kind_for : Setting → SiteKind
kind_for Interpolates = kinds.Text
kind_for Links = kinds.Text
kind_for Switches = kinds.Reference
kind_for Binds = kinds.Text
kind_for Classes = kinds.Words
kind_for Shows = kinds.Reference
kind_for Hides = kinds.Reference
kind_for Chooses = kinds.Deep
kind_for Names = kinds.Deep

-- the attributes that are set, in order, where the first hole of its parts has the number n: its own; its own and another, which is not
-- there while it is empty; or another, where the value is true
abbrev pub set_by : Setting → List ℕ → List ℕ → ℕ → List template.Piece → PartAttributes
set_by Interpolates own target n ps = (own, always ps) ∷ []
set_by Links own target n ps = (own, always ps) ∷ (target, unless_empty ps) ∷ []
set_by Switches own target n ps = (target, flag target n) ∷ []
set_by Binds own target n ps = []
set_by Classes own target n ps = []
set_by Shows own target n ps = []
set_by Hides own target n ps = []
set_by Chooses own target n ps = []
set_by Names own target n ps = []

-- what the class is then made of: an interpolated class has its pieces in place of the text that was written
abbrev pub class_by : Setting → List ℕ → ℕ → List template.Piece → PartClass → PartClass
class_by Interpolates own n ps c = if bytes_eq own (codes "class") then record c { pieces = ps } else c
class_by Links own n ps c = c
class_by Switches own n ps c = c
class_by Binds own n ps c = c
class_by Classes own n ps c = record c { words = c.words ++ n ∷ [] }
class_by Shows own n ps c = record c { hidings = c.hidings ++ while_false n ∷ [] }
class_by Hides own n ps c = record c { hidings = c.hidings ++ while_true n ∷ [] }
class_by Chooses own n ps c = c
class_by Names own n ps c = c

-- the site whose text stands in place of the children
abbrev pub bound_by : Setting → ℕ → Option ℕ → Option ℕ
bound_by Interpolates n b = b
bound_by Links n b = b
bound_by Switches n b = b
bound_by Binds n b = Some n
bound_by Classes n b = b
bound_by Shows n b = b
bound_by Hides n b = b
bound_by Chooses n b = b
bound_by Names n b = b

-- the site that chooses among the cases in the element
abbrev pub switch_by : Setting → ℕ → Option ℕ → Option ℕ
switch_by Interpolates n s = s
switch_by Links n s = s
switch_by Switches n s = s
switch_by Binds n s = s
switch_by Classes n s = s
switch_by Shows n s = s
switch_by Hides n s = s
switch_by Chooses n s = Some n
switch_by Names n s = s

-- An element that is being made: what kind of control it is, where it is one; its attributes, what its class is made of, the site whose text stands in
-- place of its children, the site that chooses among the cases in it, the numbers of its own sites, what it does, what is wrong with the bindings of
-- its directives, and all sites so far.
pub record Head : Type 0 where
  pub kind : ControlKind
  pub attributes : PartAttributes
  pub class : PartClass
  pub bound : Option ℕ
  pub switch : Option ℕ
  pub own : List ℕ
  pub acts : Acts
  pub wrong : Option TplFault
  pub sites : List Site

-- a directive more, with these parts
abbrev pub with_parts : Pick → Setting → List interp.Piece → Head → Head
with_parts p s ps h = record {
  kind = h.kind;
  attributes = h.attributes ++ set_by s (name_on p.attribute) (target_of p.directive) (length h.sites) (numbered (length h.sites) ps);
  class = class_by s (name_on p.attribute) (length h.sites) (numbered (length h.sites) ps) h.class;
  bound = bound_by s (length h.sites) h.bound;
  switch = switch_by s (length h.sites) h.switch;
  own = h.own ++ counted (length h.sites) (sites_in (kind_for s) ps);
  acts = h.acts;
  wrong = h.wrong;
  sites = h.sites ++ sites_in (kind_for s) ps;
}

abbrev pub if_it_fits : Pick → Setting → List interp.Piece → Head → Result Head TplFault
if_it_fits p s ps h = if nat_lt site_limit (length h.sites + length (sites_in (kind_for s) ps)) then Err worn else Ok (with_parts p s ps h)

-- a program more that runs when the element is linked, and one more that handles an event
abbrev pub with_start : Trees → Head → Head
with_start b h = record h { acts = record h.acts { starts = h.acts.starts ++ b ∷ [] } }

abbrev pub with_handler : List ℕ → Trees → Head → Head
with_handler event b h = record h { acts = record h.acts { handlers = h.acts.handlers ++ (event, b) ∷ [] } }

-- the element is a control, whose model is watched by the site of a number and written by a program; and one more runs after that
abbrev pub with_control : Option Control → Head → Head
with_control c h = record h { acts = record h.acts { control = c } }

-- what an element does, which is a control where there is a program that writes its model
abbrev pub acts_with : ControlKind → ℕ → Option Trees → Acts → Acts
acts_with kind n None a = a
acts_with kind n (Some b) a = record a { control = Some (record { kind = kind; site = n; writes = b; changes = [] }) }

abbrev pub with_written : Option Trees → Head → Head
with_written o h = record h { acts = acts_with h.kind (length h.sites) o h.acts }

abbrev pub with_model : ℕ → Trees → Head → Head
with_model n b h = with_control (Some (record { kind = h.kind; site = n; writes = b; changes = [] })) h

abbrev pub changed_more : Trees → Control → Control
changed_more b c = record { kind = c.kind; site = c.site; writes = c.writes; changes = c.changes ++ b ∷ [] }

abbrev pub with_change : Trees → Head → Head
with_change b h = with_control (option_map (changed_more b) h.acts.control) h

-- a slot (API: ngTransclude)
abbrev pub with_slot : Head → Head
with_slot h = record h { acts = record h.acts { slot = true } }

-- at the turn of the directive that has the isolate scope it is told what is wrong with its bindings
abbrev pub is_bound_by : ℕ → Option Uses → Bool
is_bound_by n None = false
is_bound_by n (Some u) = option_map_or (λ m. m == n) u.isolate false

abbrev pub unless_wrong : Option TplFault → Head → Result Head TplFault
unless_wrong None h = Ok h
unless_wrong (Some f) h = Err f

abbrev pub with_asked : ℕ → Head → Result Head TplFault
with_asked n h = if is_bound_by n h.acts.uses then unless_wrong h.wrong h else Ok h

-- a directive more, or what is wrong with its text; a block does nothing in its body
abbrev pub with_manner : ℕ → Pick → Manner → Head → Result Head TplFault
with_manner place p (Sets s) h = judged place (parts_for s (text_on p.attribute)) >>= λ ps. if_it_fits p s ps h
with_manner place p Fills h = Ok h
with_manner place p Passes h = Ok h
with_manner place p Models h =
    judged_writing place (writing_in (text_on p.attribute)) >>= λ b. judged place (parts_for Names (text_on p.attribute)) >>= λ ps. if_it_fits p Names ps (with_model (length h.sites) b h)
with_manner place p Changes h = judged_program place (program_in (text_on p.attribute)) >>= λ b. Ok (with_change b h)
with_manner place p Slots h = Ok (with_slot h)
with_manner place p (Asks n) h = with_asked n h
with_manner place p Starts h = judged_program place (program_in (text_on p.attribute)) >>= λ b. Ok (with_start b h)
with_manner place p (Handles e) h = judged_program place (program_in (text_on p.attribute)) >>= λ b. Ok (with_handler (event_name e) b h)

-- the directives in their order, up to the first that is refused
abbrev pub with_picks : ℕ → List Pick → Head → Result Head TplFault
with_picks place [] h = Ok h
with_picks place (p ∷ ps) h = with_manner place p (manner_of p.directive) h >>= with_picks place ps

-- whether a directive gives the element's class words, or hides the element
abbrev pub is_classed : PartClass → Bool
is_classed c = not (length c.words == 0 && length c.hidings == 0)

abbrev pub class_setting : PartClass → PartAttributes
class_setting c = if is_classed c then (codes "class", classes c) ∷ [] else []

-- A control sets what it shows, or whether it is checked; and its state classes come behind the words that directives give (API: ngModel).
abbrev pub control_attribute : ControlKind → ℕ → PartAttributes
control_attribute (controls.Text trim) n = (codes "value", always (template.hole n ∷ [])) ∷ []
control_attribute controls.Number n = (codes "value", always (template.hole n ∷ [])) ∷ []
control_attribute controls.Checkbox n = (codes "checked", flag (codes "checked") n) ∷ []

abbrev pub control_setting : Option Control → PartAttributes
control_setting None = []
control_setting (Some c) = control_attribute c.kind c.site

abbrev pub with_states : Option Control → PartClass → PartClass
with_states None p = p
with_states (Some c) p = record p { words = p.words ++ c.site ∷ [] }

-- all attributes in the order in which they are set: what a control sets comes after all others, and the class that directives make is the last
abbrev pub attributes_of : Head → PartAttributes
attributes_of h = h.attributes ++ (control_setting h.acts.control ++ class_setting (with_states h.acts.control h.class))
