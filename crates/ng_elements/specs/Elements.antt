-- What the directives of an element come to: what is made so far, the element without its contents, and the number of contents that are a body of
-- their own.
use Rattle.std.specs.Prelude.{ℕ, ◌&&◌, ◌||◌, Bool, true, false, List, [], ◌∷◌, ◌++◌, length, nat_le, Option, Some, None, is_some, option_map, Result, Ok, Err, codes, if◌then◌else◌}
use Rattle.std.specs.Map.{lookup}
use Rattle.std.specs.Str.{bytes_eq}
use Rattle.ng_base.specs.Meets.{◌>>=◌}
use Rattle.ng_collect.specs.Cloak.{kept_attributes}
use Rattle.ng_collect.specs.declared.definition.DirectiveDef.{DirectiveDef}
use Rattle.ng_collect.specs.declared.pick.Pick.{Pick}
use Rattle.ng_control.specs.declared.kind.ControlKind.{ControlKind}
use Rattle.ng_drawing.specs.Template.{Site, Outlet, Fragment, PartClass, Uses, Acts, no_acts, Part, Contents, Parts, word, element_part, children, bound, no_parts}
use Rattle.ng_markup.specs.Forest.{Attributes, Forest}
use Rattle.ng_directives.specs.Directives.{Head, with_picks, attributes_of}
use Rattle.ng_directives.specs.Kinds.{control_kind}
use Rattle.ng_directives.specs.Limits.{site_limit, worn}
use Rattle.ng_directives.specs.Manners.{any_gives_contents}
use Rattle.ng_elements.specs.Plain.{plain_values}
use Rattle.ng_elements.specs.Using.{Asked, uses_made, transcludes, first_with, asks_template, numbers_in, is_blank}
use Rattle.ng_directives.specs.declared.fault.TplFault.{TplFault}
use Rattle.ng_directives.specs.Places.{first_place, other_places}

-- the places that are left; the sites and outlets so far of the fragment that is being made; and the bodies that are made
pub record Made : Type 0 where
  pub places : List ℕ
  pub sites : List Site
  pub outlets : List Outlet
  pub bodies : List Fragment

-- what the class of an element is made of before its directives: the text that is written
abbrev pub class_with : Option (List ℕ) → PartClass
class_with None = record { written = false; pieces = []; words = []; hidings = [] }
class_with (Some t) = record { written = true; pieces = word t ∷ []; words = []; hidings = [] }

abbrev pub class_in : Attributes → PartClass
class_in attributes = class_with (lookup (λ n. bytes_eq n (codes "class")) attributes)

-- an element before its directives: what kind of control it is, the attributes that stay, the sites of the bindings of its directives, and no site of
-- its own
abbrev pub bare_with : ControlKind → Attributes → Asked → Head
bare_with kind attributes a = record {
  kind = kind;
  attributes = plain_values (kept_attributes attributes);
  class = class_in (kept_attributes attributes);
  bound = None;
  switch = None;
  own = [];
  acts = record no_acts { uses = a.uses };
  wrong = a.wrong;
  sites = a.sites;
}

abbrev pub bare : ℕ → List DirectiveDef → ControlKind → List Pick → Attributes → List Site → Result Head TplFault
bare place defs kind ps attributes sites = uses_made place defs ps (kept_attributes attributes) sites >>= λ a. Ok (bare_with kind attributes a)

-- an element with these directives, all but its contents
abbrev pub head_with : List DirectiveDef → List ℕ → List Pick → Attributes → Made → Result Head TplFault
head_with defs name ps attributes m =
    bare (first_place m.places) defs (control_kind name attributes ps) ps attributes m.sites >>= with_picks (first_place m.places) ps

-- its sites come before those of its children
abbrev pub with_head : Head → Made → Made
with_head h m = record m { places = other_places m.places; sites = h.sites }

abbrev pub element_with : List ℕ → Head → Contents → Part
element_with name h contents = element_part name h.own h.acts (attributes_of h) contents

-- these are then among those of its fragment
abbrev pub without_sites : Head → Head
without_sites h = record h { sites = [] }

abbrev pub opened_made : List DirectiveDef → List ℕ → List Pick → Attributes → Made → Result (Head × Made) TplFault
opened_made defs name ps attributes m = head_with defs name ps attributes m >>= λ h. Ok (without_sites h, with_head h m)

-- the number of the site of the nearest switch, with no block between
abbrev pub Switch : Type 0
Switch = Option ℕ

-- the switch that is nearest in an element
abbrev pub switch_in : Switch → Switch → Switch
switch_in None outer = outer
switch_in (Some n) outer = Some n

abbrev pub fragment_made : Parts × Made → Fragment
fragment_made r = record { parts = r.0; sites = r.1.sites; outlets = r.1.outlets; marks = []; spots = [] }

-- Whether a directive makes a scope between a switch round the element and a case in it: one with a scope of its own or that transcludes, or a slot.
abbrev pub asks_scope : Option Uses → Bool
asks_scope None = false
asks_scope (Some u) = u.child || is_some u.isolate

abbrev pub makes_scope : List DirectiveDef → Acts → Bool
makes_scope defs a = a.slot || (asks_scope a.uses || transcludes defs a.uses)

abbrev pub switch_inside : List DirectiveDef → Head → Switch → Switch
switch_inside defs h outer = switch_in h.switch (if makes_scope defs h.acts then None else outer)

-- The children of a directive that transcludes are a body of their own, where a template stands in their place, or a text; slots are given that body
-- unless it is blank.
abbrev pub has_template_of : Option Uses → Bool
has_template_of None = false
has_template_of (Some u) = is_some u.template

abbrev pub is_apart : List DirectiveDef → Head → Bool
is_apart defs h = transcludes defs h.acts.uses && (has_template_of h.acts.uses || is_some h.bound)

-- what stands in place of children: a text, or nothing yet
abbrev pub in_place : Option ℕ → Contents
in_place None = children no_parts
in_place (Some n) = bound n

abbrev pub content_number : Forest → List Fragment → Option ℕ
content_number kids bodies = if is_blank kids then None else Some (length bodies)

abbrev pub with_content : Option ℕ → Head → Head
with_content n h = record h { acts = record h.acts { uses = option_map (λ (u : Uses). record u { content = n }) h.acts.uses } }

-- a body more, after the sites and outlets that stood before it
abbrev pub apart_made : Forest → Head → Made → Parts × Made → Result (Head × Contents × Made) TplFault
apart_made kids h m r =
    if nat_le (length (r.1.bodies ++ fragment_made r ∷ [])) site_limit
    then Ok (with_content (content_number kids (r.1.bodies ++ fragment_made r ∷ [])) h, in_place h.bound, record m { places = r.1.places; bodies = r.1.bodies ++ fragment_made r ∷ [] })
    else Err worn

abbrev pub any_templates : List DirectiveDef → List Pick → Bool
any_templates defs ps = any_gives_contents ps || is_some (first_with defs asks_template (numbers_in ps))
