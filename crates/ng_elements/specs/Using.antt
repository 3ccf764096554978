-- The directives of the application on an element: what their bindings read, and what they ask of it (guide: Directives, "Isolating the Scope of
-- a Directive"; API: `$compile`, `scope`).
use Rattle.std.specs.Prelude.{ℕ, ◌+◌, ◌==◌, ◌&&◌, Bool, true, false, not, List, [], ◌∷◌, ◌++◌, length, find, filter, take, slice_get, nat_lt, Option, None, Some, is_some, option_map, option_and_then, unwrap_or, Result, Ok, Err, if◌then◌else◌}
use Rattle.std.specs.Char.{is_ascii_whitespace}
use Rattle.std.specs.List.{list_all}
use Rattle.std.specs.Option.{option_map_or}
use Rattle.std.specs.Str.{bytes_eq}
use Rattle.ng_base.specs.Meets.{◌>>=◌}
use Rattle.ng_bind.specs.Reading.{spec_in}
use Rattle.ng_bind.specs.declared.spec.BindFault.{BindFault}
use Rattle.ng_bind.specs.declared.spec.BindMode.{BindMode}
use Rattle.ng_bind.specs.declared.spec.BindMode.TheVariants.{AtText, TwoWay, OneWay, Call}
use Rattle.ng_bind.specs.declared.spec.Spec.{Spec}
use Rattle.ng_collect.specs.Definitions.{is_isolate, is_child, specs_of}
use Rattle.ng_collect.specs.Names.{directive_name}
use Rattle.ng_collect.specs.declared.definition.DirectiveDef.{DirectiveDef}
use Rattle.ng_collect.specs.declared.pick.Directive.{Directive}
use Rattle.ng_collect.specs.declared.pick.Directive.TheVariants.{Core, Interpolated, User}
use Rattle.ng_collect.specs.declared.pick.Pick.{Pick}
use Rattle.ng_drawing.specs.Template as template
use Rattle.ng_drawing.specs.Template.{Site, Source, of_text, of_nothing, one_way, two_way, of_call, Binding, Uses}
use Rattle.ng_drawing.specs.declared.kind.SiteKind.TheVariants as kinds
use Rattle.ng_interp.specs.Parts as interp
use Rattle.ng_interp.specs.declared.pieces.InterpFault.{InterpFault}
use Rattle.ng_language.specs.Trees.{Trees}
use Rattle.ng_markup.specs.Forest.{Attributes, Node, Forest, element, text, comment, no_nodes, node}
use Rattle.ng_directives.specs.Limits.{site_limit, worn}
use Rattle.ng_directives.specs.Programs.{program_in, spelled}
use Rattle.ng_parts.specs.SiteOf.{site_with}
use Rattle.ng_directives.specs.Texts.{refused, is_known, is_pure, numbered, sites_in}
use Rattle.ng_directives.specs.Writing.{writing_back}
use Rattle.ng_directives.specs.declared.fault.TplFault.{TplFault}
use Rattle.ng_directives.specs.declared.fault.TplKind.TheVariants.{Expression, UnknownFilter, Impure}
use Rattle.ng_evaluation.specs.Purity.{are_pure, all_filters_known}

-- What the text of a binding's attribute reads as: a text; nothing, where the text is missing; an expression whose value is taken; one that is
-- written to, too, by a program, where that is possible; or a program that is called.
pub data Read : Type 0 where
  text_read : List interp.Piece → Read
  nothing_read : Read
  value_read : (once : Bool) → Trees → Read
  both_read : Trees → Option Trees → Read
  call_read : Trees → Read

-- a property of an isolate scope, and what its attribute reads as
pub record Property : Type 0 where
  pub name : List ℕ
  pub read : Read

-- the value of the first attribute that a name picks
abbrev pub attribute_for : List ℕ → Attributes → Option (List ℕ)
attribute_for name [] = None
attribute_for name (a ∷ ats) = if bytes_eq (directive_name a.0) name then Some a.1 else attribute_for name ats

abbrev pub as_text : ℕ → Result (List interp.Piece) InterpFault → Result Read TplFault
as_text place (Ok ps) = Ok (text_read ps)
as_text place (Err f) = Err (refused Expression place)

abbrev pub as_value : ℕ → Result interp.Piece InterpFault → Result Read TplFault
as_value place (Ok (interp.hole once p)) = Ok (value_read once p)
as_value place (Ok (interp.words t)) = Err (refused Expression place)
as_value place (Err f) = Err (refused Expression place)

abbrev pub as_program : ℕ → (Trees → Read) → Option Trees → Result Read TplFault
as_program place go o = spelled place o >>= λ p. Ok (go p)

-- what the text of a binding that is there reads as
abbrev pub read_at : ℕ → BindMode → List ℕ → Result Read TplFault
read_at place AtText t = as_text place (interp.pieces_in t)
read_at place OneWay t = as_value place (interp.hole_at 0 t)
read_at place TwoWay t = as_program place (λ p. both_read p (writing_back t p)) (program_in t)
read_at place Call t = as_program place call_read (program_in t)

abbrev pub as_read : Result Read TplFault → Result (Option Read) TplFault
as_read r = r >>= λ x. Ok (Some x)

abbrev pub is_text : BindMode → Bool
is_text AtText = true
is_text TwoWay = false
is_text OneWay = false
is_text Call = false

-- A binding whose text is missing is that of the empty text, but for a text, which is nothing. One that may be missing sets nothing then.
abbrev pub read_missing : ℕ → Bool → BindMode → Result (Option Read) TplFault
read_missing place optional mode = if is_text mode then Ok (Some nothing_read) else if optional then Ok None else as_read (read_at place mode [])

abbrev pub read_found : ℕ → Spec → Option (List ℕ) → Result (Option Read) TplFault
read_found place s None = read_missing place s.optional s.mode
read_found place s (Some t) = as_read (read_at place s.mode t)

abbrev pub read_bound : ℕ → Attributes → List ℕ → Option Spec → Result (Option Read) TplFault
read_bound place attributes name (Some s) = read_found place s (attribute_for (unwrap_or s.attr name) attributes)
read_bound place attributes name None = Ok None

-- the binding that a text is, if it is one
abbrev pub spec_of : Result Spec BindFault → Option Spec
spec_of (Ok s) = Some s
spec_of (Err f) = None

-- what a property reads as, which has such a text; each text of a definition that stands is a binding
abbrev pub read_property : ℕ → Attributes → List ℕ → List ℕ → Result (Option Read) TplFault
read_property place attributes name t = read_bound place attributes name (spec_of (spec_in t))

abbrev pub with_property : List ℕ → Option Read → List Property → List Property
with_property name None done = done
with_property name (Some r) done = done ++ record { name = name; read = r } ∷ []

-- those that are set, after some that are read
abbrev pub properties_read : ℕ → Attributes → List Property → List (List ℕ × List ℕ) → Result (List Property) TplFault
properties_read place attributes done [] = Ok done
properties_read place attributes done (s ∷ ss) = read_property place attributes s.0 s.1 >>= λ r. properties_read place attributes (with_property s.0 r done) ss

abbrev pub is_known_read : Read → Bool
is_known_read (text_read ps) = list_all is_known ps
is_known_read nothing_read = true
is_known_read (value_read once p) = all_filters_known p
is_known_read (both_read p w) = all_filters_known p
is_known_read (call_read p) = all_filters_known p

-- what is called may change something
abbrev pub is_pure_read : Read → Bool
is_pure_read (text_read ps) = list_all is_pure ps
is_pure_read nothing_read = true
is_pure_read (value_read once p) = are_pure p
is_pure_read (both_read p w) = are_pure p
is_pure_read (call_read p) = true

abbrev pub are_known : List Property → Bool
are_known ps = list_all (λ (p : Property). is_known_read p.read) ps

abbrev pub all_pure : List Property → Bool
all_pure ps = list_all (λ (p : Property). is_pure_read p.read) ps

abbrev pub checked_properties : ℕ → List Property → Result (List Property) TplFault
checked_properties place ps =
    if not (are_known ps) then Err (refused UnknownFilter place)
    else if not (all_pure ps) then Err (refused Impure place)
    else Ok ps

-- the properties, or what is wrong with them: Expression of all, UnknownFilter of all, then Impure of all
abbrev pub judged_properties : ℕ → Attributes → List (List ℕ × List ℕ) → Result (List Property) TplFault
judged_properties place attributes specs =
    properties_read place attributes [] specs >>= λ ps.
    checked_properties place ps

-- the sites of a property
abbrev pub read_sites : Read → List Site
read_sites (text_read ps) = sites_in kinds.Text ps
read_sites nothing_read = []
read_sites (value_read once p) = site_with kinds.Reference once p ∷ []
read_sites (both_read p w) = site_with kinds.TwoWay false p ∷ []
read_sites (call_read p) = []

-- the pieces of a text whose sites come behind those before, if there are numbers for these; and all sites
abbrev pub placed : List interp.Piece → List Site → Result (List template.Piece × List Site) TplFault
placed ps sites = if nat_lt site_limit (length sites + length (sites_in kinds.Text ps)) then Err worn else Ok (numbered (length sites) ps, sites ++ sites_in kinds.Text ps)

-- a site more, by its number
abbrev pub one_more : Site → List Site → Result (ℕ × List Site) TplFault
one_more x sites = if nat_lt site_limit (length sites + 1) then Err worn else Ok (length sites, sites ++ x ∷ [])

-- where a property comes from, with the sites of that behind those before
abbrev pub bound_by : Read → List Site → Result (Source × List Site) TplFault
bound_by (text_read ps) sites = placed ps sites >>= λ r. Ok (of_text r.0, r.1)
bound_by nothing_read sites = Ok (of_nothing, sites)
bound_by (value_read once p) sites = one_more (site_with kinds.Reference once p) sites >>= λ r. Ok (one_way r.0, r.1)
bound_by (both_read p w) sites = one_more (site_with kinds.TwoWay false p) sites >>= λ r. Ok (two_way r.0 w, r.1)
bound_by (call_read p) sites = Ok (of_call p, sites)

abbrev pub all_bound : List Binding → List Property → List Site → Result (List Binding × List Site) TplFault
all_bound done [] sites = Ok (done, sites)
all_bound done (p ∷ ps) sites = bound_by p.read sites >>= λ r. all_bound (done ++ record { name = p.name; source = r.0 } ∷ []) ps r.1

-- the numbers of the application's directives
abbrev pub number_of : Directive → List ℕ
number_of (Core d) = []
number_of Interpolated = []
number_of (User n) = n ∷ []

abbrev pub numbers_in : List Pick → List ℕ
numbers_in [] = []
numbers_in (p ∷ ps) = number_of p.directive ++ numbers_in ps

-- what a directive may ask of its element
abbrev pub asks_child : DirectiveDef → Bool
asks_child d = is_child d.scope

abbrev pub asks_isolate : DirectiveDef → Bool
asks_isolate d = is_isolate d.scope

abbrev pub asks_template : DirectiveDef → Bool
asks_template d = is_some d.template

abbrev pub asks_transclusion : DirectiveDef → Bool
asks_transclusion d = d.transclude

-- the first that asks it
abbrev pub first_with : List DirectiveDef → (DirectiveDef → Bool) → List ℕ → Option ℕ
first_with defs asks ns = find (λ n. option_map_or asks (slice_get defs n) false) ns

-- the templates of directives come behind the page's own, in the order of these
abbrev pub template_number : List DirectiveDef → ℕ → ℕ
template_number defs n = length (filter asks_template (take n defs)) + 1

abbrev pub is_same : Option ℕ → Option ℕ → Bool
is_same (Some a) (Some b) = a == b
is_same a b = false

abbrev pub passes : List DirectiveDef → Option ℕ → Bool
passes defs n = option_map_or asks_transclusion (option_and_then (slice_get defs) n) false

abbrev pub bindings_of : List DirectiveDef → Option ℕ → List (List ℕ × List ℕ)
bindings_of defs n = option_map_or (λ (d : DirectiveDef). specs_of d.scope) (option_and_then (slice_get defs) n) []

-- what directives ask of an element, without the bindings
abbrev pub uses_asked : List DirectiveDef → List ℕ → Uses
uses_asked defs ns = record {
  directives = ns;
  child = is_some (first_with defs asks_child ns);
  isolate = first_with defs asks_isolate ns;
  bindings = [];
  template = option_map (template_number defs) (first_with defs asks_template ns);
  apart = is_same (first_with defs asks_template ns) (first_with defs asks_isolate ns);
  passes = passes defs (first_with defs asks_template ns);
  content = None;
}

-- what the directives of the application ask of an element, if there are any; the sites up to those of their bindings; and what is wrong with these
pub record Asked : Type 0 where
  pub uses : Option Uses
  pub sites : List Site
  pub wrong : Option TplFault

abbrev pub with_bindings : Uses → List Binding × List Site → Asked
with_bindings u r = record { uses = Some (record u { bindings = r.0 }); sites = r.1; wrong = None }

abbrev pub asked_by : Uses → List Site → Result (List Property) TplFault → Result Asked TplFault
asked_by u sites (Err f) = Ok (record { uses = Some u; sites = sites; wrong = Some f })
asked_by u sites (Ok ps) = all_bound [] ps sites >>= λ r. Ok (with_bindings u r)

abbrev pub asked_for : ℕ → List DirectiveDef → Attributes → List ℕ → List Site → Result Asked TplFault
asked_for place defs attributes ns sites = asked_by (uses_asked defs ns) sites (judged_properties place attributes (bindings_of defs (first_with defs asks_isolate ns)))

abbrev pub uses_of_numbers : ℕ → List DirectiveDef → Attributes → List ℕ → List Site → Result Asked TplFault
uses_of_numbers place defs attributes ns sites =
    if length ns == 0 then Ok (record { uses = None; sites = sites; wrong = None }) else asked_for place defs attributes ns sites

-- What is wrong with the bindings is told at the turn of their directive.
abbrev pub uses_made : ℕ → List DirectiveDef → List Pick → Attributes → List Site → Result Asked TplFault
uses_made place defs ps attributes sites = uses_of_numbers place defs attributes (numbers_in ps) sites

-- whether one of the directives transcludes
abbrev pub transcludes : List DirectiveDef → Option Uses → Bool
transcludes defs None = false
transcludes defs (Some u) = is_some (first_with defs asks_transclusion u.directives)

-- nothing but white space
abbrev pub is_blank_node : Node → Bool
is_blank_node (element name attributes kids) = false
is_blank_node (text t) = list_all is_ascii_whitespace t
is_blank_node (comment t) = false

abbrev pub is_blank : Forest → Bool
is_blank no_nodes = true
is_blank (node n f) = is_blank_node n && is_blank f
