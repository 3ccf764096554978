-- An element with a template in it (API: ngInclude): the parts of the template become the children of the element. Its sites follow those of
-- the element, which has no outlets.
use Rattle.std.specs.Prelude.{ℕ, ◌+◌, Bool, true, false, List, [], map, length, ◌++◌, Option, None, Some, option_map, if◌then◌else◌}
use Rattle.ng_drawing.specs.Template.{Piece, word, hole, Source, of_text, of_nothing, one_way, two_way, of_call, Binding, Uses, Hiding, while_true, while_false, PartClass, PartValue, always, unless_empty, flag, classes, PartAttributes, Control, Acts, Part, text_part, comment_part, element_part, anchor_part, Contents, children, bound, Parts, no_parts, part_then, Outlet, Fragment}

-- parts after so many sites
module _ (sites : ℕ) where
  abbrev pub later : List ℕ → List ℕ
  later ns = map (λ n. sites + n) ns

  abbrev pub later_piece : Piece → Piece
  later_piece (word t) = word t
  later_piece (hole n) = hole (sites + n)

  abbrev pub later_pieces : List Piece → List Piece
  later_pieces ps = map later_piece ps

  abbrev pub later_hiding : Hiding → Hiding
  later_hiding (while_true n) = while_true (sites + n)
  later_hiding (while_false n) = while_false (sites + n)

  abbrev pub later_class : PartClass → PartClass
  later_class c = record { written = c.written; pieces = later_pieces c.pieces; words = later c.words; hidings = map later_hiding c.hidings }

  abbrev pub later_value : PartValue → PartValue
  later_value (always ps) = always (later_pieces ps)
  later_value (unless_empty ps) = unless_empty (later_pieces ps)
  later_value (flag w n) = flag w (sites + n)
  later_value (classes c) = classes (later_class c)

  abbrev pub later_attributes : PartAttributes → PartAttributes
  later_attributes ats = map (λ a. (a.0, later_value a.1)) ats

  abbrev pub later_control : Control → Control
  later_control c = record { kind = c.kind; site = sites + c.site; writes = c.writes; changes = c.changes }

  abbrev pub later_source : Source → Source
  later_source (of_text ps) = of_text (later_pieces ps)
  later_source of_nothing = of_nothing
  later_source (one_way n) = one_way (sites + n)
  later_source (two_way n w) = two_way (sites + n) w
  later_source (of_call p) = of_call p

  abbrev pub later_binding : Binding → Binding
  later_binding b = record b { source = later_source b.source }

  abbrev pub later_uses : Uses → Uses
  later_uses u = record u { bindings = map later_binding u.bindings }

  abbrev pub later_acts : Acts → Acts
  later_acts a = record a { control = option_map later_control a.control; uses = option_map later_uses a.uses }

  abbrev mutual
    pub later_part : Part → Part
    later_part (text_part ps) = text_part (later_pieces ps)
    later_part (comment_part t) = comment_part t
    later_part (element_part e own acts ats p) = element_part e (later own) (later_acts acts) (later_attributes ats) (later_contents p)
    later_part (anchor_part outlet own starts) = anchor_part outlet (later own) starts

    pub later_contents : Contents → Contents
    later_contents (children ps) = children (later_parts ps)
    later_contents (bound n) = bound (sites + n)

    pub later_parts : Parts → Parts
    later_parts no_parts = no_parts
    later_parts (part_then p ps) = part_then (later_part p) (later_parts ps)

  abbrev pub later_outlet : Outlet → Outlet
  later_outlet o = record { site = sites + o.site; filling = o.filling }

-- an element without children: its name, the numbers of its own sites, what it does and its attributes
pub record Opened : Type 0 where
  pub name : List ℕ
  pub own : List ℕ
  pub acts : Acts
  pub attributes : PartAttributes

-- contents without a child and without a text
abbrev pub is_no_parts : Parts → Bool
is_no_parts no_parts = true
is_no_parts (part_then p ps) = false

abbrev pub is_childless : Contents → Bool
is_childless (children ps) = is_no_parts ps
is_childless (bound n) = false

-- such an element, where it is all that there is
abbrev pub opened_part : Part → Option Opened
opened_part (text_part ps) = None
opened_part (comment_part t) = None
opened_part (element_part e own acts ats p) = if is_childless p then Some (record { name = e; own = own; acts = acts; attributes = ats }) else None
opened_part (anchor_part outlet own starts) = None

abbrev pub opened_with : Part → Parts → Option Opened
opened_with p ps = if is_no_parts ps then opened_part p else None

abbrev pub opened : Parts → Option Opened
opened no_parts = None
opened (part_then p ps) = opened_with p ps

abbrev pub filled_with : Opened → Parts → Parts
filled_with e kids = part_then (element_part e.name e.own e.acts e.attributes (children kids)) no_parts

-- A template in an element that has no children yet. What is no such element is replaced by it.
abbrev pub included_in : Option Opened → Fragment → Fragment → Fragment
included_in None f g = g
included_in (Some e) f g = record {
  parts = filled_with e (later_parts (length f.sites) g.parts);
  sites = f.sites ++ g.sites;
  outlets = map (later_outlet (length f.sites)) g.outlets;
  marks = [];
  spots = [];
}

abbrev pub included : Fragment → Fragment → Fragment
included f g = included_in (opened f.parts) f g
