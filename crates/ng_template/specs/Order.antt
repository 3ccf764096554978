-- Document order, in the words of documents: what a node is refused for by itself, and which holes and sites it has.
use Rattle.std.specs.Prelude.{◌≡◌, ◌==◌, ℕ, zero, suc, Bool, true, false, not, ◌&&◌, ◌||◌, List, [], ◌∷◌, ◌++◌, Option, None, Some, is_some, Result, Ok, Err, if◌then◌else◌}
use Rattle.std.specs.List.{flat_map, list_any}
use Rattle.std.specs.Option.{option_map_or}
use Rattle.ng_collect.specs.Cloak.{kept_attributes}
use Rattle.ng_collect.specs.declared.definition.DirectiveDef.{DirectiveDef}
use Rattle.ng_collect.specs.declared.pick.Pick.{Pick}
use Rattle.ng_drawing.specs.Cases.{Case}
use Rattle.ng_drawing.specs.Nodes.{forest_count}
use Rattle.ng_drawing.specs.Template.{Site, Piece, word, hole, Part, Contents, Parts, text_part, comment_part, element_part, anchor_part, children, bound, no_parts, part_then}
use Rattle.ng_drawing.specs.declared.kind.SiteKind.{SiteKind}
use Rattle.ng_drawing.specs.declared.kind.SiteKind.TheVariants as kinds
use Rattle.ng_interp.specs.Parts as interp
use Rattle.ng_interp.specs.declared.pieces.InterpFault.{InterpFault}
use Rattle.ng_language.specs.Trees.{Trees}
use Rattle.ng_markup.specs.Forest.{Attributes, Node, Forest, element, text, comment, no_nodes, node}
use Rattle.ng_tags.specs.declared.attrs.Attr.{Attr}
use Rattle.ng_template.specs.Around.{Inside, is_plain, has_picks, has_template, Block, Around, around_node}
use Rattle.ng_directives.specs.Places.{first_place, other_places}
use Rattle.ng_elements.specs.Elements.{any_templates}
use Rattle.ng_template.specs.Compiles.{site_in}
use Rattle.ng_directives.specs.Directives.{text_on, parts_for, kind_for}
use Rattle.ng_directives.specs.Manners.{manner_of, any_makes_slot}
use Rattle.ng_drawing.specs.Numbering.{bound_numbers}
use Rattle.ng_directives.specs.Programs.{program_in, program_refusal}
use Rattle.ng_directives.specs.Texts.{refused, wrong, sites_in}
use Rattle.ng_elements.specs.Using.{Property, read_sites, numbers_in, first_with, asks_child, asks_isolate, asks_template, asks_transclusion, bindings_of, judged_properties}
use Rattle.ng_directives.specs.Writing.{writing_in}
use Rattle.ng_directives.specs.declared.fault.TplFault.{TplFault}
use Rattle.ng_directives.specs.declared.fault.TplKind.{TplKind}
use Rattle.ng_directives.specs.declared.fault.TplKind.TheVariants.{Expression, MultiDir}
use Rattle.ng_directives.specs.declared.manners.Manner.{Manner}
use Rattle.ng_directives.specs.declared.manners.Manner.TheVariants.{Sets, Models, Changes, Starts, Handles, Fills, Passes, Slots, Asks}
use Rattle.ng_directives.specs.declared.manners.Setting.TheVariants.{Binds, Chooses, Names}

-- A node of a document, and whether it has a switch round it with no block between
abbrev pub Met : Type 0
Met = Node × Bool

-- the nodes of a document in document order: a node comes before those in it. It is said which elements have a switch for the nodes in them.
abbrev mutual
  pub node_order : (Met → Bool) → Bool → Node → List Met
  node_order near outer (element name attributes kids) = (element name attributes kids, outer) ∷ in_order near (near (element name attributes kids, outer)) kids
  node_order near outer (text t) = (text t, outer) ∷ []
  node_order near outer (comment t) = (comment t, outer) ∷ []

  pub in_order : (Met → Bool) → Bool → Forest → List Met
  in_order near outer no_nodes = []
  in_order near outer (node n f) = node_order near outer n ++ in_order near outer f

-- each with its place
abbrev pub placed : List Met → List ℕ → List (Met × ℕ)
placed [] places = []
placed (n ∷ ns) places = (n, first_place places) ∷ placed ns (other_places places)

-- whether a directive puts a text in place of the element's children, and whether it chooses among the cases in the element
abbrev pub is_binding : Manner → Bool
is_binding (Sets Binds) = true
is_binding _ = false

abbrev pub is_bind : Pick → Bool
is_bind p = is_binding (manner_of p.directive)

abbrev pub is_choosing : Manner → Bool
is_choosing (Sets Chooses) = true
is_choosing _ = false

abbrev pub is_switch : Pick → Bool
is_switch p = is_choosing (manner_of p.directive)

-- whether a directive of the application asks something of the element
abbrev pub any_asks : List DirectiveDef → (DirectiveDef → Bool) → List Pick → Bool
any_asks defs asks ps = is_some (first_with defs asks (numbers_in ps))

-- whether something else stands in place of the children: a text, or the template of a directive
abbrev pub is_replaced : List DirectiveDef → List Pick → Bool
is_replaced defs ps = any_asks defs asks_template ps || list_any is_bind ps

-- Whether the nodes in an element are not compiled: it is plain, or something else stands in their place. Those that a directive transcludes are
-- compiled anyhow, as a body of their own.
abbrev pub is_passed_over : List DirectiveDef → Inside → Bool
is_passed_over defs is_plain = true
is_passed_over defs (has_picks ps) = not (any_asks defs asks_transclusion ps) && is_replaced defs ps
is_passed_over defs (has_template ps) = not (any_asks defs asks_transclusion ps)

abbrev pub is_taken_apart : List DirectiveDef → Inside → Bool
is_taken_apart defs is_plain = false
is_taken_apart defs (has_picks ps) = any_asks defs asks_transclusion ps && is_replaced defs ps
is_taken_apart defs (has_template ps) = any_asks defs asks_transclusion ps

-- whether a directive makes a scope between a switch round the element and a case in it
abbrev pub makes_scope_by : List DirectiveDef → Inside → Bool
makes_scope_by defs is_plain = false
makes_scope_by defs (has_picks ps) = any_makes_slot ps || ((any_asks defs asks_child ps || any_asks defs asks_isolate ps) || any_asks defs asks_transclusion ps)
makes_scope_by defs (has_template ps) = true

abbrev pub has_switch : Inside → Bool
has_switch is_plain = false
has_switch (has_picks ps) = list_any is_switch ps
has_switch (has_template ps) = list_any is_switch ps

-- whether an element is a case, or has a block round it
abbrev pub has_block : Option Case → List Block → Bool
has_block None [] = false
has_block None (b ∷ bs) = true
has_block (Some c) bs = true

-- what is round an element of the document
abbrev pub round_met : List DirectiveDef → Bool → Met → Result Around TplKind
round_met defs slots n = around_node defs slots n.1 n.0

-- whether the nodes in an element are none of its fragment: they are not compiled, or they are of a block's body
abbrev pub is_left : List DirectiveDef → Result Around TplKind → Bool
is_left defs (Ok a) = is_passed_over defs a.inside
is_left defs (Err f) = false

abbrev pub is_left_to_body : List DirectiveDef → Result Around TplKind → Bool
is_left_to_body defs (Ok a) = has_block a.case a.heads || (is_passed_over defs a.inside || is_taken_apart defs a.inside)
is_left_to_body defs (Err f) = false

-- whether they have a switch round them: the element's own, or the one round the element, where it has no block and no directive makes a scope
abbrev pub is_near : List DirectiveDef → Result Around TplKind → Bool → Bool
is_near defs (Ok a) outer = not (is_taken_apart defs a.inside) && (has_switch a.inside || (not (has_block a.case a.heads || makes_scope_by defs a.inside) && outer))
is_near defs (Err f) outer = false

abbrev pub switch_near : List DirectiveDef → Bool → Met → Bool
switch_near defs slots n = is_near defs (round_met defs slots n) n.1

-- how many nodes after an element are in it, where those are skipped
abbrev pub count_if : Bool → Node → ℕ
count_if b (element name attributes kids) = if b then forest_count kids else 0
count_if b (text t) = 0
count_if b (comment t) = 0

-- how many of them are not compiled, and how many are none of its fragment
abbrev pub not_compiled : List DirectiveDef → Bool → Met → ℕ
not_compiled defs slots n = count_if (is_left defs (round_met defs slots n)) n.0

abbrev pub not_in_fragment : List DirectiveDef → Bool → Met → ℕ
not_in_fragment defs slots n = count_if (is_left_to_body defs (round_met defs slots n)) n.0

-- the first k nodes are left out, and after each other node as many as are said to be
abbrev pub without : (Met → ℕ) → ℕ → List (Met × ℕ) → List (Met × ℕ)
without left k [] = []
without left zero (n ∷ ns) = n ∷ without left (left n.0) ns
without left (suc k) (n ∷ ns) = without left k ns

-- the nodes of a document that are compiled, in document order, each with its place; and those of its own fragment
abbrev pub nodes_compiled : List DirectiveDef → Bool → Forest × List ℕ → List (Met × ℕ)
nodes_compiled defs slots source = without (not_compiled defs slots) 0 (placed (in_order (switch_near defs slots) false source.0) source.1)

abbrev pub nodes_of_fragment : List DirectiveDef → Bool → Forest × List ℕ → List (Met × ℕ)
nodes_of_fragment defs slots source = without (not_in_fragment defs slots) 0 (placed (in_order (switch_near defs slots) false source.0) source.1)

-- why a text with these parts is refused
abbrev pub text_refusal : Result (List interp.Piece) InterpFault → Option TplKind
text_refusal (Err f) = Some Expression
text_refusal (Ok ps) = wrong ps

-- why the text of a model is refused: it can't be written to, or as any other text
abbrev pub writing_refusal : Option Trees → Option TplKind → Option TplKind
writing_refusal None o = Some Expression
writing_refusal (Some b) o = o

-- why a directive is refused: something is wrong with its text, or with the bindings of an isolate scope, which is told
-- at the turn of a directive of the application; what is told then is given
abbrev pub manner_refusal : (ℕ → Option TplKind) → Manner → Option Attr → Option TplKind
manner_refusal told (Sets s) a = text_refusal (parts_for s (text_on a))
manner_refusal told Fills a = None
manner_refusal told Passes a = None
manner_refusal told Models a = writing_refusal (writing_in (text_on a)) (text_refusal (parts_for Names (text_on a)))
manner_refusal told Changes a = program_refusal (program_in (text_on a))
manner_refusal told Slots a = None
manner_refusal told (Asks n) a = told n
manner_refusal told Starts a = program_refusal (program_in (text_on a))
manner_refusal told (Handles e) a = program_refusal (program_in (text_on a))

abbrev pub first_of : Option TplKind → Option TplKind → Option TplKind
first_of None o = o
first_of (Some k) o = Some k

-- what is wrong with the bindings of the directive that has an isolate scope
abbrev pub kind_of_wrong : Result (List Property) TplFault → Option TplKind
kind_of_wrong (Ok ps) = None
kind_of_wrong (Err f) = Some f.kind

abbrev pub isolate_in : List DirectiveDef → List Pick → Option ℕ
isolate_in defs ps = first_with defs asks_isolate (numbers_in ps)

abbrev pub told_of : List DirectiveDef → Attributes → List Pick → ℕ → Option TplKind
told_of defs attributes ps n =
    if option_map_or (λ m. m == n) (isolate_in defs ps) false then kind_of_wrong (judged_properties 0 (kept_attributes attributes) (bindings_of defs (isolate_in defs ps))) else None

abbrev pub pick_refusal : (ℕ → Option TplKind) → Pick → Option TplKind
pick_refusal told p = manner_refusal told (manner_of p.directive) p.attribute

-- the first that is refused, in the order of the directives
abbrev pub first_pick_refusal : (ℕ → Option TplKind) → List Pick → Option TplKind
first_pick_refusal told [] = None
first_pick_refusal told (p ∷ ps) = first_of (pick_refusal told p) (first_pick_refusal told ps)

-- why an element is refused by itself: what is left out, what cannot stand together, a slot where none may be, a case without a switch,
-- what is wrong with a block round it, or with the first of its directives; a plain element is not
abbrev pub inside_refusal : List DirectiveDef → Attributes → Inside → Option TplKind
inside_refusal defs attributes is_plain = None
inside_refusal defs attributes (has_picks ps) = first_pick_refusal (told_of defs attributes ps) ps
inside_refusal defs attributes (has_template ps) = if any_templates defs ps then Some MultiDir else first_pick_refusal (told_of defs attributes ps) ps

abbrev pub around_refusal : List DirectiveDef → Attributes → Result Around TplKind → Option TplKind
around_refusal defs attributes (Err kind) = Some kind
around_refusal defs attributes (Ok a) = inside_refusal defs attributes a.inside

-- why a node is refused by itself, where it has a switch round it or not
abbrev pub node_refusal : List DirectiveDef → Bool → Bool → Node → Option TplKind
node_refusal defs slots outer (element name attributes kids) = around_refusal defs attributes (around_node defs slots outer (element name attributes kids))
node_refusal defs slots outer (text t) = text_refusal (interp.pieces_in t)
node_refusal defs slots outer (comment t) = None

abbrev pub refusal : List DirectiveDef → Bool → Met → Option TplKind
refusal defs slots n = node_refusal defs slots n.1 n.0

-- the first node that is refused, at its place: those before it are not
pub data FirstRefusal (defs : List DirectiveDef) (slots : Bool) : List (Met × ℕ) → TplFault → Type 0 where
  refused_here : {n : Met} {place : ℕ} {ns : List (Met × ℕ)} {kind : TplKind} → refusal defs slots n ≡ Some kind → FirstRefusal defs slots ((n, place) ∷ ns) (refused kind place)
  refused_after : {n : Met} {place : ℕ} {ns : List (Met × ℕ)} {f : TplFault} → refusal defs slots n ≡ None → FirstRefusal defs slots ns f → FirstRefusal defs slots ((n, place) ∷ ns) f

-- no node is refused
abbrev pub NoneRefused : List DirectiveDef → Bool → List (Met × ℕ) → Type 0
NoneRefused defs slots [] = Unit {0}
NoneRefused defs slots (n ∷ ns) = (refusal defs slots n.0 ≡ None) × NoneRefused defs slots ns

-- the sites of a text: one for each of its holes
abbrev pub text_sites : SiteKind → Result (List interp.Piece) InterpFault → List Site
text_sites kind (Err f) = []
text_sites kind (Ok ps) = sites_in kind ps

-- the sites of a directive, and of an element: those of its directives in their order, and none of a plain one
abbrev pub manner_sites : Manner → Option Attr → List Site
manner_sites (Sets s) a = text_sites (kind_for s) (parts_for s (text_on a))
manner_sites Fills a = []
manner_sites Passes a = []
manner_sites Models a = text_sites (kind_for Names) (parts_for Names (text_on a))
manner_sites Changes a = []
manner_sites Slots a = []
manner_sites (Asks n) a = []
manner_sites Starts a = []
manner_sites (Handles e) a = []

abbrev pub pick_sites : Pick → List Site
pick_sites p = manner_sites (manner_of p.directive) p.attribute

-- those of the bindings come before those of the directives
abbrev pub property_sites : Result (List Property) TplFault → List Site
property_sites (Ok ps) = flat_map (λ (p : Property). read_sites p.read) ps
property_sites (Err f) = []

abbrev pub asked_sites : List DirectiveDef → Attributes → List Pick → List Site
asked_sites defs attributes ps = property_sites (judged_properties 0 (kept_attributes attributes) (bindings_of defs (isolate_in defs ps)))

abbrev pub element_sites : List DirectiveDef → Attributes → List Pick → List Site
element_sites defs attributes ps = asked_sites defs attributes ps ++ flat_map pick_sites ps

abbrev pub inside_sites : List DirectiveDef → Attributes → Inside → List Site
inside_sites defs attributes is_plain = []
inside_sites defs attributes (has_picks ps) = element_sites defs attributes ps
inside_sites defs attributes (has_template ps) = element_sites defs attributes ps

-- the outermost block has a site of the fragment, and a case has none; without them it is the element that has
abbrev pub heads_sites : List DirectiveDef → Attributes → Option Case → List Block → Inside → List Site
heads_sites defs attributes None [] i = inside_sites defs attributes i
heads_sites defs attributes None (b ∷ bs) i = site_in b ∷ []
heads_sites defs attributes (Some c) bs i = []

abbrev pub around_sites : List DirectiveDef → Attributes → Result Around TplKind → List Site
around_sites defs attributes (Err f) = []
around_sites defs attributes (Ok a) = heads_sites defs attributes a.case a.heads a.inside

-- the sites of a node by itself, in the fragment in which it stands
abbrev pub node_sites : List DirectiveDef → Bool → Bool → Node → List Site
node_sites defs slots outer (element name attributes kids) = around_sites defs attributes (around_node defs slots outer (element name attributes kids))
node_sites defs slots outer (text t) = text_sites kinds.Text (interp.pieces_in t)
node_sites defs slots outer (comment t) = []

-- the sites of these nodes
abbrev pub sites_at : List DirectiveDef → Bool → List (Met × ℕ) → List Site
sites_at defs slots ns = flat_map (λ (n : Met × ℕ). node_sites defs slots n.0.1 n.0.0) ns

-- the sites of parts in document order, by number: the holes of texts, and an element's own before those of its children
abbrev pub piece_holes : Piece → List ℕ
piece_holes (word t) = []
piece_holes (hole n) = n ∷ []

abbrev mutual
  pub part_holes : Part → List ℕ
  part_holes (text_part ps) = flat_map piece_holes ps
  part_holes (comment_part t) = []
  part_holes (element_part name own acts attributes contents) = bound_numbers acts ++ (own ++ content_holes contents)
  part_holes (anchor_part outlet own starts) = own

  pub content_holes : Contents → List ℕ
  content_holes (children ps) = holes ps
  content_holes (bound n) = []

  pub holes : Parts → List ℕ
  holes no_parts = []
  holes (part_then p ps) = part_holes p ++ holes ps
