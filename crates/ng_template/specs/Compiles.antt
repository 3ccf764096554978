-- What a document compiles to, or its first refusal.
use Rattle.std.specs.Prelude.{ℕ, ◌+◌, ◌&&◌, Bool, List, [], ◌∷◌, ◌++◌, length, nat_lt, nat_le, Option, Some, None, is_some, unwrap_or, Result, Ok, Err, if◌then◌else◌}
use Rattle.ng_base.specs.Meets.{◌>>=◌}
use Rattle.ng_collect.specs.declared.definition.DirectiveDef.{DirectiveDef}
use Rattle.ng_collect.specs.declared.pick.Pick.{Pick}
use Rattle.ng_drawing.specs.Cases.{Case}
use Rattle.ng_drawing.specs.Template.{Site, Filling, Outlet, Fragment, Template, Part, Contents, Parts, text_part, comment_part, anchor_part, children, bound, no_parts, part_then, body_if, on_case, for_each, by_name}
use Rattle.ng_drawing.specs.declared.kind.SiteKind.TheVariants as kinds
use Rattle.ng_interp.specs.Parts as interp
use Rattle.ng_language.specs.Trees.{Trees}
use Rattle.ng_markup.specs.Forest.{Attributes, Node, Forest, element, text, comment, no_nodes, node}
use Rattle.ng_template.specs.Around.{Inside, is_plain, has_picks, has_template, Block, block_if, block_for, block_named, Around, at_place, around_node}
use Rattle.ng_directives.specs.Directives.{Head}
use Rattle.ng_directives.specs.Limits.{site_limit, worn}
use Rattle.ng_elements.specs.Plain.{plain_part}
use Rattle.ng_directives.specs.Texts.{refused, judged, numbered, sites_in}
use Rattle.ng_elements.specs.Using.{transcludes}
use Rattle.ng_directives.specs.declared.fault.TplFault.{TplFault}
use Rattle.ng_directives.specs.declared.fault.TplKind.TheVariants.{MultiDir}
use Rattle.ng_directives.specs.Places.{other_places, first_place}
use Rattle.ng_elements.specs.Elements.{Made, Switch, apart_made, switch_inside, has_template_of, is_apart, in_place, element_with, opened_made, any_templates, fragment_made}

abbrev pub past : Made → Made
past m = record m { places = other_places m.places }

-- a text's sites come after those before
abbrev pub with_text : Made → List interp.Piece → Part × Made
with_text m ps = (text_part (numbered (length m.sites) ps), record m { places = other_places m.places; sites = m.sites ++ sites_in kinds.Text ps })

abbrev pub text_made : Made → Result (List interp.Piece) TplFault → Result (Part × Made) TplFault
text_made m (Err e) = Err e
text_made m (Ok ps) = if nat_lt site_limit (length m.sites + length (sites_in kinds.Text ps)) then Err worn else Ok (with_text m ps)

-- the places that are left after a node and all nodes in it
abbrev mutual
  pub after_node : Node → List ℕ → List ℕ
  after_node (element name attributes kids) places = after_forest kids (other_places places)
  after_node (text t) places = other_places places
  after_node (comment t) places = other_places places

  pub after_forest : Forest → List ℕ → List ℕ
  after_forest no_nodes places = places
  after_forest (node n f) places = after_forest f (after_node n places)

-- a node of which nothing is read
abbrev pub with_plain : Node → Made → Part × Made
with_plain n m = (plain_part n, record m { places = after_node n m.places })

-- children in whose place a text stands are not compiled
abbrev pub passed_over : Forest → Made → Made
passed_over kids m = record m { places = after_forest kids m.places }

-- the contents of an element, whose children come to this where no text stands in their place
abbrev pub contents_made : Option ℕ → Forest → Made → Result (Parts × Made) TplFault → Result (Contents × Made) TplFault
contents_made None kids m r = r >>= λ s. Ok (children s.0, s.1)
contents_made (Some n) kids m r = Ok (bound n, passed_over kids m)

-- The body of a block is a fragment of its own, which begins without sites and outlets, and without a switch round it.
abbrev pub begun_body : Made → Made
begun_body m = record m { sites = []; outlets = [] }

-- the contents of an element whose children are a body of their own
abbrev pub apart_inside : Forest → (Switch → Made → Result (Parts × Made) TplFault) → Head → Made → Result (Head × Contents × Made) TplFault
apart_inside kids go h m = go None (begun_body m) >>= apart_made kids h m

-- the contents of an element: its children, unless a template or a text stands in their place
abbrev pub inside_made : List DirectiveDef → Forest → (Switch → Made → Result (Parts × Made) TplFault) → Switch → Head → Made → Result (Head × Contents × Made) TplFault
inside_made defs kids go outer h m =
    if is_apart defs h then apart_inside kids go h m
    else if has_template_of h.acts.uses then Ok (h, in_place h.bound, passed_over kids m)
    else contents_made h.bound kids m (go (switch_inside defs h outer) m) >>= λ r. Ok (h, r.0, r.1)

abbrev pub element_of_made : List ℕ → Head × Contents × Made → Part × Made
element_of_made name r = (element_with name r.0 r.1, r.2)

-- an element whose contents come to this
abbrev pub closed_made : List ℕ → Result (Head × Contents × Made) TplFault → Result (Part × Made) TplFault
closed_made name r = r >>= λ s. Ok (element_of_made name s)

-- An element whose children are not compiled, since a template will stand in their place. A directive that gives it contents as well is
-- refused.
abbrev pub emptied_inside : List DirectiveDef → Forest → (Switch → Made → Result (Parts × Made) TplFault) → Head → Made → Result (Head × Contents × Made) TplFault
emptied_inside defs kids go h m =
    if transcludes defs h.acts.uses then apart_inside kids go h m
    else Ok (h, in_place h.bound, passed_over kids m)

abbrev pub emptied_made : List DirectiveDef → List ℕ → Attributes → Forest → (Switch → Made → Result (Parts × Made) TplFault) → List Pick → Made → Result (Part × Made) TplFault
emptied_made defs name attributes kids go ps m =
    if any_templates defs ps then Err (refused MultiDir (first_place m.places))
    else opened_made defs name ps attributes m >>= λ o. closed_made name (emptied_inside defs kids go o.0 o.1)

-- an element by itself, whose children come to this
abbrev pub element_made : List DirectiveDef → Node → List ℕ → Attributes → Forest → Inside → (Switch → Made → Result (Parts × Made) TplFault) → Switch → Made → Result (Part × Made) TplFault
element_made defs n name attributes kids is_plain go outer m = Ok (with_plain n m)
element_made defs n name attributes kids (has_picks ps) go outer m = opened_made defs name ps attributes m >>= λ o. closed_made name (inside_made defs kids go outer o.0 o.1)
element_made defs n name attributes kids (has_template ps) go outer m = emptied_made defs name attributes kids go ps m

-- an outlet that the body which was made last fills
abbrev pub outlet_by : ℕ → (ℕ → Filling) → List Fragment → Outlet
outlet_by site filling bodies = record { site = site; filling = filling (length bodies) }

-- the site of a block, and how its body fills the outlet
abbrev pub site_in : Block → Site
site_in (block_if h) = h
site_in (block_for h r) = h
site_in (block_named h starts) = h

abbrev pub filling_in : Block → ℕ → Filling
filling_in (block_if h) n = body_if n
filling_in (block_for h r) n = for_each r n
filling_in (block_named h starts) n = by_name n

-- the programs that run where its anchor is
abbrev pub starts_in : Block → List Trees
starts_in (block_if h) = []
starts_in (block_for h r) = []
starts_in (block_named h starts) = starts

-- a block alone, which is the body of the block round it
abbrev pub block_alone : Block → List Fragment → Fragment
block_alone b bodies = record { parts = part_then (anchor_part 0 (0 ∷ []) (starts_in b)) no_parts; sites = site_in b ∷ []; outlets = outlet_by 0 (filling_in b) bodies ∷ []; marks = []; spots = [] }

-- the bodies, with those of blocks that stand in one another
abbrev pub nested : List Block → List Fragment → List Fragment
nested [] bodies = bodies
nested (b ∷ bs) bodies = nested bs bodies ++ block_alone b (nested bs bodies) ∷ []

-- there are numbers left for a site, an outlet and the body that was made last
abbrev pub has_room : List Site → List Outlet → List Fragment → Bool
has_room sites outlets bodies = nat_lt (length sites) site_limit && (nat_le (length outlets) site_limit && nat_le (length bodies) site_limit)

-- the outermost block in place of its element, after these sites and outlets
abbrev pub with_block : Block → List Site → List Outlet → List ℕ → List Fragment → Part × Made
with_block b sites outlets places bodies = (
  anchor_part (length outlets) (length sites ∷ []) (starts_in b),
  record { places = places; sites = sites ++ site_in b ∷ []; outlets = outlets ++ outlet_by (length sites) (filling_in b) bodies ∷ []; bodies = bodies },
)

-- a case in place of its element: the site is that of its switch
abbrev pub with_case : ℕ → Case → List Site → List Outlet → List ℕ → List Fragment → Part × Made
with_case switch c sites outlets places bodies = (
  anchor_part (length outlets) [] [],
  record { places = places; sites = sites; outlets = outlets ++ outlet_by switch (on_case c) bodies ∷ []; bodies = bodies },
)

-- what is outermost round an element: a case of the switch of this site, or a block
pub data Outermost : Type 0 where
  the_case : ℕ → Case → Outermost
  the_block : Block → Outermost

abbrev pub outermost_made : Outermost → List Site → List Outlet → List ℕ → List Fragment → Part × Made
outermost_made (the_case switch c) sites outlets places bodies = with_case switch c sites outlets places bodies
outermost_made (the_block b) sites outlets places bodies = with_block b sites outlets places bodies

-- what is round an element: the outermost, and the blocks in that
abbrev pub Rounds : Type 0
Rounds = Option (Outermost × List Block)

abbrev pub rounds : ℕ → Option Case → List Block → Rounds
rounds switch None [] = None
rounds switch None (b ∷ bs) = Some (the_block b, bs)
rounds switch (Some c) bs = Some (the_case switch c, bs)

-- the bodies where an element came to this part by itself, with those of the blocks round it but for the outermost
abbrev pub bodies_with : List Block → Part × Made → List Fragment
bodies_with bs r = nested bs (r.1.bodies ++ fragment_made (part_then r.0 no_parts, r.1) ∷ [])

abbrev pub if_room : List Site → List Outlet → List Fragment → Part × Made → Result (Part × Made) TplFault
if_room sites outlets bodies r = if has_room sites outlets bodies then Ok r else Err worn

-- an element in its blocks, after these sites and outlets, where it came to this part by itself
abbrev pub wrapped : Outermost → List Block → List Site → List Outlet → Part × Made → Result (Part × Made) TplFault
wrapped o bs sites outlets r = if_room sites outlets (bodies_with bs r) (outermost_made o sites outlets r.1.places (bodies_with bs r))

abbrev pub in_rounds : Rounds → (Switch → Made → Result (Part × Made) TplFault) → Switch → Made → Result (Part × Made) TplFault
in_rounds None go outer m = go outer m
in_rounds (Some o) go outer m = go None (begun_body m) >>= wrapped o.0 o.1 m.sites m.outlets

abbrev pub node_made : (Inside → Switch → Made → Result (Part × Made) TplFault) → Switch → Made → Around → Result (Part × Made) TplFault
node_made go outer m a = in_rounds (rounds (unwrap_or outer 0) a.case a.heads) (go a.inside) outer m

-- The part of a node, or the refusal at its place, in document order; what is wrong with a block comes before what is wrong in its body. Slots may
-- stand here or not. A node may have a switch round it, of whose site this is the number.
abbrev mutual
  pub compiled_node : List DirectiveDef → Bool → Switch → Node → Made → Result (Part × Made) TplFault
  compiled_node defs slots outer (element name attributes kids) m =
      at_place (first_place m.places) (around_node defs slots (is_some outer) (element name attributes kids)) >>=
      node_made (λ i. element_made defs (element name attributes kids) name attributes kids i (λ o k. compiled_forest defs slots o kids k)) outer m
  compiled_node defs slots outer (text t) m = text_made m (judged (first_place m.places) (interp.pieces_in t))
  compiled_node defs slots outer (comment t) m = Ok (comment_part t, past m)

  pub compiled_forest : List DirectiveDef → Bool → Switch → Forest → Made → Result (Parts × Made) TplFault
  compiled_forest defs slots outer no_nodes m = Ok (no_parts, m)
  compiled_forest defs slots outer (node n f) m = compiled_node defs slots outer n m >>= λ r. compiled_forest defs slots outer f r.1 >>= λ s. Ok (part_then r.0 s.0, s.1)

-- the template of a document, in which slots may stand or not
abbrev pub compiled : Forest × List ℕ → List DirectiveDef → Bool → Result Template TplFault
compiled source defs slots =
    compiled_forest defs slots None source.0 (record { places = source.1; sites = []; outlets = []; bodies = [] }) >>= λ r. Ok (record { own = fragment_made r; bodies = r.1.bodies })
