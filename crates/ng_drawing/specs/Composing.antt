-- A fragment with the templates of its directives in it (guide: Directives; API: `$compile`, `template`, `transclude`, ngTransclude). In place of an
-- element's children stands the template of its directive, and in a slot of that the children that were written in the element. So a fragment that
-- is linked is one tree of parts; its sites and outlets are numbered anew in document order, and for each it is said on which scope it stands. The
-- scopes that are made are numbered in the order of linking, behind the instance's own.
use Rattle.std.specs.Prelude.{ℕ, zero, suc, ◌+◌, ◌-◌, ◌==◌, ◌||◌, Bool, true, false, List, [], ◌∷◌, ◌++◌, map, length, replicate, nat_lt, slice_get, Option, None, Some, is_some, option_map, if◌then◌else◌}
use Rattle.std.specs.List.{list_any}
use Rattle.std.specs.Option.{option_map_or}
use Rattle.ng_drawing.specs.Nodes.{node_limit}
use Rattle.ng_drawing.specs.Template.{Piece, PartAttributes, Uses, Outside, inside, handed, Scopes, Acts, no_acts, one_scope, Part, Contents, Parts, text_part, comment_part, element_part, anchor_part, children, bound, no_parts, part_then, Site, Outlet, SiteScopes, OutletScope, Fragment}
use Rattle.ng_drawing.specs.declared.origin.Content.{Content}
use Rattle.ng_drawing.specs.declared.origin.Home.{Home}
use Rattle.ng_base.specs.declared.name.TplId.{TplId}
use Rattle.ng_language.specs.Trees.{Trees}
use Rattle.ng_drawing.specs.Numbering.{hole_numbers, bound_numbers}
use Rattle.ng_drawing.specs.Moved.{moved_by, moved_piece, found_in, moved_attributes, composed_acts}

-- Where parts are composed: the fragment that they are of, whose numbers they have; its template, how many templates may still be inside one
-- another there, and what its slots are given; the scopes outside the directives that give it; and the scope.
pub record Region : Type 0 where
  pub source : Fragment
  pub home : Home
  pub outsides : List Outside
  pub scope : ℕ

-- What is composed so far: sites with their scopes, outlets with theirs, how many scopes there are, how many nodes may still be written, and whether
-- that has ended; and the numbers that the sites of the region got, by their numbers there. Those in what was passed over got none.
pub record Composed : Type 0 where
  pub sites : List Site
  pub marks : List SiteScopes
  pub outlets : List Outlet
  pub spots : List OutletScope
  pub scopes : ℕ
  pub nodes : ℕ
  pub ended : Bool
  pub moved : List (Option ℕ)

-- a step of composing, with what it gives
abbrev pub Doing : Type 0 → Type 0
Doing A = Composed → A × Composed

infixl 10 ◌▸◌
abbrev pub ◌▸◌ : {A B : Type 0} → Doing A → (A → Doing B) → Doing B
(m ▸ go) c = go (m c).0 (m c).1

abbrev pub gives : {A : Type 0} → A → Doing A
gives v c = (v, c)

abbrev pub changes : (Composed → Composed) → Doing (Unit {0})
changes f c = (tt, f c)

abbrev pub ends : {A : Type 0} → A → Doing A
ends v c = (v, record c { ended = true })

abbrev pub numbers : Doing (ℕ → ℕ)
numbers c = (moved_by c.moved, c)

-- the sites up to one, of which those that were passed over got no number
abbrev pub padded : ℕ → List (Option ℕ) → List (Option ℕ)
padded n ns = ns ++ replicate (n - length ns) None

-- a site of the region under the next number, on these scopes
abbrev pub with_site : SiteScopes → ℕ → Site → Composed → Composed
with_site m n x c = record c { sites = c.sites ++ x ∷ []; marks = c.marks ++ m ∷ []; moved = padded n c.moved ++ Some (length c.sites) ∷ [] }

abbrev pub site_on : SiteScopes → ℕ → Option Site → Doing (Unit {0})
site_on m n None = ends tt
site_on m n (Some x) = changes (with_site m n x)

abbrev pub sites_on : Region → SiteScopes → List ℕ → Doing (Unit {0})
sites_on r m [] = gives tt
sites_on r m (n ∷ ns) = site_on m n (slice_get r.source.sites n) ▸ λ u. sites_on r m ns

abbrev pub on : ℕ → SiteScopes
on s = record { under = s; over = s }

-- an outlet under the next number
abbrev pub with_outlet : Region → Outlet → Composed → Composed
with_outlet r x c = record c {
  outlets = c.outlets ++ record x { site = moved_by c.moved x.site } ∷ [];
  spots = c.spots ++ record { home = r.home; scope = r.scope; outsides = r.outsides } ∷ [];
}

abbrev pub outlet_in : Region → Option Outlet → Doing ℕ
outlet_in r None c = ends 0 c
outlet_in r (Some x) c = (length c.outlets, with_outlet r x c)

-- a node is written, where one more may be; else all ends
abbrev pub written_by : ℕ → Doing Bool
written_by zero c = ends false c
written_by (suc n) c = (true, record c { nodes = n })

abbrev pub written : Doing Bool
written c = written_by c.nodes c

abbrev pub unless_full : {A : Type 0} → A → Doing A → Doing A
unless_full none go = written ▸ λ b. if b then go else gives none

abbrev pub writes : Doing Parts → Doing Parts
writes go = unless_full no_parts go

abbrev pub alone : Part → Parts
alone p = part_then p no_parts

abbrev pub text_composed : Region → List Piece → Doing Parts
text_composed r ps = sites_on r (on r.scope) (hole_numbers ps) ▸ λ u. numbers ▸ λ f. gives (alone (text_part (map (moved_piece f) ps)))

-- whether the site of an outlet is the anchor's own, or got a number before
abbrev pub has_site : List ℕ → List (Option ℕ) → Option Outlet → Bool
has_site own ns None = false
has_site own ns (Some x) = list_any (λ n. n == x.site) own || is_some (found_in ns x.site)

abbrev pub anchor_there : Region → ℕ → List ℕ → List Trees → Doing Parts
anchor_there r o own starts =
    sites_on r (on r.scope) own ▸ λ u. numbers ▸ λ f. outlet_in r (slice_get r.source.outlets o) ▸ λ n. gives (alone (anchor_part n (map f own) starts))

-- An anchor. In no template is one whose outlet has a site further behind.
abbrev pub anchor_composed : Region → ℕ → List ℕ → List Trees → Doing Parts
anchor_composed r o own starts c = if has_site own c.moved (slice_get r.source.outlets o) then anchor_there r o own starts c else ends no_parts c

-- a scope more, where it is asked for, by its number; or else another
abbrev pub scope_if : Bool → ℕ → Doing ℕ
scope_if true n c = (c.scopes, record c { scopes = c.scopes + 1 })
scope_if false n c = (n, c)

abbrev pub directive_count : Option Uses → ℕ
directive_count u = option_map_or (λ (v : Uses). length v.directives) u 0

abbrev pub asks_child : Option Uses → Bool
asks_child u = option_map_or (λ (v : Uses). v.child) u false

abbrev pub asks_isolate : Option Uses → Bool
asks_isolate u = option_map_or (λ (v : Uses). is_some v.isolate) u false

-- the region in an element on a scope, in which so many templates less may be inside one another
abbrev pub region_in : Option Uses → ℕ → Region → Region
region_in u s r = record r { scope = s; home = record r.home { room = r.home.room - directive_count u } }

abbrev pub content_given : Home → Option ℕ → Option Content
content_given h n = option_map (λ b. record { template = h.template; body = b }) n

-- The region of a directive's template, which may be given the children of the element. The scope outside these is the one round the element.
abbrev pub given_by : Uses → Home → List (Option Content)
given_by u h = if u.passes then content_given h u.content ∷ h.given else []

abbrev pub outsides_by : Uses → ℕ → List Outside → List Outside
outsides_by u outer os = if u.passes then inside outer ∷ os else []

abbrev pub template_home : Uses → TplId → Home → Home
template_home u t h = record { template = t; room = h.room; given = given_by u h }

abbrev pub template_region : Uses → Fragment → TplId → (outer own isolate : ℕ) → Region → Region
template_region u f t outer own isolate r = record {
  source = f;
  home = template_home u t r.home;
  outsides = outsides_by u outer r.outsides;
  scope = if u.apart then isolate else own;
}

abbrev pub head_or : {A : Type 0} → A → List A → A
head_or v [] = v
head_or v (x ∷ xs) = x

abbrev pub tail_of : {A : Type 0} → List A → List A
tail_of [] = []
tail_of (x ∷ xs) = xs

-- what a slot is given in a region, and the scope outside that
abbrev pub given_in : Bool → Region → Option Content
given_in true r = head_or None r.home.given
given_in false r = None

abbrev pub outside_in : Option Content → Region → Option Outside
outside_in None r = None
outside_in (Some k) r = Some (head_or (handed 0) r.outsides)

-- the region of children that a slot is given
abbrev pub content_region : Fragment → Content → ℕ → Region → Region
content_region f k scope r = record {
  source = f;
  home = record { template = k.template; room = r.home.room; given = tail_of r.home.given };
  outsides = tail_of r.outsides;
  scope = scope;
}

-- what is in another fragment has numbers of its own
abbrev pub with_moved : List (Option ℕ) → Parts × Composed → Parts × Composed
with_moved ns q = (q.0, record q.1 { moved = ns })

abbrev pub within : Doing Parts → Doing Parts
within go c = with_moved c.moved (go (record c { moved = [] }))

-- an element that is inside too many directives: nothing is made of it, and nothing comes behind it
abbrev pub deep_part : List ℕ → Part
deep_part e = element_part e [] (record no_acts { scopes = record one_scope { deep = true } }) [] (children no_parts)

abbrev pub unless_deep : Region → List ℕ → Option Uses → Doing Parts → Doing Parts
unless_deep r e u go = if nat_lt r.home.room (directive_count u) then ends (alone (deep_part e)) else writes go

abbrev pub unless_ended : Doing Parts → Doing Parts
unless_ended go c = if c.ended then (no_parts, c) else go c

abbrev pub bound_composed : ℕ → Doing Contents
bound_composed n = unless_full (children no_parts) (numbers ▸ λ f. gives (bound (f n)))

-- the scopes of an element, and the sites of its directives' bindings on these
abbrev pub scopes_for : Region → Option Uses → Option Outside → Doing Scopes
scopes_for r u slot =
    scope_if (asks_child u) r.scope ▸ λ o. scope_if (asks_isolate u) 0 ▸ λ i.
    sites_on r (record { under = i; over = o }) (bound_numbers (record no_acts { uses = u })) ▸ λ v.
    gives (record { outer = r.scope; own = o; isolate = i; slot = slot; deep = false })

abbrev pub scopes_composed : Region → Acts → Doing Scopes
scopes_composed r acts = scopes_for r acts.uses (outside_in (given_in acts.slot r) r)

-- the template of an element's directive, if there is one
abbrev pub template_in : Option Uses → Option (Uses × ℕ)
template_in None = None
template_in (Some u) = option_map (λ t. (u, t)) u.template

abbrev pub followed : Parts → Parts → Parts
followed no_parts qs = qs
followed (part_then p ps) qs = part_then p (followed ps qs)

-- Parts, given the fragments of templates, and how the parts of one are composed in a region of its own.
module _ (fragment : TplId → ℕ → Option Fragment) (enter : Region → Doing Parts) where
  abbrev pub entered : Option Fragment → (Fragment → Region) → Doing Contents
  entered None at = ends (children no_parts)
  entered (Some f) at = within (enter (at f)) ▸ λ ps. gives (children ps)

  -- the children that a slot is given, on a scope of their own
  abbrev pub slot_entered : Region → Content → Doing Contents
  slot_entered r k = scope_if true 0 ▸ λ g. entered (fragment k.template k.body) (λ f. content_region f k g r)

  abbrev pub given_composed : Region → Option Content → Doing Contents → Doing Contents
  given_composed r None kids = kids
  given_composed r (Some k) kids = slot_entered r k

  -- the template of a directive
  abbrev pub template_entered : Uses → TplId → Scopes → Region → Doing Contents
  template_entered u t s r = entered (fragment t 0) (λ f. template_region u f t s.outer s.own s.isolate r)

  -- the contents of an element: the template of its directive, or what a slot is given, or its own
  abbrev pub used_by : Option (Uses × ℕ) → Bool → Scopes → Region → Doing Contents → Doing Contents
  used_by None slot s r kids = given_composed r (given_in slot r) kids
  used_by (Some x) slot s r kids = template_entered x.0 (record { 0 = x.1 }) s r

  abbrev pub used_composed : Acts → Scopes → Region → Doing Contents → Doing Contents
  used_composed acts s r kids = used_by (template_in acts.uses) acts.slot s r kids

  -- After the node of an element its scopes are made, then come the sites of its directives' bindings, and then its own.
  abbrev pub element_composed : Region → List ℕ → List ℕ → Acts → PartAttributes → (Region → Doing Contents) → Doing Parts
  element_composed r e own acts ats kids =
      scopes_composed r acts ▸ λ s. sites_on r (on s.own) own ▸ λ v. numbers ▸ λ f.
      used_composed acts s (region_in acts.uses s.own r) (kids (region_in acts.uses s.own r)) ▸ λ k.
      gives (alone (element_part e (map f own) (composed_acts f acts s) (moved_attributes f ats) k))

  abbrev mutual
    pub part_composed : Region → Part → Doing Parts
    part_composed r (text_part ps) = writes (text_composed r ps)
    part_composed r (comment_part t) = writes (gives (alone (comment_part t)))
    part_composed r (anchor_part o own starts) = writes (anchor_composed r o own starts)
    part_composed r (element_part e own acts ats p) = unless_deep r e acts.uses (element_composed r e own acts ats (λ q. contents_composed q p))

    pub contents_composed : Region → Contents → Doing Contents
    contents_composed r (children ps) = parts_composed r ps ▸ λ qs. gives (children qs)
    contents_composed r (bound n) = bound_composed n

    pub parts_composed : Region → Parts → Doing Parts
    parts_composed r no_parts = gives no_parts
    parts_composed r (part_then p ps) = unless_ended (part_composed r p ▸ λ q. parts_composed r ps ▸ λ qs. gives (followed q qs))

-- The templates in one another are at most as many as the room, and each that is entered is given one more at most: what a slot is given is one less.
abbrev pub composed_in : (TplId → ℕ → Option Fragment) → ℕ → Region → Doing Parts
composed_in fragment zero r = ends no_parts
composed_in fragment (suc fuel) r = parts_composed fragment (composed_in fragment fuel) r r.source.parts

abbrev pub fuel_for : Home → ℕ
fuel_for h = h.room + h.room + length h.given + 1

-- the scopes outside what an instance's slots are given are handed to it
abbrev pub handed_all : ℕ → List (Option Content) → List Outside
handed_all i [] = []
handed_all i (k ∷ ks) = handed i ∷ handed_all (i + 1) ks

abbrev pub region_of : Fragment → Home → Region
region_of f h = record { source = f; home = h; outsides = handed_all 0 h.given; scope = 0 }

-- one node more than a page may have: a fragment with so many finds no room
abbrev pub nothing_composed : Composed
nothing_composed = record { sites = []; marks = []; outlets = []; spots = []; scopes = 1; nodes = node_limit + 1; ended = false; moved = [] }

abbrev pub fragment_by : Parts × Composed → Fragment
fragment_by q = record { parts = q.0; sites = q.1.sites; outlets = q.1.outlets; marks = q.1.marks; spots = q.1.spots }

-- whether there are directives of the application or slots
abbrev mutual
  pub is_directed_part : Part → Bool
  is_directed_part (text_part ps) = false
  is_directed_part (comment_part t) = false
  is_directed_part (anchor_part o own starts) = false
  is_directed_part (element_part e own acts ats p) = is_some acts.uses || acts.slot || is_directed_in p

  pub is_directed_in : Contents → Bool
  is_directed_in (children ps) = is_directed ps
  is_directed_in (bound n) = false

  pub is_directed : Parts → Bool
  is_directed no_parts = false
  is_directed (part_then p ps) = is_directed_part p || is_directed ps

-- A fragment of a home with the templates of its directives in it. One without directives of the application and slots is as it is.
abbrev pub composed : (TplId → ℕ → Option Fragment) → Home → Fragment → Fragment
composed fragment h f = if is_directed f.parts then fragment_by (composed_in fragment (fuel_for h) (region_of f h) nothing_composed) else f
