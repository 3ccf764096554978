-- What the compiler makes: the sites and outlets of a fragment are numbered in document order, those of an element's bindings before its own,
-- these before those of its children, and an element's attributes and contents are drawn from its own sites alone.
use Rattle.std.specs.Prelude.{ℕ, ◌≡◌, ◌+◌, ◌==◌, ◌&&◌, Bool, true, false, not, List, [], ◌∷◌, length, Option, Some, None, option_and_then, nat_le, nat_lt, if◌then◌else◌}
use Rattle.std.specs.List.{flat_map, list_all}
use Rattle.std.specs.Option.{option_map_or}
use Rattle.ng_drawing.specs.Template.{Piece, word, hole, Hiding, while_true, while_false, PartClass, PartValue, always, unless_empty, flag, classes, PartAttributes, Source, of_text, of_nothing, one_way, two_way, of_call, Binding, Uses, Acts, Part, Contents, Parts, text_part, comment_part, element_part, anchor_part, children, bound, no_parts, part_then, Filling, body_if, on_case, for_each, by_name, Outlet, Fragment, Template}

-- the number after those of the holes, where they are numbered from n on
abbrev pub after_pieces : ℕ → List Piece → Option ℕ
after_pieces n [] = Some n
after_pieces n (word w ∷ ps) = after_pieces n ps
after_pieces n (hole k ∷ ps) = if k == n then after_pieces (n + 1) ps else None

-- the number after those of an element's own sites, where they are numbered from n on
abbrev pub after_own : ℕ → List ℕ → Option ℕ
after_own n [] = Some n
after_own n (k ∷ ks) = if k == n then after_own (n + 1) ks else None

-- whether a number is one of those from n on, below c
abbrev pub is_within : ℕ → ℕ → ℕ → Bool
is_within n c k = nat_le n k && nat_lt k c

-- whether it is one of them, but not this one
abbrev pub is_apart : ℕ → ℕ → ℕ → ℕ → Bool
is_apart b n c k = is_within n c k && not (k == b)

-- whether what is drawn has such numbers alone
abbrev pub is_piece_drawn : (ℕ → Bool) → Piece → Bool
is_piece_drawn test (word w) = true
is_piece_drawn test (hole k) = test k

abbrev pub is_hiding_drawn : (ℕ → Bool) → Hiding → Bool
is_hiding_drawn test (while_true k) = test k
is_hiding_drawn test (while_false k) = test k

abbrev pub is_class_drawn : (ℕ → Bool) → PartClass → Bool
is_class_drawn test p = list_all (is_piece_drawn test) p.pieces && (list_all test p.words && list_all (is_hiding_drawn test) p.hidings)

abbrev pub is_value_drawn : (ℕ → Bool) → PartValue → Bool
is_value_drawn test (always ps) = list_all (is_piece_drawn test) ps
is_value_drawn test (unless_empty ps) = list_all (is_piece_drawn test) ps
is_value_drawn test (flag w k) = test k
is_value_drawn test (classes p) = is_class_drawn test p

abbrev pub are_drawn : (ℕ → Bool) → PartAttributes → Bool
are_drawn test ats = list_all (λ a. is_value_drawn test a.1) ats

-- the sites of a text, of a binding, and of an element's bindings
abbrev pub hole_numbers : List Piece → List ℕ
hole_numbers [] = []
hole_numbers (word t ∷ ps) = hole_numbers ps
hole_numbers (hole n ∷ ps) = n ∷ hole_numbers ps

abbrev pub source_numbers : Source → List ℕ
source_numbers (of_text ps) = hole_numbers ps
source_numbers of_nothing = []
source_numbers (one_way n) = n ∷ []
source_numbers (two_way n w) = n ∷ []
source_numbers (of_call p) = []

abbrev pub bound_numbers : Acts → List ℕ
bound_numbers a = option_map_or (λ (u : Uses). flat_map (λ (b : Binding). source_numbers b.source) u.bindings) a.uses []

-- The number after those of an element: its bindings' are those from n on, its own those from k on, below c. The one that its contents show
-- draws no attribute.
abbrev mutual
  pub after_part : ℕ → Part → Option ℕ
  after_part n (text_part ps) = after_pieces n ps
  after_part n (comment_part t) = Some n
  after_part n (element_part e own acts ats p) = option_and_then (λ k. option_and_then (λ c. after_contents k c ats p) (after_own k own)) (after_own n (bound_numbers acts))
  after_part n (anchor_part outlet own starts) = after_own n own

  pub after_contents : ℕ → ℕ → PartAttributes → Contents → Option ℕ
  after_contents n c ats (children ps) = if are_drawn (is_within n c) ats then after_parts c ps else None
  after_contents n c ats (bound b) = if is_within n c b && are_drawn (is_apart b n c) ats then Some c else None

  pub after_parts : ℕ → Parts → Option ℕ
  after_parts n no_parts = Some n
  after_parts n (part_then p ps) = option_and_then (λ k. after_parts k ps) (after_part n p)

-- whether parts are drawn from such sites alone, and the bindings of directives read from such sites
abbrev mutual
  pub part_draws : (ℕ → Bool) → Part → Bool
  part_draws test (text_part ps) = list_all (is_piece_drawn test) ps
  part_draws test (comment_part t) = true
  part_draws test (element_part e own acts ats p) = list_all test (bound_numbers acts) && (are_drawn test ats && contents_draw test p)
  part_draws test (anchor_part outlet own starts) = true

  pub contents_draw : (ℕ → Bool) → Contents → Bool
  contents_draw test (children ps) = parts_draw test ps
  contents_draw test (bound b) = test b

  pub parts_draw : (ℕ → Bool) → Parts → Bool
  parts_draw test no_parts = true
  parts_draw test (part_then p ps) = part_draws test p && parts_draw test ps

-- the number after those of the outlets, where they are numbered from n on
abbrev mutual
  pub outlets_of_part : ℕ → Part → Option ℕ
  outlets_of_part n (text_part ps) = Some n
  outlets_of_part n (comment_part t) = Some n
  outlets_of_part n (element_part e own acts ats p) = outlets_of_contents n p
  outlets_of_part n (anchor_part outlet own starts) = if outlet == n then Some (n + 1) else None

  pub outlets_of_contents : ℕ → Contents → Option ℕ
  outlets_of_contents n (children ps) = after_outlets n ps
  outlets_of_contents n (bound b) = Some n

  pub after_outlets : ℕ → Parts → Option ℕ
  after_outlets n no_parts = Some n
  after_outlets n (part_then p ps) = option_and_then (λ k. after_outlets k ps) (outlets_of_part n p)

abbrev pub is_number : ℕ → Option ℕ → Bool
is_number n None = false
is_number n (Some k) = k == n

-- an outlet has the number of a site and that of a body
abbrev pub is_body : ℕ → Filling → Bool
is_body bodies (body_if b) = nat_lt 0 b && nat_le b bodies
is_body bodies (on_case c b) = nat_lt 0 b && nat_le b bodies
is_body bodies (for_each r b) = nat_lt 0 b && nat_le b bodies
is_body bodies (by_name b) = nat_lt 0 b && nat_le b bodies

abbrev pub is_outlet : ℕ → ℕ → Outlet → Bool
is_outlet sites bodies o = nat_lt o.site sites && is_body bodies o.filling

-- each outlet of a fragment has numbers that are there, where there are so many bodies
abbrev pub are_outlets : ℕ → Fragment → Bool
are_outlets bodies f = list_all (is_outlet (length f.sites) bodies) f.outlets

-- nothing is drawn from the site of an outlet
abbrev pub is_undrawn : ℕ → Parts → Outlet → Bool
is_undrawn sites ps o = parts_draw (is_apart o.site 0 sites) ps

abbrev pub are_undrawn : Fragment → Bool
are_undrawn f = list_all (is_undrawn (length f.sites) f.parts) f.outlets

-- the sites and outlets of a fragment are numbered so
abbrev pub is_numbered : Fragment → Bool
is_numbered f = is_number (length f.sites) (after_parts 0 f.parts) && is_number (length f.outlets) (after_outlets 0 f.parts)

abbrev pub is_whole : ℕ → Fragment → Bool
is_whole bodies f = is_numbered f && (are_outlets bodies f && are_undrawn f)

-- and so are those of a fragment whose outlets have the numbers of bodies, whatever these are
abbrev pub HasOrder : Fragment → Type 0
HasOrder f = (bodies : ℕ) × (is_whole bodies f ≡ true)

-- and so are those of each fragment of a template
abbrev pub is_regular : Template → Bool
is_regular t = list_all (is_whole (length t.bodies)) (t.own ∷ t.bodies)

-- nothing is said of scopes: all of it is on one
abbrev pub is_bare : Fragment → Bool
is_bare f = (length f.marks == 0) && (length f.spots == 0)

abbrev pub are_bare : Template → Bool
are_bare t = list_all is_bare (t.own ∷ t.bodies)
