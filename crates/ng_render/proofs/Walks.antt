-- Walks over lists that join what the items show.
use Rattle.std.proofs.Common.{◌≡◌, ℕ, zero, suc, ◌+◌, ◌<◌, ◌≤◌, List, [], ◌∷◌, ◌++◌, map, drop, get_or, length, Some, None, false, Result, Ok, Err, refl, ap, sym, subst, ◌∙◌, arith}
use Rattle.std.proofs.lemmas.List.{at_drop_more, drop_all}
use Rattle.std.specs.Prelude.{IsErrAnd}
use Rattle.ng_base.specs.Faults.{is_memory}
use Rattle.ng_base.specs.Meets.{Gives}
use Rattle.ng_html.proofs.Forests.{forest_of-items}
use Rattle.ng_html.specs.Seen.{node_of}
use Rattle.ng_html.specs.declared.forest.Node as code_node
use Rattle.ng_markup.specs.Forest.{Node, Forest, no_nodes, node, with_node, forest_from}
use Rattle.ng_drawing.specs.Template.{Part, parts_from}
use Rattle.ng_drawing.specs.Drawing.{followed_by, Now, GroupsNow, Rendered, ◌>>-◌, shown_as, render_part, render}
use Rattle.ng_drawing.specs.Instance.{Instance, instances_from, outlets_from, rendering, rendering_all, Group}
use Rattle.ng_drawing.specs.Nodes.{part_nodes, nodes}
use Rattle.ng_base.specs.Objects.{Object}
use Rattle.ng_base.specs.declared.fault.Fault.{Fault}
use Rattle.ng_behaviour.specs.Scopes.{Scope}
use Rattle.ng_render.specs.OverOf.{InstanceStands, InstancesStand, OutletsStand}

-- what is joined after what was joined before
abbrev pub behind : {C : Type 0} → (C → C → C) → C → Rendered C → Rendered C
behind join c r = r >>- λ d. shown_as (join c d)

-- ---- texts and words

abbrev pub joined : List ℕ → List ℕ → List ℕ
joined t u = t ++ u

abbrev pub words_joined : List (List ℕ) → List (List ℕ) → List (List ℕ)
words_joined ws vs = ws ++ vs

-- ---- forests

pub followed-none : (f : Forest) → followed_by f no_nodes ≡ f
followed-none no_nodes = refl
followed-none (node n f) = ap (node n) (followed-none f)

pub followed-followed : (f g h : Forest) → followed_by (followed_by f g) h ≡ followed_by f (followed_by g h)
followed-followed no_nodes g h = refl
followed-followed (node n f) g h = ap (node n) (followed-followed f g h)

pub followed-put : (f : Forest) (n : Node) (g : Forest) → followed_by (with_node f n) g ≡ followed_by f (node n g)
followed-put no_nodes n g = refl
followed-put (node m f) n g = ap (node m) (followed-put f n g)

-- a copy more
pub copied_turn : (xs : List code_node.Node) (i : ℕ) (x : code_node.Node) (f : Forest) (n : Node) → i < length xs → x ≡ get_or xs i x → n ≡ node_of x
    → followed_by (with_node f n) (forest_from (map node_of (drop (i + 1) xs))) ≡ followed_by f (forest_from (map node_of (drop i xs)))
copied_turn xs i x f n l is made =
    let rest : Forest = forest_from (map node_of (drop (i + 1) xs)) in
    followed-put f n rest ∙ (ap (λ m. followed_by f (node m rest)) (made ∙ ap node_of is) ∙ sym (at_drop_more (λ zs. followed_by f (forest_from (map node_of zs))) xs i x l))

pub copied_last : (xs : List code_node.Node) (i : ℕ) (f : Forest) → length xs ≤ i → followed_by f (forest_from (map node_of (drop i xs))) ≡ f
copied_last xs i f l = ap (λ zs. followed_by f (forest_from (map node_of zs))) (drop_all i xs l) ∙ followed-none f

-- a fault that is handed on
pub gives_err : {A B : Type 0} (seen : A → B) (asked : Result B Fault) (r : Result A Fault) (e : Fault) → IsErrAnd r (λ y. y ≡ e) → (is_memory e ≡ false → asked ≡ Err e) → Gives is_memory seen asked r
gives_err seen asked (Ok v) e is h = absurd is
gives_err seen asked (Err d) e is h = λ (free : is_memory d ≡ false). h (ap is_memory (sym is) ∙ free) ∙ ap Err (sym is)

pub ruleset forest_steps = (forest_of-items, followed-put, followed-none)

put_on : (f g : Forest) (r : Rendered Forest) → behind followed_by (followed_by f g) r ≡ behind followed_by f (r >>- λ h. shown_as (followed_by g h))
put_on f g (Ok (Some h)) = ap shown_as (followed-followed f g h)
put_on f g (Ok None) = refl
put_on f g (Err e) = refl

-- ---- lists of what is rendered as forests, one after another

pub record IsWalk {Y : Type 0} (one : Y → Rendered Forest) (all : List Y → Rendered Forest) : Type 0 where
  pub none : all [] ≡ shown_as no_nodes
  pub more : (y : Y) (ys : List Y) → all (y ∷ ys) ≡ (one y >>- λ f. all ys >>- λ g. shown_as (followed_by f g))

module _ {X Y : Type 0} (one : Y → Rendered Forest) (all : List Y → Rendered Forest) (walk : IsWalk one all) (seen : X → Y) (xs : List X) (i : ℕ) where
  abbrev from : Forest → Rendered Forest → Rendered Forest
  from f r = behind followed_by f (r >>- λ g. all (map seen (drop (i + 1) xs)) >>- λ h. shown_as (followed_by g h))

  stepped : (x : X) (f : Forest) (r : Rendered Forest) → i < length xs → x ≡ get_or xs i x → one (seen x) ≡ r → behind followed_by f (all (map seen (drop i xs))) ≡ from f r
  stepped x f r l is shows =
      at_drop_more (λ zs. behind followed_by f (all (map seen zs))) xs i x l
      ∙ (ap (behind followed_by f) (walk.more (seen (get_or xs i x)) (map seen (drop (i + 1) xs)))
      ∙ ap (from f) (ap (λ y. one (seen y)) (sym is) ∙ shows))

  -- one more
  pub walk_turn : (x : X) (f g : Forest) → i < length xs → x ≡ get_or xs i x → one (seen x) ≡ shown_as g
      → behind followed_by (followed_by f g) (all (map seen (drop (i + 1) xs))) ≡ behind followed_by f (all (map seen (drop i xs)))
  walk_turn x f g l is shows = put_on f g (all (map seen (drop (i + 1) xs))) ∙ sym (stepped x f (shown_as g) l is shows)

  -- one that doesn't fit, and one that is faulted
  pub walk_unfit : (x : X) (f : Forest) → i < length xs → x ≡ get_or xs i x → one (seen x) ≡ Ok None → behind followed_by f (all (map seen (drop i xs))) ≡ Ok None
  walk_unfit x f l is shows = stepped x f (Ok None) l is shows

  pub walk_faulted : (x : X) (f : Forest) (e : Fault) → i < length xs → x ≡ get_or xs i x → one (seen x) ≡ Err e → behind followed_by f (all (map seen (drop i xs))) ≡ Err e
  walk_faulted x f e l is shows = stepped x f (Err e) l is shows

  -- none is left
  pub walk_last : (f : Forest) → length xs ≤ i → behind followed_by f (all (map seen (drop i xs))) ≡ shown_as f
  walk_last f l = ap (λ zs. behind followed_by f (all (map seen zs))) (drop_all i xs l) ∙ (ap (behind followed_by f) walk.none ∙ ap shown_as (followed-none f))

-- ---- parts

abbrev pub render_list : Now → GroupsNow → List Part → Rendered Forest
render_list now groups ps = render now groups (parts_from ps)

pub parts_walk : (now : Now) (groups : GroupsNow) → IsWalk (render_part now groups) (render_list now groups)
parts_walk now groups = record { none = refl; more = λ p ps. refl }

-- a part of a list has no more nodes than the list
pub part_within : {X : Type 0} (seen : X → Part) (xs : List X) (i : ℕ) (x : X) → i < length xs → x ≡ get_or xs i x → part_nodes (seen x) ≤ nodes (parts_from (map seen xs))
part_within seen [] i x l is = absurd (omega (arith, l))
part_within seen (y ∷ ys) zero x l is = let e = ap (λ z. part_nodes (seen z)) is in omega (arith, e)
part_within seen (y ∷ ys) (suc i) x l is = let h = part_within seen ys i x (omega (arith, l)) is in omega (arith, h)

-- ---- bodies

abbrev pub bodies_list : List Object → List Scope → List Instance → Rendered Forest
bodies_list objects scopes is = rendering_all objects scopes (instances_from is)

pub bodies_walk : (objects : List Object) (scopes : List Scope) → IsWalk (rendering objects scopes) (bodies_list objects scopes)
bodies_walk objects scopes = record { none = refl; more = λ i is. refl }

-- the names of each body stand
pub body_stands : {X : Type 0} (objects : List Object) (scopes : List Scope) (seen : X → Instance) (xs : List X) (i : ℕ) (x : X) → i < length xs → x ≡ get_or xs i x
    → InstancesStand objects scopes (instances_from (map seen xs)) → InstanceStands objects scopes (seen x)
body_stands objects scopes seen [] i x l is h = absurd (omega (arith, l))
body_stands objects scopes seen (y ∷ ys) zero x l is h = subst (λ z. InstanceStands objects scopes (seen z)) (sym is) h.0
body_stands objects scopes seen (y ∷ ys) (suc i) x l is h = body_stands objects scopes seen ys i x (omega (arith, l)) is h.1

pub bodies_stand : {X : Type 0} (objects : List Object) (scopes : List Scope) (seen : X → Group) (xs : List X) (i : ℕ) (x : X) → i < length xs → x ≡ get_or xs i x
    → OutletsStand objects scopes (outlets_from (map seen xs)) → InstancesStand objects scopes (seen x).1
bodies_stand objects scopes seen [] i x l is h = absurd (omega (arith, l))
bodies_stand objects scopes seen (y ∷ ys) zero x l is h = subst (λ z. InstancesStand objects scopes (seen z).1) (sym is) h.0
bodies_stand objects scopes seen (y ∷ ys) (suc i) x l is h = bodies_stand objects scopes seen ys i x (omega (arith, l)) is h.1
