-- The plain forest of a name is that of the node that is read there.
use Rattle.std.proofs.Common.{◌≡◌, ◌<◌, ◌≤◌, ◌+◌, ℕ, zero, suc, List, [], Option, Some, None, refl, ap, ◌∙◌, arith}
use Rattle.ng_markup.specs.Forest.{Forest, element, comment, no_nodes, node, with_node, Node}
use Rattle.ng_dom.specs.Records.{Runs, node_at}
use Rattle.ng_dom.specs.Nodes.{NamedNode, NamedForest, NamedGroups, named_text, named_comment, named_element, named_anchor, nothing_named, named_then, no_groups, group_then, name_of, names_of, group_names, followed_by, plain_node, plain, plain_groups}
use Rattle.ng_dom.specs.Rooms.{Rooms, shape_of, HasRoom, ReadsInside, ReadsIn, ReadsGroups}
use Rattle.std.specs.Prelude.{is_some, false}
use Rattle.ng_dom.specs.Kept.{rooms_of}
use Rattle.ng_dom.proofs.Adding.{room_below}
use Rattle.ng_dom.specs.Walks.{told, told_all, told_groups, told_shape, told_room}

pub followed-none : (f : Forest) → followed_by f no_nodes ≡ f
followed-none no_nodes = refl
followed-none (node n f) = ap (node n) (followed-none f)

pub followed-followed : (f g h : Forest) → followed_by (followed_by f g) h ≡ followed_by f (followed_by g h)
followed-followed no_nodes g h = refl
followed-followed (node n f) g h = ap (node n) (followed-followed f g h)

pub with_node-followed : (f : Forest) (n : Node) → with_node f n ≡ followed_by f (node n no_nodes)
with_node-followed no_nodes n = refl
with_node-followed (node m f) n = ap (node m) (with_node-followed f n)

pub ruleset tell_steps = (followed-none, followed-followed, with_node-followed)

-- all names with a room are below a bound
module _ (r : Rooms) (top : ℕ) (below : (p : Option ℕ) (x : NamedNode) → HasRoom r p x → name_of x < top) where
  told_at : (k : ℕ) (p : Option ℕ) (x : NamedNode) → top ≤ k + name_of x → HasRoom r p x → ((j : ℕ) → top ≤ suc j + name_of x → told_shape (told j r) (shape_of x) ≡ plain_node x) → told k r (name_of x) ≡ plain_node x
  told_at zero p x le has inside = absurd (let under = below p x has in omega arith)
  told_at (suc k) p x le has inside = ap (told_room (told k r)) has.1 ∙ inside k le

  mutual
    told_inside : (k : ℕ) (x : NamedNode) → top ≤ suc k + name_of x → ReadsInside r x → told_shape (told k r) (shape_of x) ≡ plain_node x
    told_inside k (named_text n t) le h = refl
    told_inside k (named_comment n t) le h = refl
    told_inside k (named_element n e ats f) le h = ap (λ (g : Forest). node (element e ats g) no_nodes) (told_forest k n f le h)
    told_inside k (named_anchor n gs) le h = ap (node (comment [])) (told_kids k n gs le h)

    told_forest : (k m : ℕ) (f : NamedForest) → top ≤ suc k + m → ReadsIn r (Some m) f → told_all (told k r) (names_of f) ≡ plain f
    told_forest k m nothing_named le h = refl
    told_forest k m (named_then x f) le h =
        let after = h.0.0 in
        ap (λ (g : Forest). followed_by g (told_all (told k r) (names_of f))) (told_at k (Some m) x (omega arith) h.0 (λ j lj. told_inside j x lj h.1))
        ∙ ap (followed_by (plain_node x)) (told_forest k m f le h.2)

    told_kids : (k m : ℕ) (gs : NamedGroups) → top ≤ suc k + m → ReadsGroups r (Some m) gs → told_groups (told k r) (group_names gs) ≡ plain_groups gs
    told_kids k m no_groups le h = refl
    told_kids k m (group_then f gs) le h = ap (λ (g : Forest). followed_by g (told_groups (told k r) (group_names gs))) (told_forest k m f le h.0) ∙ ap (followed_by (plain f)) (told_kids k m gs le h.1)

  -- at the top
  pub told_top : (k : ℕ) (f : NamedForest) → top ≤ k → ReadsIn r None f → told_all (told k r) (names_of f) ≡ plain f
  told_top k nothing_named le h = refl
  told_top k (named_then x f) le h =
      ap (λ (g : Forest). followed_by g (told_all (told k r) (names_of f))) (told_at k None x (omega arith) h.0 (λ j lj. told_inside j x lj h.1))
      ∙ ap (followed_by (plain_node x)) (told_top k f le h.2)

-- the document's plain forest
pub told_document : (nodes : Runs) (next : ℕ) (names : List ℕ) (old new : Forest) (f : NamedForest) → ((q : ℕ) → next ≤ q → is_some (node_at nodes q) ≡ false)
    → old ≡ no_nodes → names ≡ names_of f → ReadsIn (rooms_of nodes) None f
    → new ≡ followed_by old (told_all (told next (rooms_of nodes)) names) → new ≡ plain f
told_document nodes next names old new f fresh e was reads is =
    is ∙ (ap (λ (g : Forest). followed_by g (told_all (told next (rooms_of nodes)) names)) e
    ∙ (ap (told_all (told next (rooms_of nodes))) was ∙ told_top (rooms_of nodes) next (room_below nodes next fresh) next f (omega arith) reads))
