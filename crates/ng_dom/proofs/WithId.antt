-- The node that is read under a name is the one that the table has.
use Rattle.std.proofs.Common.{◌≡◌, ◌<◌, ◌≤◌, ◌+◌, ℕ, zero, suc, List, Option, Some, None, refl, ap, ◌∙◌, sym, arith}
use Rattle.std.specs.Prelude.{is_some, false}
use Rattle.ng_dom.specs.Records.{Runs, node_at}
use Rattle.ng_dom.specs.Nodes.{NamedNode, NamedForest, NamedGroups, named_text, named_comment, named_element, named_anchor, nothing_named, named_then, no_groups, group_then, name_of, names_of, group_names}
use Rattle.ng_dom.specs.Rooms.{Rooms, shape_of, HasRoom, ReadsInside, ReadsIn, ReadsGroups}
use Rattle.ng_dom.specs.Asked.{node_with_id, first_with_id, first_of_two}
use Rattle.ng_dom.specs.Walks.{named_followed, read, read_all, read_groups, read_shape, read_room}
use Rattle.ng_dom.specs.Kept.{rooms_of}
use Rattle.ng_dom.proofs.Adding.{room_below}

first-assoc : (a b c : Option ℕ) → first_of_two (first_of_two a b) c ≡ first_of_two a (first_of_two b c)
first-assoc (Some n) b c = refl
first-assoc None b c = refl

pub first-followed : (id : List ℕ) (f g : NamedForest) → first_with_id id (named_followed f g) ≡ first_of_two (first_with_id id f) (first_with_id id g)
first-followed id nothing_named g = refl
first-followed id (named_then x f) g = ap (first_of_two (node_with_id id x)) (first-followed id f g) ∙ sym (first-assoc (node_with_id id x) (first_with_id id f) (first_with_id id g))

pub first-none : (o : Option ℕ) → first_of_two o None ≡ o
first-none (Some n) = refl
first-none None = refl

pub first-passed : (id : List ℕ) (f g : NamedForest) → first_with_id id f ≡ None → first_with_id id (named_followed f g) ≡ first_with_id id g
first-passed id f g e = first-followed id f g ∙ ap (λ (o : Option ℕ). first_of_two o (first_with_id id g)) e

pub first-stops : (id : List ℕ) (f g : NamedForest) (n : ℕ) → first_with_id id f ≡ Some n → first_with_id id (named_followed f g) ≡ Some n
first-stops id f g n e = first-followed id f g ∙ ap (λ (o : Option ℕ). first_of_two o (first_with_id id g)) e

pub ruleset find_steps = (first-passed, first-stops, first-none)

-- all names with a room are below a bound
module _ (r : Rooms) (top : ℕ) (below : (p : Option ℕ) (x : NamedNode) → HasRoom r p x → name_of x < top) where
  read_at : (k : ℕ) (p : Option ℕ) (x : NamedNode) → top ≤ k + name_of x → HasRoom r p x → ((j : ℕ) → top ≤ suc j + name_of x → read_shape (read j r) (name_of x) (shape_of x) ≡ named_then x nothing_named) → read k r (name_of x) ≡ named_then x nothing_named
  read_at zero p x le has inside = absurd (let under = below p x has in omega arith)
  read_at (suc k) p x le has inside = ap (read_room (read k r) (name_of x)) has.1 ∙ inside k le

  mutual
    read_inside : (k : ℕ) (x : NamedNode) → top ≤ suc k + name_of x → ReadsInside r x → read_shape (read k r) (name_of x) (shape_of x) ≡ named_then x nothing_named
    read_inside k (named_text n t) le h = refl
    read_inside k (named_comment n t) le h = refl
    read_inside k (named_element n e ats f) le h = ap (λ (g : NamedForest). named_then (named_element n e ats g) nothing_named) (read_forest k n f le h)
    read_inside k (named_anchor n gs) le h = ap (λ (g : NamedGroups). named_then (named_anchor n g) nothing_named) (read_kids k n gs le h)

    pub read_forest : (k m : ℕ) (f : NamedForest) → top ≤ suc k + m → ReadsIn r (Some m) f → read_all (read k r) (names_of f) ≡ f
    read_forest k m nothing_named le h = refl
    read_forest k m (named_then x f) le h =
        let after = h.0.0 in
        ap (λ (g : NamedForest). named_followed g (read_all (read k r) (names_of f))) (read_at k (Some m) x (omega arith) h.0 (λ j lj. read_inside j x lj h.1))
        ∙ ap (named_then x) (read_forest k m f le h.2)

    read_kids : (k m : ℕ) (gs : NamedGroups) → top ≤ suc k + m → ReadsGroups r (Some m) gs → read_groups (read k r) (group_names gs) ≡ gs
    read_kids k m no_groups le h = refl
    read_kids k m (group_then f gs) le h = ap (λ (g : NamedForest). group_then g (read_groups (read k r) (group_names gs))) (read_forest k m f le h.0) ∙ ap (group_then f) (read_kids k m gs le h.1)

  -- at the top
  pub read_top : (k : ℕ) (f : NamedForest) → top ≤ k → ReadsIn r None f → read_all (read k r) (names_of f) ≡ f
  read_top k nothing_named le h = refl
  read_top k (named_then x f) le h =
      ap (λ (g : NamedForest). named_followed g (read_all (read k r) (names_of f))) (read_at k None x (omega arith) h.0 (λ j lj. read_inside j x lj h.1))
      ∙ ap (named_then x) (read_top k f le h.2)

-- the whole document is read
pub read_document : (nodes : Runs) (next : ℕ) (names : List ℕ) (f : NamedForest) → ((q : ℕ) → next ≤ q → is_some (node_at nodes q) ≡ false)
    → names ≡ names_of f → ReadsIn (rooms_of nodes) None f → read_all (read next (rooms_of nodes)) names ≡ f
read_document nodes next names f fresh was reads = ap (read_all (read next (rooms_of nodes))) was ∙ read_top (rooms_of nodes) next (room_below nodes next fresh) next f (omega arith) reads
