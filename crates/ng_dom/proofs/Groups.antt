-- The groups of an anchor change.
use Rattle.std.proofs.Common.{◌≡◌, ◌≤◌, ℕ, zero, suc, List, [], ◌∷◌, Option, Some, refl, ap, ◌∙◌, sym, arith}
use Rattle.std.proofs.lemmas.Bool.{ne_eqb}
use Rattle.ng_dom.specs.Lists.{put_at, without_at, list_at, lists_at}
use Rattle.ng_dom.specs.Nodes.{NamedNode, NamedForest, NamedGroups, named_text, named_comment, named_element, named_anchor, nothing_named, named_then, no_groups, group_then, name_of, names_of, group_names}
use Rattle.ng_dom.specs.Editing.{changed_in, with_groups, group_inserted, group_removed, group_at, picked}
use Rattle.ng_dom.specs.Rooms.{Shape, Rooms, anchor_shape, shape_of, HasRoom, ReadsInside, ReadsIn, ReadsGroups, room_changed, shape_with_groups}
use Rattle.ng_dom.proofs.Reading.{reads_changed}

-- what stands below a later node than a isn't a, and is read as before
module _ (r s : Rooms) (a : ℕ) (h : Shape → Shape) (rooms : (q : ℕ) → s q ≡ room_changed a h r q) where
  apart_room : (m : ℕ) (x : NamedNode) → a ≤ m → HasRoom r (Some m) x → HasRoom s (Some m) x
  apart_room m x le has = (has.0, rooms (name_of x) ∙ rw (ne_eqb (name_of x) a (λ e. let after = has.0 in omega arith)) has.1)

  mutual
    pub apart_inside : (x : NamedNode) → a ≤ name_of x → ReadsInside r x → ReadsInside s x
    apart_inside (named_text n u) le t = tt
    apart_inside (named_comment n u) le t = tt
    apart_inside (named_element n e ats f) le t = reads_apart n f le t
    apart_inside (named_anchor n gs) le t = groups_apart n gs le t

    pub reads_apart : (m : ℕ) (f : NamedForest) → a ≤ m → ReadsIn r (Some m) f → ReadsIn s (Some m) f
    reads_apart m nothing_named le t = tt
    reads_apart m (named_then x f) le t =
        let after = t.0.0 in
        (apart_room m x le t.0, apart_inside x (omega arith) t.1, reads_apart m f le t.2)

    pub groups_apart : (m : ℕ) (gs : NamedGroups) → a ≤ m → ReadsGroups r (Some m) gs → ReadsGroups s (Some m) gs
    groups_apart m no_groups le t = tt
    groups_apart m (group_then f gs) le t = (reads_apart m f le t.0, groups_apart m gs le t.1)

-- a change of groups whose names change in the same way
module _ (g : NamedGroups → NamedGroups) (h : List (List ℕ) → List (List ℕ)) (names : (gs : NamedGroups) → group_names (g gs) ≡ h (group_names gs)) where
  pub name-groups : (x : NamedNode) → name_of (with_groups g x) ≡ name_of x
  name-groups (named_text n u) = refl
  name-groups (named_comment n u) = refl
  name-groups (named_element n e ats f) = refl
  name-groups (named_anchor n gs) = refl

  shape-groups : (x : NamedNode) → shape_of (with_groups g x) ≡ shape_with_groups h (shape_of x)
  shape-groups (named_text n u) = refl
  shape-groups (named_comment n u) = refl
  shape-groups (named_element n e ats f) = refl
  shape-groups (named_anchor n gs) = ap anchor_shape (names gs)

  inside-groups : (s : Rooms) (a : ℕ) → ((gs : NamedGroups) → ReadsGroups s (Some a) gs → ReadsGroups s (Some a) (g gs)) → (x : NamedNode) → name_of x ≡ a → ReadsInside s x → ReadsInside s (with_groups g x)
  inside-groups s a more (named_text n u) e t = tt
  inside-groups s a more (named_comment n u) e t = tt
  inside-groups s a more (named_element n m ats f) e t = t
  inside-groups s a more (named_anchor n gs) e t = rw e (more gs (rw (sym e) t))

  pub groups_read : (r s : Rooms) (a : ℕ) → ((q : ℕ) → s q ≡ room_changed a (shape_with_groups h) r q)
      → ((gs : NamedGroups) → ReadsGroups s (Some a) gs → ReadsGroups s (Some a) (g gs))
      → (p : Option ℕ) (f : NamedForest) → ReadsIn r p f → ReadsIn s p (changed_in a (with_groups g) f)
  groups_read r s a rooms more p f t = reads_changed a (with_groups g) name-groups (shape_with_groups h) shape-groups r s rooms (inside-groups s a more) p f t

names-put : (i : ℕ) (f : NamedForest) (gs : NamedGroups) → group_names (group_inserted i f gs) ≡ put_at i (names_of f) (group_names gs)
names-put zero f gs = refl
names-put (suc i) f no_groups = refl
names-put (suc i) f (group_then g gs) = ap (λ (ns : List (List ℕ)). names_of g ∷ ns) (names-put i f gs)

reads-put : (s : Rooms) (p : Option ℕ) (i : ℕ) (f : NamedForest) (gs : NamedGroups) → ReadsIn s p f → ReadsGroups s p gs → ReadsGroups s p (group_inserted i f gs)
reads-put s p zero f gs a t = (a, t)
reads-put s p (suc i) f no_groups a t = (a, tt)
reads-put s p (suc i) f (group_then g gs) a t = (t.0, reads-put s p i f gs a t.1)

names-cut : (i : ℕ) (gs : NamedGroups) → group_names (group_removed i gs) ≡ without_at i (group_names gs)
names-cut i no_groups = refl
names-cut zero (group_then g gs) = refl
names-cut (suc i) (group_then g gs) = ap (λ (ns : List (List ℕ)). names_of g ∷ ns) (names-cut i gs)

reads-cut : (s : Rooms) (p : Option ℕ) (i : ℕ) (gs : NamedGroups) → ReadsGroups s p gs → ReadsGroups s p (group_removed i gs)
reads-cut s p i no_groups t = tt
reads-cut s p zero (group_then g gs) t = t.1
reads-cut s p (suc i) (group_then g gs) t = (t.0, reads-cut s p i gs t.1)

pub names-at : (i : ℕ) (gs : NamedGroups) → names_of (group_at i gs) ≡ list_at i (group_names gs)
names-at i no_groups = refl
names-at zero (group_then g gs) = refl
names-at (suc i) (group_then g gs) = names-at i gs

names-picked : (is : List ℕ) (gs : NamedGroups) → group_names (picked is gs) ≡ lists_at is (group_names gs)
names-picked [] gs = refl
names-picked (i ∷ is) gs = ap (λ (n : List ℕ). n ∷ group_names (picked is gs)) (names-at i gs) ∙ ap (λ (ns : List (List ℕ)). list_at i (group_names gs) ∷ ns) (names-picked is gs)

pub reads-at : (s : Rooms) (p : Option ℕ) (i : ℕ) (gs : NamedGroups) → ReadsGroups s p gs → ReadsIn s p (group_at i gs)
reads-at s p i no_groups t = tt
reads-at s p zero (group_then g gs) t = t.0
reads-at s p (suc i) (group_then g gs) t = reads-at s p i gs t.1

reads-picked : (s : Rooms) (p : Option ℕ) (is : List ℕ) (gs : NamedGroups) → ReadsGroups s p gs → ReadsGroups s p (picked is gs)
reads-picked s p [] gs t = tt
reads-picked s p (i ∷ is) gs t = (reads-at s p i gs t, reads-picked s p is gs t)

-- a piece that was built apart becomes a group
pub group_put : (r s : Rooms) (a i : ℕ) (ns : List ℕ) (piece : NamedForest) → names_of piece ≡ ns → ReadsIn r (Some a) piece
    → ((q : ℕ) → s q ≡ room_changed a (shape_with_groups (put_at i ns)) r q)
    → (p : Option ℕ) (f : NamedForest) → ReadsIn r p f → ReadsIn s p (changed_in a (with_groups (group_inserted i piece)) f)
group_put r s a i ns piece e reads rooms =
    groups_read (group_inserted i piece) (put_at i ns) (λ gs. names-put i piece gs ∙ ap (λ n. put_at i n (group_names gs)) e) r s a rooms
    (λ gs t. reads-put s (Some a) i piece gs (reads_apart r s a (shape_with_groups (put_at i ns)) rooms a piece (omega arith) reads) t)

pub group_cut : (r s : Rooms) (a i : ℕ) → ((q : ℕ) → s q ≡ room_changed a (shape_with_groups (without_at i)) r q)
    → (p : Option ℕ) (f : NamedForest) → ReadsIn r p f → ReadsIn s p (changed_in a (with_groups (group_removed i)) f)
group_cut r s a i rooms = groups_read (group_removed i) (without_at i) (names-cut i) r s a rooms (reads-cut s (Some a) i)

pub groups_picked : (r s : Rooms) (a : ℕ) (is : List ℕ) → ((q : ℕ) → s q ≡ room_changed a (shape_with_groups (lists_at is)) r q)
    → (p : Option ℕ) (f : NamedForest) → ReadsIn r p f → ReadsIn s p (changed_in a (with_groups (picked is)) f)
groups_picked r s a is rooms = groups_read (picked is) (lists_at is) (names-picked is) r s a rooms (reads-picked s (Some a) is)
