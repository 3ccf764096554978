-- A new node.
use Rattle.std.proofs.Common.{◌≡◌, ◌<◌, ◌≤◌, ℕ, zero, suc, Bool, true, false, List, ◌∷◌, Option, Some, None, refl, ap, ◌∙◌, sym, cond, arith}
use Rattle.std.specs.Prelude.{◌==◌, IsSome, is_some, option_map}
use Rattle.std.proofs.Math.Nat.{lt_of_not-le}
use Rattle.std.proofs.lemmas.Bool.{eqb-true, eq-eqb, ne_eqb}
use Rattle.ng_dom.specs.Records.{Runs, node_at}
use Rattle.ng_dom.specs.Lists.{put_at}
use Rattle.ng_dom.specs.Nodes.{NamedNode, NamedForest, NamedGroups, named_text, named_comment, named_element, named_anchor, nothing_named, named_then, no_groups, group_then, name_of, names_of}
use Rattle.ng_dom.specs.Editing.{changed_in, node_inserted, with_kids}
use Rattle.ng_dom.specs.Rooms.{Shape, Room, Rooms, shape_of, room_of, IsAfter, HasRoom, ReadsInside, ReadsIn, ReadsGroups, room_changed, room_added, shape_with_kids}
use Rattle.ng_dom.specs.Kept.{rooms_of, room_kept}
use Rattle.ng_dom.specs.Asked.{is_element_room}
use Rattle.ng_dom.specs.Making.{new_node, new_part}
use Rattle.ng_dom.specs.declared.record.Record.{Record}
use Rattle.ng_dom.specs.declared.record.NewNode.{NewNode}
use Rattle.ng_dom.specs.declared.record.NewNode.TheVariants.{Element, Text, Comment}
use Rattle.ng_dom.specs.declared.record.Part.{Part}
use Rattle.ng_dom.specs.declared.record.Part.TheVariants.{Node, Anchor}
use Rattle.ng_dom.proofs.Reading.{reads_changed}

-- a name that has no room is given one: what is read stays
module _ (r s : Rooms) (k : ℕ) (room : Room) (free : r k ≡ None) (rooms : (q : ℕ) → s q ≡ room_added k room r q) where
  stays : (p : Option ℕ) (x : NamedNode) → HasRoom r p x → HasRoom s p x
  stays p x h = (h.0, rooms (name_of x) ∙ by_test (name_of x == k) refl)
    where
      by_test : (b : Bool) → (name_of x == k) ≡ b → cond b (Some room) (r (name_of x)) ≡ Some (room_of p x)
      by_test true e =
          let none : None ≡ Some (room_of p x) = sym free ∙ (ap r (sym (eqb-true (name_of x) k e)) ∙ h.1) in
          absurd (cc)
      by_test false e = h.1

  mutual
    pub inside_remains : (x : NamedNode) → ReadsInside r x → ReadsInside s x
    inside_remains (named_text n t) h = tt
    inside_remains (named_comment n t) h = tt
    inside_remains (named_element n e ats f) h = remains (Some n) f h
    inside_remains (named_anchor n gs) h = groups_remain (Some n) gs h

    pub remains : (p : Option ℕ) (f : NamedForest) → ReadsIn r p f → ReadsIn s p f
    remains p nothing_named h = tt
    remains p (named_then x f) h = (stays p x h.0, inside_remains x h.1, remains p f h.2)

    pub groups_remain : (p : Option ℕ) (gs : NamedGroups) → ReadsGroups r p gs → ReadsGroups s p gs
    groups_remain p no_groups h = tt
    groups_remain p (group_then f gs) h = (remains p f h.0, groups_remain p gs h.1)

-- a node is read among the others
pub reads_inserted : (s : Rooms) (p : Option ℕ) (i : ℕ) (y : NamedNode) (f : NamedForest) → HasRoom s p y → ReadsInside s y → ReadsIn s p f → ReadsIn s p (node_inserted i y f)
reads_inserted s p zero y f a b h = (a, b, h)
reads_inserted s p (suc i) y nothing_named a b h = (a, b, tt)
reads_inserted s p (suc i) y (named_then x f) a b h = (h.0, h.1, reads_inserted s p i y f a b h.2)

pub names_inserted : (i : ℕ) (y : NamedNode) (f : NamedForest) → names_of (node_inserted i y f) ≡ put_at i (name_of y) (names_of f)
names_inserted zero y f = refl
names_inserted (suc i) y nothing_named = refl
names_inserted (suc i) y (named_then x f) = ap (λ (ns : List ℕ). name_of x ∷ ns) (names_inserted i y f)

module _ (i : ℕ) (y : NamedNode) where
  name-kids : (x : NamedNode) → name_of (with_kids (node_inserted i y) x) ≡ name_of x
  name-kids (named_text n u) = refl
  name-kids (named_comment n u) = refl
  name-kids (named_element n e ats f) = refl
  name-kids (named_anchor n gs) = refl

  shape-kids : (x : NamedNode) → shape_of (with_kids (node_inserted i y) x) ≡ shape_with_kids (put_at i (name_of y)) (shape_of x)
  shape-kids (named_text n u) = refl
  shape-kids (named_comment n u) = refl
  shape-kids (named_element n e ats f) = ap (λ (ns : List ℕ). Rattle.ng_dom.specs.Rooms.element_shape e ats ns) (names_inserted i y f)
  shape-kids (named_anchor n gs) = refl

  inside-kids : (s : Rooms) (p : ℕ) → HasRoom s (Some p) y → ReadsInside s y → (x : NamedNode) → name_of x ≡ p → ReadsInside s x → ReadsInside s (with_kids (node_inserted i y) x)
  inside-kids s p a b (named_text n u) e h = tt
  inside-kids s p a b (named_comment n u) e h = tt
  inside-kids s p a b (named_element n m ats f) e h = reads_inserted s (Some n) i y f (rw e a) b h
  inside-kids s p a b (named_anchor n gs) e h = h

-- a new node becomes a child of p
pub kid_reads : (r s : Rooms) (p i : ℕ) (y : NamedNode) → r (name_of y) ≡ None → p < name_of y → ((t : Rooms) → ReadsInside t y)
    → ((q : ℕ) → s q ≡ room_changed p (shape_with_kids (put_at i (name_of y))) (room_added (name_of y) (room_of (Some p) y) r) q)
    → (o : Option ℕ) (f : NamedForest) → ReadsIn r o f → ReadsIn s o (changed_in p (with_kids (node_inserted i y)) f)
kid_reads r s p i y free above bare rooms o f h =
    let k = name_of y in
    let mid : Rooms = room_added k (room_of (Some p) y) r in
    let apart : (k == p) ≡ false = ne_eqb k p (λ e. omega arith) in
    let there : s k ≡ Some (room_of (Some p) y) = rooms k ∙ rw (apart, eq-eqb k k refl) refl in
    reads_changed p (with_kids (node_inserted i y)) (name-kids i y) (shape_with_kids (put_at i k)) (shape-kids i y) mid s rooms
    (λ x e. inside-kids i y s p (above, there) (bare s) x e) o f (remains r mid k (room_of (Some p) y) free (λ q. refl) o f h)

-- a new node at the top
pub top_reads : (r s : Rooms) (i : ℕ) (y : NamedNode) → r (name_of y) ≡ None → ((t : Rooms) → ReadsInside t y)
    → ((q : ℕ) → s q ≡ room_added (name_of y) (room_of None y) r q)
    → (f : NamedForest) → ReadsIn r None f → ReadsIn s None (node_inserted i y f)
top_reads r s i y free bare rooms f h =
    let there : s (name_of y) ≡ Some (room_of None y) = rooms (name_of y) ∙ rw (eq-eqb (name_of y) (name_of y) refl) refl in
    reads_inserted s None i y f (tt, there) (bare s) (remains r s (name_of y) (room_of None y) free rooms None f h)

-- a name with a room is below the next one
pub standing_below : (nodes : Runs) (next p : ℕ) → ((q : ℕ) → next ≤ q → is_some (node_at nodes q) ≡ false) → IsSome (rooms_of nodes p) → p < next
standing_below nodes next p fresh there = lt_of_not-le (λ le. among (node_at nodes p) (fresh p le) there)
  where
    among : (o : Option Record) → is_some o ≡ false → IsSome (option_map room_kept o) → ⊥
    among None f h = cc
    among (Some x) f h = cc

-- what has a room has a name that was given
pub room_below : (nodes : Runs) (next : ℕ) → ((q : ℕ) → next ≤ q → is_some (node_at nodes q) ≡ false) → (p : Option ℕ) (x : NamedNode) → HasRoom (rooms_of nodes) p x → name_of x < next
room_below nodes next fresh p x has = standing_below nodes next (name_of x) fresh (rw has.1 refl)

pub free_name : (nodes : Runs) (next : ℕ) → ((q : ℕ) → next ≤ q → is_some (node_at nodes q) ≡ false) → node_at nodes next ≡ None
free_name nodes next fresh = among (node_at nodes next) (fresh next (omega arith))
  where
    among : (o : Option Record) → is_some o ≡ false → o ≡ None
    among None f = refl
    among (Some x) f = absurd (cc)

-- what a new part holds is read anywhere: it holds nothing
pub bare : (n : ℕ) (x : NewNode) (t : Rooms) → ReadsInside t (new_node n x)
bare n (Element e) t = tt
bare n (Text u) t = tt
bare n (Comment u) t = tt

pub bare_part : (n : ℕ) (x : Part) (t : Rooms) → ReadsInside t (new_part n x)
bare_part n (Node x) t = bare n x t
bare_part n Anchor t = tt

pub name_new : (n : ℕ) (x : NewNode) → name_of (new_node n x) ≡ n
name_new n (Element e) = refl
name_new n (Text u) = refl
name_new n (Comment u) = refl

pub name_part : (n : ℕ) (x : Part) → name_of (new_part n x) ≡ n
name_part n (Node x) = name_new n x
name_part n Anchor = refl

pub free_room : (nodes : Runs) (next : ℕ) → ((q : ℕ) → next ≤ q → is_some (node_at nodes q) ≡ false) → rooms_of nodes next ≡ None
free_room nodes next fresh = ap (option_map room_kept) (free_name nodes next fresh)

-- a new part becomes a child of p
pub part_reads : (r s : Rooms) (p i k : ℕ) (x : Part) (shape : Shape) → shape ≡ shape_of (new_part k x) → r k ≡ None → p < k
    → ((q : ℕ) → s q ≡ room_changed p (shape_with_kids (put_at i k)) (room_added k (record { parent = Some p; shape = shape }) r) q)
    → (o : Option ℕ) (f : NamedForest) → ReadsIn r o f → ReadsIn s o (changed_in p (with_kids (node_inserted i (new_part k x))) f)
part_reads r s p i k x shape e free above rooms =
    kid_reads r s p i (new_part k x) (rw (name_part k x) free) (rw (name_part k x) above) (bare_part k x) (rw (name_part k x, sym e) rooms)

-- a new part is at the top
pub part_at_top : (r s : Rooms) (i k : ℕ) (x : Part) (shape : Shape) → shape ≡ shape_of (new_part k x) → r k ≡ None
    → ((q : ℕ) → s q ≡ room_added k (record { parent = None; shape = shape }) r q)
    → (f : NamedForest) → ReadsIn r None f → ReadsIn s None (node_inserted i (new_part k x) f)
part_at_top r s i k x shape e free rooms =
    top_reads r s i (new_part k x) (rw (name_part k x) free) (bare_part k x) (rw (name_part k x, sym e) rooms)

-- a new part stands apart
pub part_apart : (r s : Rooms) (p : Option ℕ) (k : ℕ) (x : Part) (shape : Shape) → shape ≡ shape_of (new_part k x) → IsAfter p k
    → ((q : ℕ) → s q ≡ room_added k (record { parent = p; shape = shape }) r q)
    → ReadsIn s p (named_then (new_part k x) nothing_named)
part_apart r s p k x shape e above rooms =
    let there : s k ≡ Some (record { parent = p; shape = shape }) = rooms k ∙ rw (eq-eqb k k refl) refl in
    ((rw (name_part k x) above, rw (name_part k x, sym e) there), bare_part k x s, tt)

-- the names at the top, where a new part is among them
pub names_placed : (i k : ℕ) (x : Part) (old new : List ℕ) (f : NamedForest) → old ≡ names_of f → new ≡ put_at i k old → new ≡ names_of (node_inserted i (new_part k x) f)
names_placed i k x old new f was is = is ∙ (ap (put_at i k) was ∙ (ap (λ n. put_at i n (names_of f)) (sym (name_part k x)) ∙ sym (names_inserted i (new_part k x) f)))

element_shape_room : (o : Option Room) → is_element_room o ≡ true → IsSome o
element_shape_room None e = absurd (cc)
element_shape_room (Some x) e = refl

-- an element is live
pub element_lives : (nodes : Runs) (n : ℕ) → is_element_room (rooms_of nodes n) ≡ true → IsSome (rooms_of nodes n)
element_lives nodes n e = element_shape_room (rooms_of nodes n) e
