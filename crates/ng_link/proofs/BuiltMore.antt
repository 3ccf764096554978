-- A fragment stands as a body of an outlet: all that is linked is built.
use Rattle.std.proofs.Common.{◌≡◌, inr, ◌+◌, ℕ, zero, suc, true, false, List, [], ◌∷◌, Option, Some, None, refl, ap, ◌∙◌, sym, subst, map, length, slice_get, arith}
use Rattle.std.specs.Prelude.{IsSome}
use Rattle.std.specs.List.{AllByRecursion}
use Rattle.std.specs.List.Sorted.{IsStrictlySortedBy}
use Rattle.std.specs.Map.{keys_of as map_keys}
use Rattle.ng_base.specs.Order.{path_cmp}
use Rattle.ng_base.specs.declared.path.Key.{Key}
use Rattle.ng_dom.specs.Document.{next_name, Becomes, Stays}
use Rattle.ng_dom.specs.Drawing.{Look, Stands, Bodies, none_stand, no_bodies, shows, names_standing, at_block_all}
use Rattle.ng_dom.specs.Editing.{changed_in, with_groups, group_inserted}
use Rattle.ng_dom.specs.declared.dom.Dom.{Dom}
use Rattle.ng_drawing.specs.Nodes.{nodes}
use Rattle.ng_drawing.specs.Roles.{Role}
use Rattle.ng_behaviour.specs.Keys.{begins}
use Rattle.ng_build.specs.Building.{unset, Builds}
use Rattle.ng_instances.specs.Instances.{Body, OutletState, Linked, Instances, linked_at, keys_of, read_bodies, groups_from, stands_join, stands_at, outlets_changed, body_added, with_instance}
use Rattle.ng_build.specs.Shape.{unfilled}
use Rattle.ng_link.specs.Standing.{IsBelow, IsPlaced, ArePlaced, Apart, AreApart, IsBuilt, body_count, held_count}
use Rattle.ng_link.proofs.Added.{new_stands, added_holds, added_homed}
use Rattle.ng_link.proofs.AtBlocks.{same_shape}
use Rattle.ng_link.proofs.Blocks.{BlockAmong}
use Rattle.ng_link.proofs.BodiesAt.{bodies_put, added_groups, added_others, added_in}
use Rattle.ng_link.proofs.BodiesChanged.{bodies_changed}
use Rattle.ng_link.proofs.Grown.{all_weaker, come_holder, come_ordered, come_placed, come_apart, none_has, grown_ordered, grown_placed, grown_apart, grown_held}
use Rattle.ng_link.proofs.Lookups.{inserted_here}
use Rattle.ng_link.proofs.Names.{shape_names, up}
use Rattle.ng_link.proofs.PathsBelow.{other_path, below_longer}
use Rattle.ng_link.proofs.ReadOff.{at_path, read_found, read_inserted}
use Rattle.ng_link.proofs.Reached.{all_in, outlet_anchor, block_at}

-- no body stands in an outlet
abbrev pub AreBare : List OutletState → Type 0
AreBare os = AllByRecursion (λ (y : OutletState). y.bodies ≡ []) os

bare_groups : (go : List ℕ → Stands) (os : List OutletState) → AreBare os → (o : ℕ) → groups_from (read_bodies go os) o ≡ no_bodies
bare_groups go [] all o = refl
bare_groups go (y ∷ ys) all zero = ap (λ (bs : List Body). groups_from (map (λ (b : Body). go b.path) bs ∷ []) 0) all.0
bare_groups go (y ∷ ys) all (suc o) = bare_groups go ys all.1 o

pub bare_count : (q : List ℕ) (os : List OutletState) → AreBare os → held_count q os ≡ 0
bare_count q [] all = refl
bare_count q (y ∷ ys) all = let first : body_count q y.bodies ≡ 0 = ap (body_count q) all.0 in omega (arith, first, bare_count q ys all.1)

-- what stands where nothing fills outlets
pub bare_joined : (go : List ℕ → Stands) (l : Linked) → AreBare l.page.outlets → stands_join l (read_bodies go l.page.outlets) ≡ new_stands l
bare_joined go l bare = same_shape (keys_of l.page) l.page.node (groups_from (read_bodies go l.page.outlets)) unfilled l.fragment.parts (bare_groups go l.page.outlets bare)

module _ (places same_places : Key → Option ℕ) (looks same : Key → Look) (d e g : Dom) (is : Instances) (ts : Stands) (holder p : List ℕ) (below : IsBelow holder p) (o i : ℕ) (role : Role) (m : Linked) (x : OutletState) (l : Linked)
    (b : IsBuilt places looks d is ts) (found : linked_at holder is ≡ Some m) (at : slice_get m.page.outlets o ≡ Some x) (free : linked_at p is ≡ None) (unused : (q : List ℕ) → IsSome (linked_at q is) → begins p q ≡ false) (near : (q : List ℕ) → IsSome (linked_at q is) → begins q p ≡ true → begins q holder ≡ true)
    (node : l.page.node ≡ next_name d) (bare : AreBare l.page.outlets) (placed : IsPlaced same_places (next_name g) p l)
    (old : (k : Key) (y : ℕ) → places k ≡ Some y → same_places k ≡ Some y) (alike : (k : Key) (q : ℕ) → places k ≡ Some q → looks k ≡ same k)
    (starts : shows unset (new_stands l) ≡ shows same (new_stands l))
    (builds : Builds (Some x.anchor) (new_stands l) (nodes l.fragment.parts) d e)
    (put : Becomes e g (changed_in x.anchor (with_groups (group_inserted i (shows unset (new_stands l)))))) (stays : Stays e g) where
  abbrev one : Body
  one = record { path = p; role = role }

  abbrev come_first : Instances
  come_first = with_instance p l is

  abbrev then_linked : Instances
  then_linked = outlets_changed holder (body_added o i one) come_first

  abbrev bs : Bodies
  bs = groups_from (read_bodies (stands_at is) m.page.outlets) o

  abbrev h : Bodies → Bodies
  h = bodies_put i (new_stands l)

  block : BlockAmong x.anchor bs ts
  block = subst (λ (s : Stands). BlockAmong x.anchor bs s) (sym b.stands) (block_at places (next_name d) is b.ordered b.each b.bodies holder m o x found at)

  names : names_standing (new_stands l) ≡ up (next_name d) (nodes l.fragment.parts)
  names = shape_names (keys_of l.page) l.page.node l.fragment.parts ∙ ap (λ (k : ℕ). up k (nodes l.fragment.parts)) node

  end : next_name g ≡ next_name d + nodes l.fragment.parts
  end = stays.next ∙ builds.next

  apart : AllByRecursion (λ (y : List ℕ × Linked). Apart l y.1) is
  apart = all_weaker (λ (y : List ℕ × Linked). IsPlaced places (next_name d) y.0 y.1) (λ (y : List ℕ × Linked). Apart l y.1) (λ y at_y. let to = at_y.end in inr (omega (arith, to, node))) is b.each

  each : ArePlaced same_places (next_name g) come_first
  each = come_placed holder p below o i role m x l is b.ordered b.bodies found at free places same_places (next_name d) (next_name g) b.each old (omega (arith, end)) placed

  ordered : IsStrictlySortedBy path_cmp (map_keys come_first)
  ordered = come_ordered holder p below o i role m x l is b.ordered b.bodies found at free

  all_apart : AreApart come_first
  all_apart = come_apart holder p below o i role m x l is b.ordered b.bodies found at free apart b.apart

  -- the body itself
  new_read : stands_at come_first p ≡ new_stands l
  new_read =
      read_found none_stand stands_join come_first p l ordered (all_in same_places (next_name g) come_first each) (inserted_here p l is)
      ∙ bare_joined (stands_at come_first) l bare

  -- what stood is read as before
  old_read : stands_at come_first [] ≡ ts
  old_read =
      read_inserted none_stand stands_join p l is free (none_has holder p below o i role m x l is b.ordered b.bodies found at free) []
      (other_path [] p (λ e. let many : 0 ≡ length p = ap (λ (r : List ℕ). length r) e in let more = below_longer holder p below in omega (arith, many, more)))
      ∙ sym b.stands

  placed_holder : IsPlaced places (next_name d) holder m
  placed_holder = at_path (λ (y : List ℕ × Linked). IsPlaced places (next_name d) y.0 y.1) holder m is b.each found

  then_read : at_block_all x.anchor h ts ≡ stands_at then_linked []
  then_read =
      ap (at_block_all x.anchor h) (sym old_read)
      ∙ sym (bodies_changed same_places (next_name g) come_first holder m o x.anchor (body_added o i one) h ordered each all_apart
      (come_holder holder p below o i role m x l is b.ordered b.bodies found at free)
      (outlet_anchor places (next_name d) holder m o x placed_holder at)
      (added_in holder one below m.page.outlets o i placed_holder.bodies) (
        added_groups (stands_at come_first) one m.page.outlets o i x at
            ∙ ap (λ (s : Stands). bodies_put i s (groups_from (read_bodies (stands_at come_first) m.page.outlets) o)) new_read,
        λ k ne. added_others (stands_at come_first) one m.page.outlets o i k ne,
      ) [])

  pub built_more : IsBuilt same_places same g then_linked (at_block_all x.anchor h ts)
  built_more = record {
    holds = added_holds places looks same d e g is ts (new_stands l) x.anchor i bs b alike block (nodes l.fragment.parts) names starts builds put stays;
    stands = then_read;
    homed = added_homed places looks same d e g is ts (new_stands l) x.anchor i bs b alike block (nodes l.fragment.parts) names starts builds put stays;
    ordered = grown_ordered holder p below o i role m x l is b.ordered b.bodies found at free;
    each = grown_placed holder p below o i role m x l is b.ordered b.bodies found at free places same_places (next_name d) (next_name g) b.each old (omega (arith, end)) placed;
    apart = grown_apart holder p below o i role m x l is b.ordered b.bodies found at free apart b.apart;
    bodies = grown_held holder p below o i role m x l is b.ordered b.bodies found at free (λ q. bare_count q l.page.outlets bare) unused near;
  }
