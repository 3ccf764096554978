-- Each instance that is linked stands in the document: a block of it is one of what stands of the page.
use Rattle.std.proofs.Common.{◌≡◌, ◌⊎◌, inl, inr, ◌+◌, ◌≤◌, ◌<◌, ℕ, zero, suc, Bool, true, false, cond, List, [], ◌∷◌, Option, Some, refl, ap, ◌∙◌, sym, subst, map, length, slice_get, arith}
use Rattle.std.specs.Prelude.{IsSome, option_map}
use Rattle.std.specs.List.Sorted.{IsStrictlySortedBy}
use Rattle.std.specs.Map.{keys_of as map_keys}
use Rattle.std.proofs.lemmas.Option.{slice_get-map}
use Rattle.ng_base.specs.Order.{path_cmp}
use Rattle.ng_base.specs.declared.path.Key.{Key}
use Rattle.ng_dom.specs.Drawing.{Stands, Bodies, block_stands, none_stand}
use Rattle.ng_instances.specs.Instances.{Body, OutletState, Linked, Instances, is_path, linked_at, keys_of, read_bodies, bodies_from, groups_from, stands_join, stands_at}
use Rattle.ng_build.specs.Shape.{anchors}
use Rattle.ng_link.specs.Standing.{IsPlaced, ArePlaced, IsHeldIn, AreHeld, body_count, held_count}
use Rattle.ng_link.proofs.Blocks.{BlockIn, BlockAmong, BlockInside, shape_block}
use Rattle.ng_instances.proofs.PathIs.{path_is}
use Rattle.ng_link.proofs.PathsBelow.{below_longer}
use Rattle.ng_link.proofs.ReadOff.{in_held, at_path, AllIn, read_found}

-- each instance holds bodies that are in it
pub all_in : (places : Key → Option ℕ) (next : ℕ) (is : Instances) → ArePlaced places next is → AllIn is
all_in places next [] all = tt
all_in places next (e ∷ es) all = (all.0.bodies, all_in places next es all.1)

-- the anchor of an outlet
pub outlet_anchor : (places : Key → Option ℕ) (next : ℕ) (p : List ℕ) (l : Linked) (o : ℕ) (x : OutletState) → IsPlaced places next p l → slice_get l.page.outlets o ≡ Some x
    → slice_get (anchors l.page.node l.fragment.parts) o ≡ Some x.anchor
outlet_anchor places next p l o x placed at =
    ap (λ (ns : List ℕ). slice_get ns o) (sym placed.anchors)
    ∙ (slice_get-map (λ (y : OutletState). y.anchor) l.page.outlets o ∙ ap (option_map (λ (y : OutletState). y.anchor)) at)

module _ (a : ℕ) (bs : Bodies) where
  -- a block in a body that is held is in the bodies of an outlet
  in_list : (go : List ℕ → Stands) (p : List ℕ) → BlockAmong a bs (go p) → (cs : List Body) → 0 < body_count p cs → BlockInside a bs (bodies_from (map (λ (c : Body). go c.path) cs))
  in_list go p b [] lt = absurd (omega (arith, lt))
  in_list go p b (c ∷ cs) lt = by_test (is_path p c.path) refl (in_list go p b cs)
    where
      by_test : (t : Bool) → is_path p c.path ≡ t → (0 < body_count p cs → BlockInside a bs (bodies_from (map (λ (d : Body). go d.path) cs)))
          → BlockInside a bs (bodies_from (map (λ (d : Body). go d.path) (c ∷ cs)))
      by_test true is more = inl (subst (λ (q : List ℕ). BlockAmong a bs (go q)) (path_is p c.path is) b)
      by_test false is more = inr (more (let off : cond {A = ℕ} (is_path p c.path) 1 0 ≡ 0 = ap (λ (t : Bool). cond {A = ℕ} t 1 0) is in omega (arith, off, lt)))

  abbrev IsInOutlet : (List ℕ → Stands) → List OutletState → Type 0
  IsInOutlet go os = (o : ℕ) × (x : OutletState) × (slice_get os o ≡ Some x) × BlockInside a bs (groups_from (read_bodies go os) o)

  in_outlets : (go : List ℕ → Stands) (p : List ℕ) → BlockAmong a bs (go p) → (os : List OutletState) → 0 < held_count p os → IsInOutlet go os
  in_outlets go p b [] lt = absurd (omega (arith, lt))
  in_outlets go p b (o ∷ os) lt = by_count (body_count p o.bodies) refl (in_outlets go p b os)
    where
      by_count : (c : ℕ) → body_count p o.bodies ≡ c → (0 < held_count p os → IsInOutlet go os) → IsInOutlet go (o ∷ os)
      by_count zero e more = let rest = more (omega (arith, e, lt)) in (suc rest.0, rest.1, rest.2, rest.3)
      by_count (suc c) e more = (0, o, refl, in_list go p b o.bodies (omega (arith, e)))

  module _ (places : Key → Option ℕ) (next : ℕ) (is : Instances) (ordered : IsStrictlySortedBy path_cmp (map_keys is)) (each : ArePlaced places next is) where
    -- a block in a body that an instance holds is in the instance
    up_one : (holder p : List ℕ) → IsHeldIn holder p is → BlockAmong a bs (stands_at is p) → BlockAmong a bs (stands_at is holder)
    up_one holder p held b =
        let l : Linked = held.0 in
        let go : List ℕ → Stands = stands_at is in
        let placed = at_path (λ (e : List ℕ × Linked). IsPlaced places next e.0 e.1) holder l is each held.1 in
        let which = in_outlets go p b l.page.outlets held.2 in
        let there = outlet_anchor places next holder l which.0 which.1 placed which.2 in
        let first : 0 + which.0 ≡ which.0 = omega arith in
        let groups : ℕ → Bodies = groups_from (read_bodies go l.page.outlets) in
        let inside : BlockIn a bs (block_stands which.1.anchor (groups (0 + which.0))) = inr (subst (λ (o : ℕ). BlockInside a bs (groups o)) (sym first) which.3) in
        let found : stands_at is holder ≡ stands_join l (read_bodies go l.page.outlets) = read_found none_stand stands_join is holder l ordered (all_in places next is each) held.1 in
        subst (λ (s : Stands). BlockAmong a bs s) (sym found)
        (shape_block a bs (keys_of l.page) groups l.page.node 0 (length l.fragment.outlets) which.0 which.1.anchor l.fragment.parts placed.outlets there inside)

    reached_by : AreHeld is → (k : ℕ) (p : List ℕ) → length p ≤ k → IsSome (linked_at p is) → BlockAmong a bs (stands_at is p) → BlockAmong a bs (stands_at is [])
    reached_by held zero [] e some b = b
    reached_by held zero (x ∷ xs) e some b = absurd (omega (arith, e))
    reached_by held (suc k) p e some b = by_holder (held.held p some) (reached_by held k)
      where
        by_holder : (p ≡ []) ⊎ ((holder : List ℕ) × IsHeldIn holder p is) → ((q : List ℕ) → length q ≤ k → IsSome (linked_at q is) → BlockAmong a bs (stands_at is q) → BlockAmong a bs (stands_at is []))
            → BlockAmong a bs (stands_at is [])
        by_holder (inl top) more = subst (λ (q : List ℕ). BlockAmong a bs (stands_at is q)) top b
        by_holder (inr one) more =
            let holder : List ℕ = one.0 in
            let placed = at_path (λ (x : List ℕ × Linked). IsPlaced places next x.0 x.1) holder one.1.0 is each one.1.1 in
            let longer = below_longer holder p (in_held holder p one.1.0.page.outlets placed.bodies one.1.2) in
            more holder (omega (arith, longer, e)) (subst (λ (r : Option Linked). IsSome r) (sym one.1.1) refl) (up_one holder p one.1 b)

-- the block of an outlet stands in the document
pub block_at : (places : Key → Option ℕ) (next : ℕ) (is : Instances) → IsStrictlySortedBy path_cmp (map_keys is) → ArePlaced places next is → AreHeld is
    → (p : List ℕ) (l : Linked) (o : ℕ) (x : OutletState) → linked_at p is ≡ Some l → slice_get l.page.outlets o ≡ Some x
    → BlockAmong x.anchor (groups_from (read_bodies (stands_at is) l.page.outlets) o) (stands_at is [])
block_at places next is ordered each held p l o x found at =
    let placed = at_path (λ (e : List ℕ × Linked). IsPlaced places next e.0 e.1) p l is each found in
    let groups : ℕ → Bodies = groups_from (read_bodies (stands_at is) l.page.outlets) in
    let there = outlet_anchor places next p l o x placed at in
    let first : 0 + o ≡ o = omega arith in
    let here : BlockIn x.anchor (groups o) (block_stands x.anchor (groups (0 + o))) = inl (refl, ap groups first) in
    let read : stands_at is p ≡ stands_join l (read_bodies (stands_at is) l.page.outlets) = read_found none_stand stands_join is p l ordered (all_in places next is each) found in
    reached_by x.anchor (groups o) places next is ordered each held (length p) p (omega arith) (subst (λ (r : Option Linked). IsSome r) (sym found) refl)
    (subst (λ (s : Stands). BlockAmong x.anchor (groups o) s) (sym read)
    (shape_block x.anchor (groups o) (keys_of l.page) groups l.page.node 0 (length l.fragment.outlets) o x.anchor l.fragment.parts placed.outlets there here))
