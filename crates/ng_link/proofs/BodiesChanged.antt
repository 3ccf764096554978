-- The bodies of an outlet change: what stands then.
use Rattle.std.proofs.Common.{◌≡◌, inl, inr, ◌+◌, ◌<◌, ◌≤◌, ℕ, zero, suc, Bool, true, false, cond, List, [], ◌∷◌, Some, refl, ap, ◌∙◌, sym, subst, length, slice_get, arith, eqb-true}
use Rattle.std.proofs.lemmas.Bool.{eqb-false}
use Rattle.std.specs.Prelude.{◌==◌}
use Rattle.std.proofs.Math.Path.{fun_ext}
use Rattle.std.specs.List.{AllByRecursion}
use Rattle.std.specs.List.Sorted.{IsStrictlySortedBy}
use Rattle.std.specs.Map.{keys_of as map_keys}
use Rattle.std.proofs.lemmas.Map.Keys.{sorted_head, sorted_tail}
use Rattle.ng_base.specs.Order.{path_cmp}
use Rattle.ng_dom.specs.Drawing.{Stands, Bodies, none_stand, body_then, at_block_all, at_block_bodies}
use Rattle.ng_drawing.specs.Nodes.{nodes}
use Rattle.ng_drawing.specs.Numbering.{after_outlets}
use Rattle.ng_instances.specs.Instances.{OutletState, Linked, Instances, is_path, linked_at, keys_of, read_bodies, bodies_from, groups_from, stands_join, stands_at, with_outlets, outlets_changed}
use Rattle.ng_link.specs.Laws.{BodiesChanged}
use Rattle.ng_build.specs.Shape.{anchors}
use Rattle.ng_link.specs.Standing.{IsBelow, AreIn, IsPlaced, Apart, AreApart}
use Rattle.ng_link.proofs.AtBlocks.{IsOff, shape_off, Follow, shape_on, anchors_range, in_range, one_place, same_shape, within_bodies}
use Rattle.ng_instances.proofs.PathIs.{path_is}
use Rattle.ng_link.proofs.PathsBelow.{below_other, not_after}
use Rattle.ng_link.proofs.ReadOff.{at_path, after_first, read_here, read_past, bodies_past, read_all}

-- the anchor is none of an instance's nodes
abbrev pub IsOffIn : ℕ → List ℕ × Linked → Type 0
IsOffIn a e = IsOff a e.1.page.node (nodes e.1.fragment.parts)

-- where it is none of all, nothing changes
module _ (a : ℕ) (h : Bodies → Bodies) where
  abbrev Untouched : Stands → Type 0
  Untouched ts = at_block_all a h ts ≡ ts

  no_change : (bs : List Stands) → AllByRecursion Untouched bs → at_block_bodies a h (bodies_from bs) ≡ bodies_from bs
  no_change [] all = refl
  no_change (ts ∷ bs) all = ap (λ (s : Stands). body_then s (at_block_bodies a h (bodies_from bs))) all.0 ∙ ap (body_then ts) (no_change bs all.1)

  none_changes : (tsss : List (List Stands)) → AllByRecursion (AllByRecursion Untouched) tsss → (o : ℕ) → at_block_bodies a h (groups_from tsss o) ≡ groups_from tsss o
  none_changes [] all o = refl
  none_changes (tss ∷ tsss) all zero = no_change tss all.0
  none_changes (tss ∷ tsss) all (suc o) = none_changes tsss all.1 o

  each_joined : (is : Instances) → AllByRecursion (IsOffIn a) is
      → AllByRecursion (λ (e : List ℕ × Linked). (tsss : List (List Stands)) → AllByRecursion (AllByRecursion Untouched) tsss → Untouched (stands_join e.1 tsss)) is
  each_joined [] off = tt
  each_joined (e ∷ es) off = (
    λ tsss all.
        shape_off a h (keys_of e.1.page) (groups_from tsss) e.1.page.node e.1.fragment.parts off.0
        ∙ same_shape (keys_of e.1.page) e.1.page.node (λ o. at_block_bodies a h (groups_from tsss o)) (groups_from tsss) e.1.fragment.parts (none_changes tsss all),
    each_joined es off.1,
  )

  pub untouched : (is : Instances) → AllByRecursion (IsOffIn a) is → (q : List ℕ) → at_block_all a h (stands_at is q) ≡ stands_at is q
  untouched is off q = read_all none_stand stands_join Untouched refl is (each_joined is off) q

-- a node of an instance is none of those that are apart from it
off_apart : (a : ℕ) (l m : Linked) → l.page.node ≤ a → a < l.page.node + nodes l.fragment.parts → Apart l m → IsOff a m.page.node (nodes m.fragment.parts)
off_apart a l m from to (inl le) = inl (omega (arith, to, le))
off_apart a l m from to (inr le) = inr (omega (arith, from, le))

off_swapped : (a : ℕ) (l m : Linked) → l.page.node ≤ a → a < l.page.node + nodes l.fragment.parts → Apart m l → IsOff a m.page.node (nodes m.fragment.parts)
off_swapped a l m from to (inl le) = inr (omega (arith, from, le))
off_swapped a l m from to (inr le) = inl (omega (arith, to, le))

all_off : (a : ℕ) (l : Linked) (is : Instances) → l.page.node ≤ a → a < l.page.node + nodes l.fragment.parts → AllByRecursion (λ (x : List ℕ × Linked). Apart l x.1) is → AllByRecursion (IsOffIn a) is
all_off a l [] from to all = tt
all_off a l (e ∷ es) from to all = (off_apart a l e.1 from to all.0, all_off a l es from to all.1)

-- the bodies of one outlet change
module _ (p : List ℕ) (l : Linked) (o a : ℕ) (f : List OutletState → List OutletState) (h : Bodies → Bodies) (at : slice_get (anchors l.page.node l.fragment.parts) o ≡ Some a) (ins : AreIn p l.page.outlets) (still : AreIn p (f l.page.outlets)) where
  -- what fills each outlet, before and afterwards
  abbrev before : Instances → ℕ → Bodies
  before is x = groups_from (read_bodies (stands_at is) l.page.outlets) x

  abbrev afterwards : Instances → ℕ → Bodies
  afterwards is x = groups_from (read_bodies (stands_at is) (f l.page.outlets)) x

  abbrev pub Changes : Instances → Type 0
  Changes is = (afterwards is o ≡ h (before is o)) × ((x : ℕ) → (x ≡ o → ⊥) → afterwards is x ≡ before is x)

  -- it is the same after an instance that stands before
  changes_past : (e : List ℕ × Linked) (es : Instances) → (IsBelow p e.0 → ⊥) → Changes (e ∷ es) → Changes es
  changes_past e es ne g =
      let were : read_bodies (stands_at (e ∷ es)) l.page.outlets ≡ read_bodies (stands_at es) l.page.outlets = bodies_past none_stand stands_join p e es l.page.outlets ins ne in
      let are : read_bodies (stands_at (e ∷ es)) (f l.page.outlets) ≡ read_bodies (stands_at es) (f l.page.outlets) = bodies_past none_stand stands_join p e es (f l.page.outlets) still ne in (
        ap (λ (m : List (List Stands)). groups_from m o) (sym are) ∙ (g.0 ∙ ap (λ (m : List (List Stands)). h (groups_from m o)) were),
        λ x off. ap (λ (m : List (List Stands)). groups_from m x) (sym are) ∙ (g.1 x off ∙ ap (λ (m : List (List Stands)). groups_from m x) were),
      )

  within : (l.page.node ≤ a) × (a < l.page.node + nodes l.fragment.parts)
  within = in_range l.page.node (l.page.node + nodes l.fragment.parts) (anchors l.page.node l.fragment.parts) o a (anchors_range l.page.node l.fragment.parts) at

  -- the anchors of its outlets, in order: the bodies change at the one
  follow : (es : Instances) → AllByRecursion (IsOffIn a) es → Changes es → (k : ℕ) (xs : List ℕ) → ((i x : ℕ) → slice_get xs i ≡ Some x → slice_get (anchors l.page.node l.fragment.parts) (k + i) ≡ Some x)
      → Follow a h (keys_of l.page) (before es) (afterwards es) k xs
  follow es off g k [] places = tt
  follow es off g k (x ∷ xs) places = (one (x == a) refl, follow es off g (k + 1) xs (λ i y e. let there : (k + 1) + i ≡ k + suc i = omega arith in rw there (places (suc i) y e)))
    where
      here : slice_get (anchors l.page.node l.fragment.parts) k ≡ Some x
      here = let there : k + 0 ≡ k = omega arith in rw (sym there) (places 0 x refl)

      same : at_block_bodies a h (before es k) ≡ before es k
      same = within_bodies a h (stands_at es) l.page.outlets k ∙ ap (λ (go : List ℕ → Stands). groups_from (read_bodies go l.page.outlets) k) (fun_ext (untouched a h es off))

      one : (b : Bool) → (x == a) ≡ b → cond b (h (at_block_bodies a h (before es k))) (at_block_bodies a h (before es k)) ≡ afterwards es k
      one true is =
          let one_name : slice_get (anchors l.page.node l.fragment.parts) k ≡ Some a = here ∙ ap Some (eqb-true x a is) in
          let that : k ≡ o = one_place l.page.node (l.page.node + nodes l.fragment.parts) (anchors l.page.node l.fragment.parts) k o a (anchors_range l.page.node l.fragment.parts) one_name at in
          ap h same ∙ (ap (λ (i : ℕ). h (before es i)) that ∙ (sym g.0 ∙ ap (afterwards es) (sym that)))
      one false is =
          let apart : k ≡ o → ⊥ = λ e. let two : Some x ≡ Some a = sym here ∙ (ap (slice_get (anchors l.page.node l.fragment.parts)) e ∙ at) in eqb-false x a is (let name : x ≡ a = cc in name) in
          same ∙ sym (g.1 k apart)

  module _ (c : ℕ) (numbered : after_outlets 0 l.fragment.parts ≡ Some c) where
    -- at the instance itself
    own : (key : List ℕ) (es : Instances) → AllByRecursion (IsOffIn a) es → Changes es → (q : List ℕ) → stands_at ((key, with_outlets f l) ∷ es) q ≡ at_block_all a h (stands_at ((key, l) ∷ es) q)
    own key es off g q = by_test (is_path q key) refl
      where
        by_test : (b : Bool) → is_path q key ≡ b → stands_at ((key, with_outlets f l) ∷ es) q ≡ at_block_all a h (stands_at ((key, l) ∷ es) q)
        by_test true is =
            read_here none_stand stands_join q (key, with_outlets f l) es is
            ∙ (sym (shape_on a h (keys_of l.page) (before es) (afterwards es) l.page.node 0 c l.fragment.parts numbered
            (follow es off g 0 (anchors l.page.node l.fragment.parts) (λ i x e. let there : 0 + i ≡ i = omega arith in rw there e)))
            ∙ ap (at_block_all a h) (sym (read_here none_stand stands_join q (key, l) es is)))
        by_test false is =
            read_past none_stand stands_join q (key, with_outlets f l) es is
            ∙ (sym (untouched a h es off q) ∙ ap (at_block_all a h) (sym (read_past none_stand stands_join q (key, l) es is)))

    -- at one that stands before
    earlier : (e : List ℕ × Linked) (es : Instances) → IsOffIn a e → ((q : List ℕ) → stands_at (outlets_changed p f es) q ≡ at_block_all a h (stands_at es q))
        → (q : List ℕ) → stands_at (e ∷ outlets_changed p f es) q ≡ at_block_all a h (stands_at (e ∷ es) q)
    earlier e es off rest q = by_test (is_path q e.0) refl
      where
        abbreviated : (List ℕ → Stands) → Stands
        abbreviated go = stands_join e.1 (read_bodies go e.1.page.outlets)

        by_test : (b : Bool) → is_path q e.0 ≡ b → stands_at (e ∷ outlets_changed p f es) q ≡ at_block_all a h (stands_at (e ∷ es) q)
        by_test true is =
            let go : List ℕ → Stands = stands_at es in
            let os : List OutletState = e.1.page.outlets in
            read_here none_stand stands_join q e (outlets_changed p f es) is
            ∙ (ap abbreviated (fun_ext rest)
            ∙ (sym
            (shape_off a h (keys_of e.1.page) (groups_from (read_bodies go os)) e.1.page.node e.1.fragment.parts off
            ∙ same_shape (keys_of e.1.page) e.1.page.node (λ x. at_block_bodies a h (groups_from (read_bodies go os) x)) (groups_from (read_bodies (λ r. at_block_all a h (go r)) os)) e.1.fragment.parts (within_bodies a h go os))
            ∙ ap (at_block_all a h) (sym (read_here none_stand stands_join q e es is))))
        by_test false is = read_past none_stand stands_join q e (outlets_changed p f es) is ∙ (rest q ∙ ap (at_block_all a h) (sym (read_past none_stand stands_join q e es is)))

    -- all of them
    pub all_change : (is : Instances) → IsStrictlySortedBy path_cmp (map_keys is) → AreApart is → linked_at p is ≡ Some l → Changes is → (q : List ℕ) → stands_at (outlets_changed p f is) q ≡ at_block_all a h (stands_at is q)
    all_change [] ordered apart found g q = absurd (cc)
    all_change (e ∷ es) ordered apart found g q = by_test (is_path p e.0) refl found (all_change es (sorted_tail path_cmp e.0 (map_keys es) ordered) apart.1)
      where
        by_test : (b : Bool) → is_path p e.0 ≡ b → cond b (Some e.1) (linked_at p es) ≡ Some l
            → (linked_at p es ≡ Some l → Changes es → (r : List ℕ) → stands_at (outlets_changed p f es) r ≡ at_block_all a h (stands_at es r))
            → stands_at (cond b ((e.0, with_outlets f e.1) ∷ es) (e ∷ outlets_changed p f es)) q ≡ at_block_all a h (stands_at (e ∷ es) q)
        by_test true is same rest =
            let one : e.1 ≡ l = cc in
            let here : e.0 ≡ p = sym (path_is p e.0 is) in
            let off : AllByRecursion (IsOffIn a) es = all_off a l es within.0 within.1 (subst (λ (m : Linked). AllByRecursion (λ (x : List ℕ × Linked). Apart m x.1) es) one apart.0) in
            ap (λ (m : Linked). stands_at ((e.0, with_outlets f m) ∷ es) q) one
            ∙ (own e.0 es off (changes_past e es (λ below. below_other p e.0 below (sym here)) g) q
            ∙ sym (ap (λ (m : Linked). at_block_all a h (stands_at ((e.0, m) ∷ es) q)) one))
        by_test false is same rest =
            let less = after_first p e.0 l es (sorted_head path_cmp e.0 (map_keys es) ordered) same in
            let off : IsOffIn a e = off_swapped a l e.1 within.0 within.1 (at_path (λ (x : List ℕ × Linked). Apart e.1 x.1) p l es apart.0 same) in
            earlier e es off (rest same (changes_past e es (λ below. not_after p e.0 less below) g)) q

pub bodies_changed : BodiesChanged
bodies_changed places next is p l o a f h ordered each apart found at still g q =
    let placed = at_path (λ (e : List ℕ × Linked). IsPlaced places next e.0 e.1) p l is each found in
    all_change p l o a f h at placed.bodies still (length l.fragment.outlets) placed.outlets is ordered apart found g q
