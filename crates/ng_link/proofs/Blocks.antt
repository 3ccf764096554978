-- The blocks that stand: by the name of an anchor, the bodies at it.
use Rattle.std.proofs.Common.{◌≡◌, ◌⊎◌, inl, inr, ◌+◌, ℕ, zero, suc, Bool, true, false, cond, List, [], ◌∷◌, ◌++◌, Option, Some, refl, ap, sym, subst, length, slice_get, arith, eq-eqb, eqb-true}
use Rattle.std.specs.Prelude.{◌==◌}
use Rattle.ng_base.specs.declared.path.Key.{Key}
use Rattle.ng_dom.specs.Drawing.{Look, Stand, Stands, Bodies, text_stands, comment_stands, element_stands, block_stands, none_stand, stand_then, no_bodies, body_then, show, shows, show_bodies, stand_names, names_standing, body_names, at_block, at_block_all, at_block_bodies}
use Rattle.ng_dom.specs.Lists.{among}
use Rattle.ng_dom.specs.Nodes.{name_of, group_names}
use Rattle.ng_dom.specs.Rooms.{Room, Rooms, anchor_shape, room_of, ReadsInside, ReadsIn, ReadsGroups}
use Rattle.ng_drawing.specs.Nodes.{part_nodes}
use Rattle.ng_drawing.specs.Template.{Part, Contents, Parts, text_part, comment_part, element_part, anchor_part, children, bound, no_parts, part_then}
use Rattle.ng_drawing.specs.Numbering.{outlets_of_part, outlets_of_contents, after_outlets}
use Rattle.ng_build.specs.Shape.{part_shape, content_shape, shape, part_anchors, content_anchors, anchors}
use Rattle.ng_dom.proofs.Removing.{among-left, among-right}
use Rattle.ng_link.proofs.AtBlocks.{counted_part}
use Rattle.ng_link.proofs.Numbers.{first_then, where_true}

-- a place in two lists, one after another
cut_place : (xs ys : List ℕ) (i x : ℕ) → slice_get (xs ++ ys) i ≡ Some x → (slice_get xs i ≡ Some x) ⊎ ((j : ℕ) × (i ≡ length xs + j) × (slice_get ys j ≡ Some x))
cut_place [] ys i x e = inr (i, omega arith, e)
cut_place (y ∷ xs) ys zero x e = inl e
cut_place (y ∷ xs) ys (suc i) x e = by_place (cut_place xs ys i x e)
  where
    by_place : (slice_get xs i ≡ Some x) ⊎ ((j : ℕ) × (i ≡ length xs + j) × (slice_get ys j ≡ Some x))
        → (slice_get (y ∷ xs) (suc i) ≡ Some x) ⊎ ((j : ℕ) × (suc i ≡ length (y ∷ xs) + j) × (slice_get ys j ≡ Some x))
    by_place (inl h) = inl h
    by_place (inr h) = inr (h.0, let is = h.1 in omega (arith, is), h.2)

-- a block of this name stands, with these bodies
module _ (a : ℕ) (bs : Bodies) where
  abbrev mutual
    pub BlockIn : Stand → Type 0
    BlockIn (text_stands n ps) = ⊥
    BlockIn (comment_stands n t) = ⊥
    BlockIn (element_stands n e ats ms) = BlockAmong ms
    BlockIn (block_stands n cs) = ((n ≡ a) × (cs ≡ bs)) ⊎ BlockInside cs

    pub BlockAmong : Stands → Type 0
    BlockAmong none_stand = ⊥
    BlockAmong (stand_then m ms) = BlockIn m ⊎ BlockAmong ms

    pub BlockInside : Bodies → Type 0
    BlockInside no_bodies = ⊥
    BlockInside (body_then ms cs) = BlockAmong ms ⊎ BlockInside cs

  -- a table that is read so has its anchor
  pub record IsAnchor (r : Rooms) (v : Key → Look) : Type 0 where
    pub room : Room
    pub there : r a ≡ Some room
    pub shape : room.shape ≡ anchor_shape (group_names (show_bodies v bs))
    pub reads : ReadsGroups r (Some a) (show_bodies v bs)

  module _ (r : Rooms) (v : Key → Look) where
    mutual
      one_anchor : (m : Stand) → BlockIn m → (p : Option ℕ) → r (name_of (show v m)) ≡ Some (room_of p (show v m)) → ReadsInside r (show v m) → IsAnchor r v
      one_anchor (text_stands n ps) b p there reads = absurd b
      one_anchor (comment_stands n t) b p there reads = absurd b
      one_anchor (element_stands n e ats ms) b p there reads = anchor_at ms b (Some n) reads
      one_anchor (block_stands n cs) (inl two) p there reads = record {
        room = room_of p (show v (block_stands n cs));
        there = subst (λ (q : ℕ). r q ≡ Some (room_of p (show v (block_stands n cs)))) two.0 there;
        shape = ap (λ (ds : Bodies). anchor_shape (group_names (show_bodies v ds))) two.1;
        reads = subst (λ (q : ℕ). ReadsGroups r (Some q) (show_bodies v bs)) two.0 (subst (λ (ds : Bodies). ReadsGroups r (Some n) (show_bodies v ds)) two.1 reads);
      }
      one_anchor (block_stands n cs) (inr b) p there reads = anchor_inside cs b (Some n) reads

      pub anchor_at : (ms : Stands) → BlockAmong ms → (p : Option ℕ) → ReadsIn r p (shows v ms) → IsAnchor r v
      anchor_at none_stand b p reads = absurd b
      anchor_at (stand_then m ms) (inl b) p reads = one_anchor m b p reads.0.1 reads.1
      anchor_at (stand_then m ms) (inr b) p reads = anchor_at ms b p reads.2

      anchor_inside : (cs : Bodies) → BlockInside cs → (p : Option ℕ) → ReadsGroups r p (show_bodies v cs) → IsAnchor r v
      anchor_inside no_bodies b p reads = absurd b
      anchor_inside (body_then ms cs) (inl b) p reads = anchor_at ms b p reads.0
      anchor_inside (body_then ms cs) (inr b) p reads = anchor_inside cs b p reads.1

  -- its name is among those of what stands
  mutual
    one_named : (m : Stand) → BlockIn m → among a (stand_names m) ≡ true
    one_named (text_stands n ps) b = absurd b
    one_named (comment_stands n t) b = absurd b
    one_named (element_stands n e ats ms) b = among-right a (n ∷ []) (names_standing ms) (block_named ms b)
    one_named (block_stands n cs) (inl two) = among-left a (n ∷ []) (body_names cs) (rw two.0 (ap (λ (t : Bool). cond t true false) (eq-eqb a a refl)))
    one_named (block_stands n cs) (inr b) = among-right a (n ∷ []) (body_names cs) (inside_named cs b)

    pub block_named : (ms : Stands) → BlockAmong ms → among a (names_standing ms) ≡ true
    block_named none_stand b = absurd b
    block_named (stand_then m ms) (inl b) = among-left a (stand_names m) (names_standing ms) (one_named m b)
    block_named (stand_then m ms) (inr b) = among-right a (stand_names m) (names_standing ms) (block_named ms b)

    inside_named : (cs : Bodies) → BlockInside cs → among a (body_names cs) ≡ true
    inside_named no_bodies b = absurd b
    inside_named (body_then ms cs) (inl b) = among-left a (names_standing ms) (body_names cs) (block_named ms b)
    inside_named (body_then ms cs) (inr b) = among-right a (names_standing ms) (body_names cs) (inside_named cs b)

  -- it stands in a fragment that has it, or in whose outlets it is
  module _ (keys : ℕ → Key) (groups : ℕ → Bodies) where
    mutual
      part_block : (n k c i x : ℕ) (p : Part) → outlets_of_part k p ≡ Some c → slice_get (part_anchors n p) i ≡ Some x → BlockIn (block_stands x (groups (k + i))) → BlockIn (part_shape keys n groups p)
      part_block n k c i x (text_part ps) e at b = absurd (cc)
      part_block n k c i x (comment_part t) e at b = absurd (cc)
      part_block n k c i x (element_part t own acts ats p) e at b = content_block (n + 1) k c i x p e at b
      part_block n k c zero x (anchor_part outlet own starts) e at b =
          let here : outlet ≡ k + 0 = let first = eqb-true outlet k (where_true (outlet == k) (Some (k + 1)) c e).0 in omega (arith, first) in
          let name : x ≡ n = cc in
          subst (λ (o : ℕ). BlockIn (block_stands n (groups o))) (sym here) (subst (λ (y : ℕ). BlockIn (block_stands y (groups (k + 0)))) name b)
      part_block n k c (suc i) x (anchor_part outlet own starts) e at b = absurd (cc)

      content_block : (n k c i x : ℕ) (p : Contents) → outlets_of_contents k p ≡ Some c → slice_get (content_anchors n p) i ≡ Some x → BlockIn (block_stands x (groups (k + i))) → BlockAmong (content_shape keys n groups p)
      content_block n k c i x (children ps) e at b = shape_block n k c i x ps e at b
      content_block n k c i x (bound y) e at b = absurd (cc)

      pub shape_block : (n k c i x : ℕ) (ps : Parts) → after_outlets k ps ≡ Some c → slice_get (anchors n ps) i ≡ Some x → BlockIn (block_stands x (groups (k + i))) → BlockAmong (shape keys n groups ps)
      shape_block n k c i x no_parts e at b = absurd (cc)
      shape_block n k c i x (part_then p ps) e at b =
          let two = first_then (outlets_of_part k p) (λ j. after_outlets j ps) c e in
          let count = counted_part n k two.0 p two.1 in
          by_place (cut_place (part_anchors n p) (anchors (n + part_nodes p) ps) i x at) (λ here. part_block n k two.0 i x p two.1 here b)
          (λ j is rest. let same : k + i ≡ two.0 + j = omega (arith, count, is) in shape_block (n + part_nodes p) two.0 c j x ps two.2 rest (subst (λ (o : ℕ). BlockIn (block_stands x (groups o))) same b))
        where
          by_place : (slice_get (part_anchors n p) i ≡ Some x) ⊎ ((j : ℕ) × (i ≡ length (part_anchors n p) + j) × (slice_get (anchors (n + part_nodes p) ps) j ≡ Some x)) → (slice_get (part_anchors n p) i ≡ Some x → BlockIn (part_shape keys n groups p))
              → ((j : ℕ) → i ≡ length (part_anchors n p) + j → slice_get (anchors (n + part_nodes p) ps) j ≡ Some x → BlockAmong (shape keys (n + part_nodes p) groups ps))
              → BlockAmong (shape keys n groups (part_then p ps))
          by_place (inl here) first rest = inl (first here)
          by_place (inr later) first rest = inr (rest later.0 later.1 later.2)

-- where the bodies of a block change, it stands with what they become
module _ (a : ℕ) (bs : Bodies) (h : Bodies → Bodies) where
  mutual
    one_becomes : (m : Stand) → BlockIn a bs m → (cs : Bodies) × BlockIn a (h cs) (at_block a h m)
    one_becomes (text_stands n ps) b = absurd b
    one_becomes (comment_stands n t) b = absurd b
    one_becomes (element_stands n e ats ms) b = block_becomes ms b
    one_becomes (block_stands n cs) (inl two) =
        (at_block_bodies a h cs, inl (two.0, ap (λ (t : Bool). cond t (h (at_block_bodies a h cs)) (at_block_bodies a h cs)) (eq-eqb n a two.0)))
    one_becomes (block_stands n cs) (inr b) = by_name (n == a) refl (inside_becomes cs b)
      where
        by_name : (t : Bool) → (n == a) ≡ t → (ds : Bodies) × BlockInside a (h ds) (at_block_bodies a h cs)
            → (ds : Bodies) × BlockIn a (h ds) (block_stands n (cond t (h (at_block_bodies a h cs)) (at_block_bodies a h cs)))
        by_name true is more = (at_block_bodies a h cs, inl (eqb-true n a is, refl))
        by_name false is more = (more.0, inr more.1)

    pub block_becomes : (ms : Stands) → BlockAmong a bs ms → (cs : Bodies) × BlockAmong a (h cs) (at_block_all a h ms)
    block_becomes none_stand b = absurd b
    block_becomes (stand_then m ms) (inl b) = let more = one_becomes m b in (more.0, inl more.1)
    block_becomes (stand_then m ms) (inr b) = let more = block_becomes ms b in (more.0, inr more.1)

    inside_becomes : (cs : Bodies) → BlockInside a bs cs → (ds : Bodies) × BlockInside a (h ds) (at_block_bodies a h cs)
    inside_becomes no_bodies b = absurd b
    inside_becomes (body_then ms cs) (inl b) = let more = block_becomes ms b in (more.0, inl more.1)
    inside_becomes (body_then ms cs) (inr b) = let more = inside_becomes cs b in (more.0, inr more.1)
