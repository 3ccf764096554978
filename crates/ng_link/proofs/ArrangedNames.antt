-- Bodies of an outlet in another order: what stands then has each name as often.
use Rattle.std.proofs.Common.{◌≡◌, ◌+◌, ℕ, zero, suc, Bool, true, false, cond, List, [], ◌∷◌, Some, refl, ap, ◌∙◌, sym, map, slice_get, arith, eqb-true}
use Rattle.std.proofs.lemmas.Bool.{eqb-false}
use Rattle.std.specs.Prelude.{◌==◌}
use Rattle.ng_base.specs.declared.path.Key.{Key}
use Rattle.ng_dom.specs.Drawing.{Stands, Bodies, none_stand, stand_names, names_standing, body_names}
use Rattle.ng_drawing.specs.Nodes.{part_nodes}
use Rattle.ng_drawing.specs.Template.{Part, Contents, Parts, text_part, comment_part, element_part, anchor_part, children, bound, no_parts, part_then}
use Rattle.ng_link.specs.Arranging.{Rearranges}
use Rattle.ng_instances.specs.Instances.{Body, OutletState, Linked, Instances, is_path, linked_at, keys_of, read_bodies, bodies_from, groups_from, stands_join, stands_at, with_outlets, outlets_changed, bodies_arranged}
use Rattle.ng_build.specs.Shape.{part_shape, content_shape, shape}
use Rattle.ng_link.proofs.Arranged.{arranged_group, stood_group, arranged_others}
use Rattle.ng_link.proofs.ReadOff.{read_here, read_past}
use Rattle.ng_link.proofs.Sums.{sum_of, same_sums, sums_alike}
use Rattle.ng_link.proofs.Times.{times, times-append}

-- what stands in outlets has a name as often where the bodies there have
module _ (m : ℕ) (keys : ℕ → Key) (before after : ℕ → Bodies) (same : (o : ℕ) → times m (body_names (after o)) ≡ times m (body_names (before o))) where
  mutual
    part_names : (n : ℕ) (p : Part) → times m (stand_names (part_shape keys n after p)) ≡ times m (stand_names (part_shape keys n before p))
    part_names n (text_part ps) = refl
    part_names n (comment_part t) = refl
    part_names n (element_part e own acts ats c) = let more = contents_names (n + 1) c in omega (arith, more)
    part_names n (anchor_part outlet own starts) = let more = same outlet in omega (arith, more)

    contents_names : (n : ℕ) (c : Contents) → times m (names_standing (content_shape keys n after c)) ≡ times m (names_standing (content_shape keys n before c))
    contents_names n (children ps) = shape_names n ps
    contents_names n (bound k) = refl

    pub shape_names : (n : ℕ) (ps : Parts) → times m (names_standing (shape keys n after ps)) ≡ times m (names_standing (shape keys n before ps))
    shape_names n no_parts = refl
    shape_names n (part_then p ps) =
        let first = part_names n p in
        let rest = shape_names (n + part_nodes p) ps in
        let b = times-append m (stand_names (part_shape keys n before p)) (names_standing (shape keys (n + part_nodes p) before ps)) in
        let a = times-append m (stand_names (part_shape keys n after p)) (names_standing (shape keys (n + part_nodes p) after ps)) in
        omega (arith, first, rest, a, b)

module _ (m : ℕ) where
  -- how often a name is among those of what stands on a path
  abbrev often : (List ℕ → Stands) → List ℕ → ℕ
  often go p = times m (names_standing (go p))

  names_told : (go : List ℕ → Stands) (bs : List Body) → times m (body_names (bodies_from (map (λ (b : Body). go b.path) bs))) ≡ sum_of (often go) bs
  names_told go [] = refl
  names_told go (b ∷ bs) =
      let rest = names_told go bs in
      let both = times-append m (names_standing (go b.path)) (body_names (bodies_from (map (λ (c : Body). go c.path) bs))) in
      omega (arith, rest, both)

  -- bodies that have it as often
  names_groups : (go to : List ℕ → Stands) → ((p : List ℕ) → often to p ≡ often go p) → (os : List OutletState) (o : ℕ)
      → times m (body_names (groups_from (read_bodies to os) o)) ≡ times m (body_names (groups_from (read_bodies go os) o))
  names_groups go to same [] o = refl
  names_groups go to same (x ∷ xs) zero = names_told to x.bodies ∙ (sums_alike (often to) (often go) same x.bodies ∙ sym (names_told go x.bodies))
  names_groups go to same (x ∷ xs) (suc o) = names_groups go to same xs o

  module _ (bs : List Body) (o : ℕ) (x : OutletState) (same : Rearranges bs x.bodies) where
    -- an outlet whose bodies stand in another order
    arranged_names : (go : List ℕ → Stands) (os : List OutletState) → slice_get os o ≡ Some x → (i : ℕ)
        → times m (body_names (groups_from (read_bodies go (bodies_arranged o bs os)) i)) ≡ times m (body_names (groups_from (read_bodies go os) i))
    arranged_names go os at i = by_test (i == o) refl
      where
        count : Bodies → ℕ
        count cs = times m (body_names cs)

        here : count (groups_from (read_bodies go (bodies_arranged o bs os)) o) ≡ count (groups_from (read_bodies go os) o)
        here =
            ap count (arranged_group go bs os o x at)
            ∙ (names_told go bs
            ∙ (same_sums (often go) bs x.bodies same
            ∙ (sym (names_told go x.bodies)
            ∙ ap count (sym (stood_group go os o x at)))))

        by_test : (b : Bool) → (i == o) ≡ b → count (groups_from (read_bodies go (bodies_arranged o bs os)) i) ≡ count (groups_from (read_bodies go os) i)
        by_test true is =
            let that : i ≡ o = eqb-true i o is in
            ap (λ (k : ℕ). count (groups_from (read_bodies go (bodies_arranged o bs os)) k)) that ∙ (here ∙ ap (λ (k : ℕ). count (groups_from (read_bodies go os) k)) (sym that))
        by_test false is = ap count (arranged_others go bs os o i (eqb-false i o is))

    -- and the instances that are linked
    module _ (p : List ℕ) (l : Linked) (at : slice_get l.page.outlets o ≡ Some x) where
      abbrev f : List OutletState → List OutletState
      f = bodies_arranged o bs

      own : (e : List ℕ × Linked) (es : Instances) → e.1 ≡ l → (q : List ℕ) → often (stands_at ((e.0, with_outlets f e.1) ∷ es)) q ≡ often (stands_at (e ∷ es)) q
      own e es one q = by_path (is_path q e.0) refl
        where
          count : Stands → ℕ
          count ts = times m (names_standing ts)

          there : slice_get e.1.page.outlets o ≡ Some x
          there = ap (λ (k : Linked). slice_get k.page.outlets o) one ∙ at

          by_path : (b : Bool) → is_path q e.0 ≡ b → often (stands_at ((e.0, with_outlets f e.1) ∷ es)) q ≡ often (stands_at (e ∷ es)) q
          by_path true is =
              ap count (read_here none_stand stands_join q (e.0, with_outlets f e.1) es is)
              ∙ (shape_names m (keys_of e.1.page) (groups_from (read_bodies (stands_at es) e.1.page.outlets)) (groups_from (read_bodies (stands_at es) (f e.1.page.outlets))) (arranged_names (stands_at es) e.1.page.outlets there)
              e.1.page.node e.1.fragment.parts
              ∙ ap count (sym (read_here none_stand stands_join q e es is)))
          by_path false is = ap count (read_past none_stand stands_join q (e.0, with_outlets f e.1) es is) ∙ ap count (sym (read_past none_stand stands_join q e es is))

      earlier : (e : List ℕ × Linked) (es to : Instances) → ((q : List ℕ) → often (stands_at to) q ≡ often (stands_at es) q) → (q : List ℕ) → often (stands_at (e ∷ to)) q ≡ often (stands_at (e ∷ es)) q
      earlier e es to rest q = by_path (is_path q e.0) refl
        where
          count : Stands → ℕ
          count ts = times m (names_standing ts)

          by_path : (b : Bool) → is_path q e.0 ≡ b → often (stands_at (e ∷ to)) q ≡ often (stands_at (e ∷ es)) q
          by_path true is =
              ap count (read_here none_stand stands_join q e to is)
              ∙ (shape_names m (keys_of e.1.page) (groups_from (read_bodies (stands_at es) e.1.page.outlets)) (groups_from (read_bodies (stands_at to) e.1.page.outlets)) (names_groups (stands_at es) (stands_at to) rest e.1.page.outlets)
              e.1.page.node e.1.fragment.parts
              ∙ ap count (sym (read_here none_stand stands_join q e es is)))
          by_path false is = ap count (read_past none_stand stands_join q e to is) ∙ (rest q ∙ ap count (sym (read_past none_stand stands_join q e es is)))

      pub as_often : (is : Instances) → linked_at p is ≡ Some l → (q : List ℕ) → times m (names_standing (stands_at (outlets_changed p f is) q)) ≡ times m (names_standing (stands_at is q))
      as_often [] found q = absurd (cc)
      as_often (e ∷ es) found q = by_test (is_path p e.0) refl found (as_often es)
        where
          by_test : (b : Bool) → is_path p e.0 ≡ b → cond b (Some e.1) (linked_at p es) ≡ Some l
              → (linked_at p es ≡ Some l → (r : List ℕ) → times m (names_standing (stands_at (outlets_changed p f es) r)) ≡ times m (names_standing (stands_at es r)))
              → times m (names_standing (stands_at (cond b ((e.0, with_outlets f e.1) ∷ es) (e ∷ outlets_changed p f es)) q)) ≡ times m (names_standing (stands_at (e ∷ es) q))
          by_test true is found more = own e es (cc) q
          by_test false is found more = earlier e es (outlets_changed p f es) (more found) q
