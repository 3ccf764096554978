-- Nodes in document order, in their blocks, one after another.
use Rattle.std.proofs.Common.{◌≡◌, ◌<◌, ◌≤◌, ◌+◌, inl, inr, ℕ, Bool, true, false, cond, List, [], ◌∷◌, ◌++◌, length, Option, None, Some, Result, Ok, Err, refl, ap, sym, subst, ◌∙◌, append_assoc, append-nil, length-append, arith}
use Rattle.std.proofs.lemmas.Bool.{and_from, eq-eqb}
use Rattle.std.specs.Prelude.{◌||◌, ◌&&◌, ◌==◌, not, is_some, unwrap_or, option_and_then}
use Rattle.std.specs.List.{list_all}
use Rattle.std.proofs.lemmas.Grind.{flat_map-append}
use Rattle.ng_base.specs.Meets.{◌>>=◌}
use Rattle.ng_collect.specs.declared.definition.DirectiveDef.{DirectiveDef}
use Rattle.ng_drawing.specs.Cases.{Case}
use Rattle.ng_drawing.specs.Template.{Site, on_case, Outlet, Part, Parts, no_parts, part_then, Fragment}
use Rattle.ng_markup.specs.Forest.{Attributes, Node, Forest, element, text, comment, no_nodes, node}
use Rattle.ng_template.specs.Around.{Inside, Block, Around, at_place, around_node}
use Rattle.ng_directives.specs.Places.{first_place, other_places}
use Rattle.ng_elements.specs.Elements.{Made, Switch, fragment_made}
use Rattle.ng_template.specs.Compiles.{after_node, after_forest, element_made, the_case, the_block, outermost_made, rounds, begun_body, site_in, filling_in, outlet_by, bodies_with, has_room, wrapped, in_rounds, node_made, compiled_node, compiled_forest}
use Rattle.ng_directives.specs.Limits.{worn}
use Rattle.ng_drawing.specs.Numbering.{is_apart, after_part, after_parts, part_draws, parts_draw, outlets_of_part, after_outlets, is_undrawn, are_undrawn}
use Rattle.ng_template.specs.Order.{Met, is_passed_over, is_taken_apart, makes_scope_by, has_switch, has_block, is_left, is_left_to_body, is_near, inside_refusal, around_refusal, refusal, FirstRefusal, refused_here, around_sites, node_sites, sites_at, part_holes, holes}
use Rattle.ng_directives.specs.Texts.{counted}
use Rattle.ng_directives.specs.declared.fault.TplFault.{TplFault}
use Rattle.ng_directives.specs.declared.fault.TplKind.{TplKind}
use Rattle.ng_template.proofs.Apart.{Apart, IsInside, all_weaker, all_joined, apart_first, apart_second, all_apart}
use Rattle.ng_template.proofs.NoCase.{no_case}
use Rattle.ng_parts.proofs.More.{all_more}
use Rattle.ng_directives.proofs.Numbers.{counted-append}
use Rattle.ng_template.proofs.Walks.{node_walk}
use Rattle.ng_template.proofs.Wholes.{Whole, AreWhole, other_places_left, begun_whole, all_whole, bodies_grow, block_there, case_there, wrapped_whole}
use Rattle.ng_template.proofs.Follows.{Follows, of_part, of_parts, Good, skipped, skipped_here, near, walk_all, walk_here, sites_of_forest, none-append, first_in, first_past, text_good}
use Rattle.ng_template.proofs.Alone.{ByItself, KidsGood, alone_good}

module _ (defs : List DirectiveDef) (slots : Bool) where
  -- an element in its blocks
  module _ (name : List ℕ) (ats : Attributes) (kids : Forest) (outer : Switch) (m : Made) where
    abbrev here : Node
    here = element name ats kids

    abbrev met_here : Met
    met_here = (here, is_some outer)

    abbrev nodes_with : Result Around TplKind → List (Met × ℕ)
    nodes_with r = (met_here, first_place m.places) ∷ cond (is_left defs r) [] (walk_all defs slots (is_near defs r (is_some outer)) kids (other_places m.places))

    abbrev sites_with : Result Around TplKind → List Site
    sites_with r = around_sites defs ats r ++ sites_at defs slots (cond (is_left_to_body defs r) [] (walk_here defs slots (is_near defs r (is_some outer)) kids (other_places m.places)))

    abbrev ThisElement : Result Around TplKind → Result (Part × Made) TplFault → Type 0
    ThisElement a r = Good of_part defs slots outer (length m.sites) (nodes_with a) (sites_with a) (after_forest kids (other_places m.places)) m r

    abbrev around : Option Case → List Block → Inside → Result Around TplKind
    around c bs i = Ok (record { case = c; heads = bs; inside = i })

    abbrev begun : Made
    begun = begun_body m

    nothing_near : (b : Bool) → (not b && false) ≡ (not (true || b) && is_some outer)
    nothing_near true = refl
    nothing_near false = refl

    -- the element is a body, or it stands where it is
    abbrev InBody : Inside → Result (Part × Made) TplFault → Type 0
    InBody i r = ByItself defs slots name ats kids (is_some outer) true None begun nothing_near i r

    -- a body that is whole
    module _ (bs : List Block) (i : Inside) (q : Part × Made) (g : InBody i (Ok q)) where
      abbrev all : List Fragment
      all = bodies_with bs q

      undrawn : are_undrawn (fragment_made (part_then q.0 no_parts, q.1)) ≡ true
      undrawn =
          subst (λ (os : List Outlet). list_all (is_undrawn (length q.1.sites) (part_then q.0 no_parts)) os ≡ true) (sym g.grown)
          (all_more (λ (x : Outlet). part_draws (is_apart x.site 0 (length q.1.sites)) q.0) (is_undrawn (length q.1.sites) (part_then q.0 no_parts))
          (λ x e. and_from (part_draws (is_apart x.site 0 (length q.1.sites)) q.0) true e refl) g.new
          (all_apart (length q.1.sites) (λ test. part_draws test q.0) g.new g.apart))

      whole_bodies : Whole m → AreWhole all
      whole_bodies w = all_whole bs q.0 q.1 g.regular g.outlets undrawn (g.whole tt (begun_whole m w))

      more_bodies : length m.bodies ≤ length all
      more_bodies = let grown : length q.1.bodies < length all = bodies_grow bs q.0 q.1 in let more = g.more in omega (arith, grown, more)

      some_bodies : 0 < length all
      some_bodies = let grown : length q.1.bodies < length all = bodies_grow bs q.0 q.1 in omega (arith, grown)

    -- an outlet more, at an anchor
    next_outlet : (x : Outlet) → cond (length m.outlets == length m.outlets) (Some (length m.outlets + 1)) None ≡ Some (length (m.outlets ++ x ∷ []))
    next_outlet x =
        let count : length (m.outlets ++ x ∷ []) ≡ length m.outlets + length (x ∷ []) = length-append m.outlets (x ∷ []) in
        let after : length m.outlets + 1 ≡ length (m.outlets ++ x ∷ []) = omega (arith, count) in
        ap (λ b. cond b (Some (length m.outlets + 1)) None) (eq-eqb (length m.outlets) (length m.outlets) refl) ∙ ap Some after

    block_good : (b : Block) (bs : List Block) (i : Inside) (q : Part × Made) → InBody i (Ok q) → (room : Bool)
        → ThisElement (around None (b ∷ bs) i) (cond room (Ok (outermost_made (the_block b) m.sites m.outlets q.1.places (bodies_with bs q))) (Err worn))
    block_good b bs i q g true =
        let size : length (m.sites ++ site_in b ∷ []) ≡ length m.sites + length (site_in b ∷ []) = length-append m.sites (site_in b ∷ []) in
        let next : length m.sites + 1 ≡ length (m.sites ++ site_in b ∷ []) = omega (arith, size) in
        let last : Outlet = outlet_by (length m.sites) (filling_in b) (bodies_with bs q) in
        record {
          left = g.left;
          sites = refl;
          numbers = refl;
          regular = ap (λ b. cond b (Some (length m.sites + 1)) None) (eq-eqb (length m.sites) (length m.sites) refl) ∙ ap Some next;
          outlets = next_outlet last;
          none = g.none;
          more = more_bodies bs i q g;
          whole = λ _ w. wrapped_whole bs q.0 q.1 m (m.sites ++ site_in b ∷ []) (length m.sites) (filling_in b) g.more (omega (arith, size)) (omega (arith, size))
              (block_there b (length (bodies_with bs q)) (length (bodies_with bs q)) (some_bodies bs i q g) (omega arith)) w (whole_bodies bs i q g w);
          new = last ∷ [];
          grown = refl;
          apart = (inr (omega arith, (omega (arith, size), refl)), tt);
        }
    block_good b bs i q g false = inr refl

    case_good : (n : ℕ) → outer ≡ Some n → (c : Case) (bs : List Block) (i : Inside) (q : Part × Made) → InBody i (Ok q) → (room : Bool)
        → ThisElement (around (Some c) bs i) (cond room (Ok (outermost_made (the_case n c) m.sites m.outlets q.1.places (bodies_with bs q))) (Err worn))
    case_good n is c bs i q g true =
        let last : Outlet = outlet_by n (on_case c) (bodies_with bs q) in
        record {
          left = g.left;
          sites = sym (append-nil m.sites);
          numbers = refl;
          regular = refl;
          outlets = next_outlet last;
          none = g.none;
          more = more_bodies bs i q g;
          whole = λ inside w. wrapped_whole bs q.0 q.1 m m.sites n (on_case c) g.more (omega arith) (subst (λ (o : Switch). IsInside o (length m.sites)) is inside)
              (case_there c (length (bodies_with bs q)) (length (bodies_with bs q)) (some_bodies bs i q g) (omega arith)) w (whole_bodies bs i q g w);
          new = last ∷ [];
          grown = refl;
          apart = (inl is, tt);
        }
    case_good n is c bs i q g false = inr refl

    -- what is refused in the body is refused
    in_body : (r : Result (Part × Made) TplFault) (c : Option Case) (bs : List Block) (i : Inside) (go : Part × Made → Result (Part × Made) TplFault) → has_block c bs ≡ true → InBody i r
        → ((q : Part × Made) → InBody i (Ok q) → ThisElement (around c bs i) (go q)) → ThisElement (around c bs i) (r >>= go)
    in_body (Ok q) c bs i go some g then = then q g
    in_body (Err f) c bs i go some (inl g) then =
        inl (subst (λ (b : Bool). FirstRefusal defs slots ((met_here, first_place m.places) ∷ cond (is_passed_over defs i) [] (walk_all defs slots (not (is_taken_apart defs i) && (has_switch i || (not (b || makes_scope_by defs i) && is_some outer))) kids (other_places m.places))) f) (sym some) g)
    in_body (Err f) c bs i go some (inr g) then = inr g

    module _ (go : KidsGood defs slots name ats kids (is_some outer) false outer m (λ b. refl)) (go_begun : KidsGood defs slots name ats kids (is_some outer) true None begun nothing_near) where
      abbrev by_itself : Inside → Switch → Made → Result (Part × Made) TplFault
      by_itself i o k = element_made defs here name ats kids i (λ p j. compiled_forest defs slots p kids j) o k

      around_good : (c : Option Case) (bs : List Block) (i : Inside) → refusal defs slots met_here ≡ inside_refusal defs ats i → ((x : Case) → c ≡ Some x → (n : ℕ) × (outer ≡ Some n))
          → ThisElement (around c bs i) (in_rounds (rounds (unwrap_or outer 0) c bs) (by_itself i) outer m)
      around_good None [] i e switch = alone_good defs slots name ats kids (is_some outer) false outer m (λ b. refl) go i e
      around_good None (b ∷ bs) i e switch =
          in_body (by_itself i None begun) None (b ∷ bs) i (wrapped (the_block b) bs m.sites m.outlets) refl (alone_good defs slots name ats kids (is_some outer) true None begun nothing_near go_begun i e)
          (λ q g. block_good b bs i q g (has_room m.sites m.outlets (bodies_with bs q)))
      around_good (Some c) bs i e switch =
          let there = switch c refl in
          in_body (by_itself i None begun) (Some c) bs i (wrapped (the_case (unwrap_or outer 0) c) bs m.sites m.outlets) refl (alone_good defs slots name ats kids (is_some outer) true None begun nothing_near go_begun i e)
          (λ q g. case_good (unwrap_or outer 0) (there.1 ∙ ap (λ (o : Switch). Some (unwrap_or o 0)) (sym there.1)) c bs i q g (has_room m.sites m.outlets (bodies_with bs q)))

      element_good : (r : Result Around TplKind) → around_node defs slots (is_some outer) here ≡ r → ThisElement r (at_place (first_place m.places) r >>= node_made by_itself outer m)
      element_good (Err kind) e = inl (refused_here (ap (around_refusal defs ats) e))
      element_good (Ok a) e = around_good a.case a.heads a.inside (ap (around_refusal defs ats) e) (λ x some. by outer e x some)
        where
          by : (o : Switch) → around_node defs slots (is_some o) here ≡ Ok a → (x : Case) → a.case ≡ Some x → (n : ℕ) × (o ≡ Some n)
          by (Some n) found x some = (n, refl)
          by None found x some = let two : None ≡ Some x = sym (no_case defs slots here a found) ∙ some in absurd (cc)

  -- one after another
  module _ (xs ys : List (Met × ℕ)) (us vs : List Site) (outer : Switch) (m : Made) where
    both : (p : Part) (n : Made) (ps : Parts) (k : Made) (left last : List ℕ)
        → Follows defs slots xs us left m (part_holes p) (after_part (length m.sites) p) (outlets_of_part (length m.outlets) p) (λ test. part_draws test p) outer (length m.sites) n
        → Follows defs slots ys vs last n (holes ps) (after_parts (length n.sites) ps) (after_outlets (length n.outlets) ps) (λ test. parts_draw test ps) outer (length n.sites) k
        → Follows defs slots (xs ++ ys) (us ++ vs) last m (holes (part_then p ps)) (after_parts (length m.sites) (part_then p ps)) (after_outlets (length m.outlets) (part_then p ps)) (λ test. part_draws test p && parts_draw test ps)
        outer (length m.sites) k
    both p n ps k left last h g =
        let size : length n.sites ≡ length m.sites + length us = ap length h.sites ∙ length-append m.sites us in
        record {
          left = g.left;
          sites = g.sites ∙ (ap (λ (ss : List Site). ss ++ vs) h.sites ∙ append_assoc m.sites us vs);
          numbers = ap (λ (hs : List ℕ). hs ++ holes ps) h.numbers ∙ (ap (λ (hs : List ℕ). counted (length m.sites) us ++ hs) (g.numbers ∙ ap (λ k. counted k vs) size) ∙ sym (counted-append (length m.sites) us vs));
          regular = ap (option_and_then (λ c. after_parts c ps)) h.regular ∙ g.regular;
          outlets = ap (option_and_then (λ c. after_outlets c ps)) h.outlets ∙ g.outlets;
          none = none-append defs slots xs ys h.none g.none;
          more = omega (arith, h.more, g.more);
          whole = λ i w. g.whole (still_inside outer i size) (h.whole i w);
          new = h.new ++ g.new;
          grown = g.grown ∙ (ap (λ (os : List Outlet). os ++ g.new) h.grown ∙ append_assoc m.outlets h.new g.new);
          apart = all_joined (Apart outer (length m.sites) (length k.sites) (λ test. part_draws test p && parts_draw test ps)) h.new g.new
              (all_weaker (Apart outer (length m.sites) (length n.sites) (λ test. part_draws test p)) (Apart outer (length m.sites) (length k.sites) (λ test. part_draws test p && parts_draw test ps))
              (apart_first (length m.sites) (length n.sites) (length k.sites) p ps outer h.regular g.regular) h.new h.apart)
              (all_weaker (Apart outer (length n.sites) (length k.sites) (λ test. parts_draw test ps)) (Apart outer (length m.sites) (length k.sites) (λ test. part_draws test p && parts_draw test ps))
              (apart_second (length m.sites) (length n.sites) (length k.sites) p ps outer h.regular g.regular) g.new g.apart);
        }
      where
        still_inside : (o : Switch) → IsInside o (length m.sites) → length n.sites ≡ length m.sites + length us → IsInside o (length n.sites)
        still_inside None i size = tt
        still_inside (Some s) i size = omega (arith, i, size)

    rest_good : (p : Part) (n : Made) (left last : List ℕ)
        → Follows defs slots xs us left m (part_holes p) (after_part (length m.sites) p) (outlets_of_part (length m.outlets) p) (λ test. part_draws test p) outer (length m.sites) n
        → (r : Result (Parts × Made) TplFault) → Good of_parts defs slots outer (length n.sites) ys vs last n r
        → Good of_parts defs slots outer (length m.sites) (xs ++ ys) (us ++ vs) last m (r >>= λ s. Ok (part_then p s.0, s.1))
    rest_good p n left last h (Ok s) g = both p n s.0 s.1 left last h g
    rest_good p n left last h (Err f) (inl g) = inl (first_past defs slots xs ys f h.none g)
    rest_good p n left last h (Err f) (inr g) = inr g

  abbrev nodes_of_node : Bool → Node → List ℕ → List (Met × ℕ)
  nodes_of_node o n places = node_walk (near defs slots) (skipped defs slots) o n places

  abbrev sites_of_node : Bool → Node → List ℕ → List Site
  sites_of_node o n places = sites_at defs slots (node_walk (near defs slots) (skipped_here defs slots) o n places)

  abbrev NodeGood : Switch → Node → Made → Result (Part × Made) TplFault → Type 0
  NodeGood o n m r = Good of_part defs slots o (length m.sites) (nodes_of_node (is_some o) n m.places) (sites_of_node (is_some o) n m.places) (after_node n m.places) m r

  abbrev ForestGood : Switch → Forest → Made → Result (Parts × Made) TplFault → Type 0
  ForestGood o f m r = Good of_parts defs slots o (length m.sites) (walk_all defs slots (is_some o) f m.places) (sites_of_forest defs slots (is_some o) f m.places) (after_forest f m.places) m r

  split_sites : (o : Bool) (n : Node) (f : Forest) (places : List ℕ) → sites_of_forest defs slots o (node n f) places ≡ sites_of_node o n places ++ sites_of_forest defs slots o f (after_node n places)
  split_sites o n f places = flat_map-append (λ (x : Met × ℕ). node_sites defs slots x.0.1 x.0.0) (node_walk (near defs slots) (skipped_here defs slots) o n places) (walk_here defs slots o f (after_node n places))

  then_good : (o : Switch) (n : Node) (f : Forest) (m : Made) → (r : Result (Part × Made) TplFault) → NodeGood o n m r → ((k : Made) → ForestGood o f k (compiled_forest defs slots o f k))
      → ForestGood o (node n f) m (r >>= λ q. compiled_forest defs slots o f q.1 >>= λ s. Ok (part_then q.0 s.0, s.1))
  then_good o n f m (Ok q) h go =
      let after : List ℕ = after_node n m.places in
      let rest : Good of_parts defs slots o (length q.1.sites) (walk_all defs slots (is_some o) f after) (sites_of_forest defs slots (is_some o) f after) (after_forest f after) q.1 (compiled_forest defs slots o f q.1)
      = subst (λ (places : List ℕ). Good of_parts defs slots o (length q.1.sites) (walk_all defs slots (is_some o) f places) (sites_of_forest defs slots (is_some o) f places) (after_forest f places) q.1 (compiled_forest defs slots o f q.1)) h.left (go q.1) in
      subst (λ (ss : List Site). Good of_parts defs slots o (length m.sites) (walk_all defs slots (is_some o) (node n f) m.places) ss (after_forest f after) m (compiled_forest defs slots o f q.1 >>= λ s. Ok (part_then q.0 s.0, s.1)))
      (sym (split_sites (is_some o) n f m.places))
      (rest_good (nodes_of_node (is_some o) n m.places) (walk_all defs slots (is_some o) f after) (sites_of_node (is_some o) n m.places) (sites_of_forest defs slots (is_some o) f after) o m q.0 q.1 after (after_forest f after) h (compiled_forest defs slots o f q.1) rest)
  then_good o n f m (Err d) (inl h) go = inl (first_in defs slots (nodes_of_node (is_some o) n m.places) (walk_all defs slots (is_some o) f (after_node n m.places)) d h)
  then_good o n f m (Err d) (inr h) go = inr h

  mutual
    node_good : (o : Switch) (n : Node) (m : Made) → NodeGood o n m (compiled_node defs slots o n m)
    node_good o (element name ats kids) m = element_good name ats kids o m (λ p k. forest_good p kids k) (λ p k. forest_good p kids k) (around_node defs slots (is_some o) (element name ats kids)) refl
    node_good o (text t) m = text_good defs slots t o m
    node_good o (comment t) m = record {
      left = refl;
      sites = sym (append-nil m.sites);
      numbers = refl;
      regular = refl;
      outlets = refl;
      none = (refl, tt);
      more = omega arith;
      whole = λ i w. other_places_left m (other_places m.places) w;
      new = [];
      grown = sym (append-nil m.outlets);
      apart = tt;
    }

    pub forest_good : (o : Switch) (f : Forest) (m : Made) → ForestGood o f m (compiled_forest defs slots o f m)
    forest_good o no_nodes m = record {
      left = refl;
      sites = sym (append-nil m.sites);
      numbers = refl;
      regular = refl;
      outlets = refl;
      none = tt;
      more = omega arith;
      whole = λ i w. w;
      new = [];
      grown = sym (append-nil m.outlets);
      apart = tt;
    }
    forest_good o (node n f) m = then_good o n f m (compiled_node defs slots o n m) (node_good o n m) (λ k. forest_good o f k)
