-- The nodes of a document but those in some elements, as the document is walked: those of a node, then those after it.
use Rattle.std.proofs.Common.{◌≡◌, ℕ, suc, Bool, true, false, cond, List, [], ◌∷◌, ◌++◌, length, refl, ap, sym, ◌∙◌, append_assoc, append-nil, length-append, arith}
use Rattle.ng_drawing.specs.Nodes.{node_count, forest_count}
use Rattle.ng_markup.specs.Forest.{Node, Forest, element, text, comment, no_nodes, node}
use Rattle.ng_directives.specs.Places.{first_place, other_places}
use Rattle.ng_template.specs.Compiles.{after_node, after_forest}
use Rattle.ng_template.specs.Order.{Met, node_order, in_order, placed, count_if, without}

-- the places that are left after as many nodes
abbrev left : List Met → List ℕ → List ℕ
left [] places = places
left (n ∷ ns) places = left ns (other_places places)

left-append : (xs ys : List Met) (places : List ℕ) → left (xs ++ ys) places ≡ left ys (left xs places)
left-append [] ys places = refl
left-append (x ∷ xs) ys places = left-append xs ys (other_places places)

placed-append : (xs ys : List Met) (places : List ℕ) → placed (xs ++ ys) places ≡ placed xs places ++ placed ys (left xs places)
placed-append [] ys places = refl
placed-append (x ∷ xs) ys places = ap (λ (zs : List (Met × ℕ)). (x, first_place places) ∷ zs) (placed-append xs ys (other_places places))

length-placed : (ns : List Met) (places : List ℕ) → length (placed ns places) ≡ length ns
length-placed [] places = refl
length-placed (n ∷ ns) places = ap suc (length-placed ns (other_places places))

-- it is said which elements have a switch for the nodes in them
module _ (near : Met → Bool) where
  mutual
    left-node : (o : Bool) (n : Node) (places : List ℕ) → left (node_order near o n) places ≡ after_node n places
    left-node o (element name ats kids) places = left-forest (near (element name ats kids, o)) kids (other_places places)
    left-node o (text t) places = refl
    left-node o (comment t) places = refl

    left-forest : (o : Bool) (f : Forest) (places : List ℕ) → left (in_order near o f) places ≡ after_forest f places
    left-forest o no_nodes places = refl
    left-forest o (node n f) places =
        left-append (node_order near o n) (in_order near o f) places ∙ (ap (left (in_order near o f)) (left-node o n places) ∙ left-forest o f (after_node n places))

  mutual
    node-length : (o : Bool) (n : Node) → length (node_order near o n) ≡ node_count n
    node-length o (element name ats kids) = let h = forest-length (near (element name ats kids, o)) kids in omega (arith, h)
    node-length o (text t) = refl
    node-length o (comment t) = refl

    forest-length : (o : Bool) (f : Forest) → length (in_order near o f) ≡ forest_count f
    forest-length o no_nodes = refl
    forest-length o (node n f) =
        let h = node-length o n in
        let g = forest-length o f in
        omega (arith, h, g, length-append (node_order near o n) (in_order near o f))

  module _ (skips : Met → Bool) where
    abbrev left_in : Met → ℕ
    left_in n = count_if (skips n) n.0

    abbrev mutual
      pub node_walk : Bool → Node → List ℕ → List (Met × ℕ)
      node_walk o (element name ats kids) places =
          ((element name ats kids, o), first_place places) ∷ cond (skips (element name ats kids, o)) [] (walk (near (element name ats kids, o)) kids (other_places places))
      node_walk o (text t) places = ((text t, o), first_place places) ∷ []
      node_walk o (comment t) places = ((comment t, o), first_place places) ∷ []

      pub walk : Bool → Forest → List ℕ → List (Met × ℕ)
      walk o no_nodes places = []
      walk o (node n f) places = node_walk o n places ++ walk o f (after_node n places)

    abbrev kept : List (Met × ℕ) → List (Met × ℕ)
    kept ns = without left_in 0 ns

    skipped : (xs ys : List (Met × ℕ)) → without left_in (length xs) (xs ++ ys) ≡ kept ys
    skipped [] ys = refl
    skipped (x ∷ xs) ys = skipped xs ys

    inner : (o : Bool) (kids : Forest) (places : List ℕ) (rest : List (Met × ℕ)) → kept (placed (in_order near o kids) places ++ rest) ≡ walk o kids places ++ kept rest
        → (b : Bool) → without left_in (cond b (forest_count kids) 0) (placed (in_order near o kids) places ++ rest) ≡ cond b [] (walk o kids places) ++ kept rest
    inner o kids places rest e true =
        ap (λ k. without left_in k (placed (in_order near o kids) places ++ rest)) (sym (length-placed (in_order near o kids) places ∙ forest-length o kids))
        ∙ skipped (placed (in_order near o kids) places) rest
    inner o kids places rest e false = e

    mutual
      node_walked : (o : Bool) (n : Node) (places : List ℕ) (rest : List (Met × ℕ)) → kept (placed (node_order near o n) places ++ rest) ≡ node_walk o n places ++ kept rest
      node_walked o (element name ats kids) places rest =
          let m : Met = (element name ats kids, o) in
          ap (λ (zs : List (Met × ℕ)). (m, first_place places) ∷ zs) (inner (near m) kids (other_places places) rest (forest_walked (near m) kids (other_places places) rest) (skips m))
      node_walked o (text t) places rest = refl
      node_walked o (comment t) places rest = refl

      forest_walked : (o : Bool) (f : Forest) (places : List ℕ) (rest : List (Met × ℕ)) → kept (placed (in_order near o f) places ++ rest) ≡ walk o f places ++ kept rest
      forest_walked o no_nodes places rest = refl
      forest_walked o (node n f) places rest =
          let more : List (Met × ℕ) = placed (in_order near o f) (left (node_order near o n) places) in
          ap (λ zs. kept (zs ++ rest)) (placed-append (node_order near o n) (in_order near o f) places)
          ∙ (ap kept (append_assoc (placed (node_order near o n) places) more rest)
          ∙ (node_walked o n places (more ++ rest)
          ∙ (ap (λ (ps : List ℕ). node_walk o n places ++ kept (placed (in_order near o f) ps ++ rest)) (left-node o n places)
          ∙ (ap (λ (zs : List (Met × ℕ)). node_walk o n places ++ zs) (forest_walked o f (after_node n places) rest)
          ∙ sym (append_assoc (node_walk o n places) (walk o f (after_node n places)) (kept rest))))))

    pub walked : (o : Bool) (f : Forest) (places : List ℕ) → without left_in 0 (placed (in_order near o f) places) ≡ walk o f places
    walked o f places =
        ap kept (sym (append-nil (placed (in_order near o f) places))) ∙ (forest_walked o f places [] ∙ append-nil (walk o f places))
