-- What a fragment that is linked is drawn from.
use Rattle.std.proofs.Common.{◌≡◌, ◌+◌, ℕ, Bool, List, [], ◌∷◌, ◌++◌, Option, Some, refl, ap, ◌∙◌, map, append-nil}
use Rattle.std.specs.Prelude.{◌||◌}
use Rattle.std.specs.List.{flat_map, list_any}
use Rattle.std.proofs.lemmas.List.Folds.{flat_map-map}
use Rattle.ng_base.specs.declared.path.Key.{Key}
use Rattle.ng_markup.specs.Attributes.{if_any, with_value, class_value}
use Rattle.ng_markup.specs.Forest.{Attributes, Forest, element, text, no_nodes, node}
use Rattle.ng_dom.specs.Nodes.{plain, plain_node, plain_groups, followed_by}
use Rattle.ng_dom.specs.Drawing as drawn
use Rattle.ng_dom.specs.Drawing.{Look, Bodies, joined, drawn_words, drawn_value, drawn_on, show, shows, show_bodies}
use Rattle.ng_drawing.specs.Drawing.{draw_pieces, is_hiding, draw_value, draw_attributes, draw_contents, draw_part, draw, class_words}
use Rattle.ng_drawing.specs.Looks.{Seen}
use Rattle.ng_drawing.specs.Nodes.{part_nodes}
use Rattle.ng_drawing.specs.Template as template
use Rattle.ng_drawing.specs.Template.{word, hole, while_true, while_false, PartClass, PartValue, always, unless_empty, flag, classes, PartAttributes, Part, Contents, Parts, text_part, comment_part, element_part, anchor_part, children, bound, no_parts, part_then}
use Rattle.ng_build.specs.Shape.{linked_pieces, linked_hiding, linked_class, linked_value, linked_values, part_shape, content_shape, shape}
use Rattle.ng_link.specs.State.{look_of}
use Rattle.ng_build.proofs.Shapes.{same_followed}

-- what has the keys of its holes is drawn as it was
module _ (keys : ℕ → Key) (v : Key → Seen) where
  abbrev looks : Key → Look
  looks k = look_of (v k)

  abbrev kept : ℕ → Seen
  kept n = v (keys n)

  joined_linked : (ps : List template.Piece) → joined looks (linked_pieces keys ps) ≡ draw_pieces kept ps
  joined_linked [] = refl
  joined_linked (word w ∷ ps) = ap (λ (t : List ℕ). w ++ t) (joined_linked ps)
  joined_linked (hole n ∷ ps) = ap (λ (t : List ℕ). (kept n).text ++ t) (joined_linked ps)

  hides_linked : (hs : List template.Hiding) → list_any (drawn.is_hiding looks) (map (linked_hiding keys) hs) ≡ list_any (is_hiding kept) hs
  hides_linked [] = refl
  hides_linked (while_true n ∷ hs) = ap (λ (b : Bool). is_hiding kept (while_true n) || b) (hides_linked hs)
  hides_linked (while_false n ∷ hs) = ap (λ (b : Bool). is_hiding kept (while_false n) || b) (hides_linked hs)

  words_linked : (c : PartClass) → drawn_words looks (linked_class keys c) ≡ class_words (draw_pieces kept c.pieces) (flat_map (λ n. (kept n).words) c.words) (list_any (is_hiding kept) c.hidings)
  words_linked c = rw (joined_linked c.pieces, flat_map-map (λ (k : Key). (looks k).words) keys c.words, hides_linked c.hidings) refl

  value_linked : (x : PartValue) → drawn_value looks (linked_value keys x) ≡ draw_value kept x
  value_linked (always ps) = ap (λ (t : List ℕ). Some t) (joined_linked ps)
  value_linked (unless_empty ps) = ap (λ (t : List ℕ). if_any t) (joined_linked ps)
  value_linked (flag w n) = refl
  value_linked (classes c) = ap (class_value c.written) (words_linked c)

  drawn_linked : (ats : PartAttributes) (done : Attributes) → drawn_on looks (linked_values keys ats) done ≡ draw_attributes kept ats done
  drawn_linked [] done = refl
  drawn_linked (a ∷ ats) done =
      ap (λ (t : Option (List ℕ)). drawn_on looks (linked_values keys ats) (with_value a.0 t done)) (value_linked a.1)
      ∙ drawn_linked ats (with_value a.0 (draw_value kept a.1) done)

  -- whatever fills the outlets
  module _ (groups : ℕ → Bodies) where
    abbrev filling : ℕ → Forest
    filling o = plain_groups (show_bodies looks (groups o))

    mutual
      plain_part : (n : ℕ) (p : Part) → plain_node (show looks (part_shape keys n groups p)) ≡ draw_part kept filling p
      plain_part n (text_part ps) = ap (λ (t : List ℕ). node (text t) no_nodes) (joined_linked ps)
      plain_part n (comment_part t) = refl
      plain_part n (anchor_part o own starts) = refl
      plain_part n (element_part e own acts ats c) =
          ap (λ (us : Attributes). node (element e us (plain (shows looks (content_shape keys (n + 1) groups c)))) no_nodes) (drawn_linked ats [])
          ∙ ap (λ (f : Forest). node (element e (draw_attributes kept ats []) f) no_nodes) (content_draws (n + 1) c)

      content_draws : (n : ℕ) (c : Contents) → plain (shows looks (content_shape keys n groups c)) ≡ draw_contents kept filling c
      content_draws n (children ps) = shape_draws n ps
      content_draws n (bound k) = ap (λ (t : List ℕ). node (text t) no_nodes) (append-nil (kept k).text)

      -- what stands of parts is drawn as the parts are
      pub shape_draws : (n : ℕ) (ps : Parts) → plain (shows looks (shape keys n groups ps)) ≡ draw kept filling ps
      shape_draws n no_parts = refl
      shape_draws n (part_then p ps) =
          ap (λ (f : Forest). followed_by f (plain (shows looks (shape keys (n + part_nodes p) groups ps)))) (plain_part n p)
          ∙ (ap (λ (f : Forest). followed_by (draw_part kept filling p) f) (shape_draws (n + part_nodes p) ps)
          ∙ same_followed (draw_part kept filling p) (draw kept filling ps))
