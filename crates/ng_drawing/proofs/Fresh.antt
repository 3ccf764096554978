-- Where each site and each outlet shows now what it showed when it was drawn, the drawing is the rendering.
use Rattle.std.proofs.Common.{◌≡◌, ℕ, List, [], ◌∷◌, refl, ap, ◌∙◌}
use Rattle.std.specs.List.{flat_map, list_any}
use Rattle.ng_markup.specs.Attributes.{with_value}
use Rattle.ng_markup.specs.Forest.{Attributes}
use Rattle.ng_drawing.specs.Template.{Piece, word, hole, Hiding, while_true, while_false, PartClass, PartValue, always, unless_empty, flag, classes, PartAttributes, Part, Contents, Parts, text_part, comment_part, element_part, anchor_part, children, bound, no_parts, part_then}
use Rattle.ng_drawing.specs.Drawing.{Look, Groups, draw_piece, draw_pieces, is_hiding, draw_class, draw_value, draw_attributes, draw_part, draw_contents, draw, Now, GroupsNow, Rendered, ◌>>-◌, shown_as, render_piece, render_pieces, render_words, render_hiding, render_hidings, render_class, render_value, render_attributes, needed, render_part, render_contents, render}

-- what is known to show goes on as that
pub on : {A B : Type 0} {r : Rendered A} {a : A} {c : Rendered B} (go : A → Rendered B) → r ≡ shown_as a → go a ≡ c → (r >>- go) ≡ c
on go e f = ap (λ s. s >>- go) e ∙ f

module _ (look : Look) (now : Now) (fresh : (n : ℕ) → now n ≡ shown_as (look n)) where
  fresh_piece : (p : Piece) → render_piece now p ≡ shown_as (draw_piece look p)
  fresh_piece (word w) = refl
  fresh_piece (hole n) = on _ (fresh n) refl

  fresh_pieces : (ps : List Piece) → render_pieces now ps ≡ shown_as (draw_pieces look ps)
  fresh_pieces [] = refl
  fresh_pieces (p ∷ ps) = on _ (fresh_piece p) (on _ (fresh_pieces ps) refl)

  fresh_words : (ns : List ℕ) → render_words now ns ≡ shown_as (flat_map (λ n. (look n).words) ns)
  fresh_words [] = refl
  fresh_words (n ∷ ns) = on _ (fresh n) (on _ (fresh_words ns) refl)

  fresh_hiding : (h : Hiding) → render_hiding now h ≡ shown_as (is_hiding look h)
  fresh_hiding (while_true n) = on _ (fresh n) refl
  fresh_hiding (while_false n) = on _ (fresh n) refl

  fresh_hidings : (hs : List Hiding) → render_hidings now hs ≡ shown_as (list_any (is_hiding look) hs)
  fresh_hidings [] = refl
  fresh_hidings (h ∷ hs) = on _ (fresh_hiding h) (on _ (fresh_hidings hs) refl)

  fresh_class : (c : PartClass) → render_class now c ≡ shown_as (draw_class look c)
  fresh_class c = on _ (fresh_pieces c.pieces) (on _ (fresh_words c.words) (on _ (fresh_hidings c.hidings) refl))

  fresh_value : (v : PartValue) → render_value now v ≡ shown_as (draw_value look v)
  fresh_value (always ps) = on _ (fresh_pieces ps) refl
  fresh_value (unless_empty ps) = on _ (fresh_pieces ps) refl
  fresh_value (flag w n) = on _ (fresh n) refl
  fresh_value (classes c) = fresh_class c

  fresh_attributes : (ats : PartAttributes) (done : Attributes) → render_attributes now ats done ≡ shown_as (draw_attributes look ats done)
  fresh_attributes [] done = refl
  fresh_attributes (a ∷ ats) done = on _ (fresh_value a.1) (fresh_attributes ats (with_value a.0 (draw_value look a.1) done))

  fresh_needed : (ns : List ℕ) → needed now ns ≡ shown_as tt
  fresh_needed [] = refl
  fresh_needed (n ∷ ns) = on _ (fresh n) (fresh_needed ns)

  module _ (groups : Groups) (groups_now : GroupsNow) (full : (o : ℕ) → groups_now o ≡ shown_as (groups o)) where
    mutual
      fresh_part : (p : Part) → render_part now groups_now p ≡ shown_as (draw_part look groups p)
      fresh_part (text_part pieces) = on _ (fresh_pieces pieces) refl
      fresh_part (comment_part t) = refl
      fresh_part (element_part name own acts attributes contents) =
          on _ (fresh_needed own) (on _ (fresh_attributes attributes []) (on _ (fresh_contents contents) refl))
      fresh_part (anchor_part outlet own starts) = on _ (fresh_needed own) (on _ (full outlet) refl)

      fresh_contents : (c : Contents) → render_contents now groups_now c ≡ shown_as (draw_contents look groups c)
      fresh_contents (children ps) = fresh_parts ps
      fresh_contents (bound n) = on _ (fresh n) refl

      pub fresh_parts : (ps : Parts) → render now groups_now ps ≡ shown_as (draw look groups ps)
      fresh_parts no_parts = refl
      fresh_parts (part_then p ps) = on _ (fresh_part p) (on _ (fresh_parts ps) refl)
