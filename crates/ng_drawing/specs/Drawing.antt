-- The document that parts show: one drawing, over what is seen of each site and what fills each outlet. Beside it the rendering, by the
-- same recursion.
use Rattle.std.specs.Prelude.{ℕ, Bool, false, ◌||◌, List, [], ◌∷◌, ◌++◌, Option, Some, None, Result, Ok, Err, codes, if◌then◌else◌}
use Rattle.std.specs.List.{flat_map, list_any}
use Rattle.ng_base.specs.declared.fault.Fault.{Fault}
use Rattle.ng_language.specs.Texts.{words_in}
use Rattle.ng_markup.specs.Attributes.{if_any, word_if, with_value, class_value}
use Rattle.ng_markup.specs.Forest.{Attributes, Forest, element, text, comment, no_nodes, node}
use Rattle.ng_drawing.specs.Looks.{Seen, is_seen_true, is_seen_false}
use Rattle.ng_drawing.specs.Template.{Piece, word, hole, Hiding, while_true, while_false, PartClass, PartValue, always, unless_empty, flag, classes, PartAttributes, Part, Contents, Parts, text_part, comment_part, element_part, anchor_part, children, bound, no_parts, part_then}

-- what is seen of each site
abbrev pub Look : Type 0
Look = ℕ → Seen

abbrev pub draw_piece : Look → Piece → List ℕ
draw_piece look (word w) = w
draw_piece look (hole n) = (look n).text

abbrev pub draw_pieces : Look → List Piece → List ℕ
draw_pieces look ps = flat_map (draw_piece look) ps

abbrev pub is_hiding : Look → Hiding → Bool
is_hiding look (while_true n) = is_seen_true (look n)
is_hiding look (while_false n) = is_seen_false (look n)

-- the words of a class: those of the written text, those of its sites, and `ng-hide` where the element is hidden
abbrev pub class_words : List ℕ → List (List ℕ) → Bool → List (List ℕ)
class_words t ws hidden = words_in [] t ++ ws ++ (if hidden then codes "ng-hide" ∷ [] else [])

abbrev pub draw_class : Look → PartClass → Option (List ℕ)
draw_class look c = class_value c.written (class_words (draw_pieces look c.pieces) (flat_map (λ n. (look n).words) c.words) (list_any (is_hiding look) c.hidings))

abbrev pub draw_value : Look → PartValue → Option (List ℕ)
draw_value look (always ps) = Some (draw_pieces look ps)
draw_value look (unless_empty ps) = if_any (draw_pieces look ps)
draw_value look (flag w n) = word_if (is_seen_true (look n)) w
draw_value look (classes c) = draw_class look c

-- attributes are set one after another, each at its place in the order of the names
abbrev pub draw_attributes : Look → PartAttributes → Attributes → Attributes
draw_attributes look [] done = done
draw_attributes look (a ∷ ats) done = draw_attributes look ats (with_value a.0 (draw_value look a.1) done)

-- one forest after another
abbrev pub followed_by : Forest → Forest → Forest
followed_by no_nodes g = g
followed_by (node n f) g = node n (followed_by f g)

-- the nodes that fill each outlet
abbrev pub Groups : Type 0
Groups = ℕ → Forest

-- an anchor is an empty comment, and what fills its outlet stands after it
abbrev mutual
  pub draw_part : Look → Groups → Part → Forest
  draw_part look groups (text_part pieces) = node (text (draw_pieces look pieces)) no_nodes
  draw_part look groups (comment_part t) = node (comment t) no_nodes
  draw_part look groups (element_part name own acts attributes contents) = node (element name (draw_attributes look attributes []) (draw_contents look groups contents)) no_nodes
  draw_part look groups (anchor_part outlet own starts) = node (comment []) (groups outlet)

  pub draw_contents : Look → Groups → Contents → Forest
  draw_contents look groups (children ps) = draw look groups ps
  draw_contents look groups (bound n) = node (text (look n).text) no_nodes

  pub draw : Look → Groups → Parts → Forest
  draw look groups no_parts = no_nodes
  draw look groups (part_then p ps) = followed_by (draw_part look groups p) (draw look groups ps)

-- What is computed afresh: a value, nothing where a block doesn't fit what its expression calls for, or the fault of an
-- expression. Nothing and faults end it, whichever stands first.
abbrev pub Rendered : Type 0 → Type 0
Rendered A = Result (Option A) Fault

infixl 10 ◌>>-◌
abbrev pub ◌>>-◌ : {A B : Type 0} → Rendered A → (A → Rendered B) → Rendered B
(Ok (Some v)) >>- go = go v
(Ok None) >>- go = Ok None
(Err e) >>- go = Err e

abbrev pub shown_as : {A : Type 0} → A → Rendered A
shown_as v = Ok (Some v)

-- what is seen of each site now
abbrev pub Now : Type 0
Now = ℕ → Rendered Seen

-- The rendering: the document computed afresh, each expression evaluated now, in document order.
abbrev pub render_piece : Now → Piece → Rendered (List ℕ)
render_piece now (word w) = shown_as w
render_piece now (hole n) = now n >>- λ e. shown_as e.text

abbrev pub render_pieces : Now → List Piece → Rendered (List ℕ)
render_pieces now [] = shown_as []
render_pieces now (p ∷ ps) = render_piece now p >>- λ t. render_pieces now ps >>- λ u. shown_as (t ++ u)

abbrev pub render_words : Now → List ℕ → Rendered (List (List ℕ))
render_words now [] = shown_as []
render_words now (n ∷ ns) = now n >>- λ e. render_words now ns >>- λ ws. shown_as (e.words ++ ws)

abbrev pub render_hiding : Now → Hiding → Rendered Bool
render_hiding now (while_true n) = now n >>- λ e. shown_as (is_seen_true e)
render_hiding now (while_false n) = now n >>- λ e. shown_as (is_seen_false e)

abbrev pub render_hidings : Now → List Hiding → Rendered Bool
render_hidings now [] = shown_as false
render_hidings now (h ∷ hs) = render_hiding now h >>- λ b. render_hidings now hs >>- λ c. shown_as (b || c)

abbrev pub render_class : Now → PartClass → Rendered (Option (List ℕ))
render_class now c =
    render_pieces now c.pieces >>- λ t. render_words now c.words >>- λ ws. render_hidings now c.hidings >>- λ h. shown_as (class_value c.written (class_words t ws h))

abbrev pub render_value : Now → PartValue → Rendered (Option (List ℕ))
render_value now (always ps) = render_pieces now ps >>- λ t. shown_as (Some t)
render_value now (unless_empty ps) = render_pieces now ps >>- λ t. shown_as (if_any t)
render_value now (flag w n) = now n >>- λ e. shown_as (word_if (is_seen_true e) w)
render_value now (classes c) = render_class now c

abbrev pub render_attributes : Now → PartAttributes → Attributes → Rendered Attributes
render_attributes now [] done = shown_as done
render_attributes now (a ∷ ats) done = render_value now a.1 >>- λ t. render_attributes now ats (with_value a.0 t done)

-- each of these sites is needed, in this order, whatever is drawn of it
abbrev pub needed : Now → List ℕ → Rendered (Unit {0})
needed now [] = shown_as tt
needed now (n ∷ ns) = now n >>- λ _. needed now ns

-- what fills each outlet now, or nothing where that is not what its site calls for
abbrev pub GroupsNow : Type 0
GroupsNow = ℕ → Rendered Forest

-- An element's own sites come first, in the order of its directives, and its children after its attributes. An anchor's own sites come
-- before what fills its outlet.
abbrev mutual
  pub render_part : Now → GroupsNow → Part → Rendered Forest
  render_part now groups (text_part pieces) = render_pieces now pieces >>- λ t. shown_as (node (text t) no_nodes)
  render_part now groups (comment_part t) = shown_as (node (comment t) no_nodes)
  render_part now groups (element_part name own acts attributes contents) =
      needed now own >>- λ _. render_attributes now attributes [] >>- λ ats. render_contents now groups contents >>- λ f. shown_as (node (element name ats f) no_nodes)
  render_part now groups (anchor_part outlet own starts) = needed now own >>- λ _. groups outlet >>- λ f. shown_as (node (comment []) f)

  pub render_contents : Now → GroupsNow → Contents → Rendered Forest
  render_contents now groups (children ps) = render now groups ps
  render_contents now groups (bound n) = now n >>- λ e. shown_as (node (text e.text) no_nodes)

  pub render : Now → GroupsNow → Parts → Rendered Forest
  render now groups no_parts = shown_as no_nodes
  render now groups (part_then p ps) = render_part now groups p >>- λ f. render now groups ps >>- λ g. shown_as (followed_by f g)
