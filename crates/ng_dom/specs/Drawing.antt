-- The drawing: what stands of a template, with what each key shows, gives the document.
use Rattle.std.specs.Prelude.{ℕ, ◌≡◌, ◌==◌, Bool, false, not, List, [], ◌∷◌, ◌++◌, map, Option, Some, option_map, unwrap_or, codes, if◌then◌else◌}
use Rattle.std.specs.List.{flat_map, list_any}
use Rattle.ng_base.specs.declared.path.Key.{Key}
use Rattle.ng_language.specs.Texts.{words_in}
use Rattle.ng_markup.specs.Attributes.{if_any, word_if, with_value, class_value}
use Rattle.ng_markup.specs.Forest.{Attributes}
use Rattle.ng_dom.specs.Nodes.{NamedNode, NamedForest, NamedGroups, named_text, named_comment, named_element, named_anchor, nothing_named, named_then, no_groups, group_then}
use Rattle.ng_dom.specs.declared.record.Piece.{Piece}
use Rattle.ng_dom.specs.declared.record.Piece.TheVariants.{Words, Hole}

-- what a key shows: a text, words, and whether its value is true, once it has one
pub record Look : Type 0 where
  pub text : List ℕ
  pub words : List (List ℕ)
  pub truth : Option Bool

-- the text of pieces: plain words, and for each hole what its key shows
abbrev pub joined : (Key → Look) → List Piece → List ℕ
joined v [] = []
joined v (Words t ∷ ps) = t ++ joined v ps
joined v (Hole k ∷ ps) = (v k).text ++ joined v ps

-- an element is hidden while the value of a key is true, or while it is not
pub data DrawnHiding : Type 0 where
  while_true : Key → DrawnHiding
  while_false : Key → DrawnHiding

-- what a class is drawn from: whether the template has one, the text that is written there, the keys whose words it gets, and the
-- keys that hide the element
pub record DrawnClass : Type 0 where
  pub written : Bool
  pub pieces : List Piece
  pub words : List Key
  pub hidings : List DrawnHiding

-- What an attribute is drawn from: pieces, whose text always stands; pieces whose text stands where it is not empty; a word, which
-- stands where the value of a key is true; or the words of a class.
pub data DrawnValue : Type 0 where
  always : List Piece → DrawnValue
  unless_empty : List Piece → DrawnValue
  flag : List ℕ → Key → DrawnValue
  classes : DrawnClass → DrawnValue

-- names of attributes with what they are drawn from, in the order in which they are set; the later one of a name stands
abbrev pub DrawnAttributes : Type 0
DrawnAttributes = List (List ℕ × DrawnValue)

abbrev pub is_shown_true : Look → Bool
is_shown_true l = unwrap_or l.truth false

abbrev pub is_shown_false : Look → Bool
is_shown_false l = unwrap_or (option_map not l.truth) false

abbrev pub is_hiding : (Key → Look) → DrawnHiding → Bool
is_hiding v (while_true k) = is_shown_true (v k)
is_hiding v (while_false k) = is_shown_false (v k)

-- the words of a class: those of the written text, those of its keys, and `ng-hide` where the element is hidden
abbrev pub drawn_words : (Key → Look) → DrawnClass → List (List ℕ)
drawn_words v c =
    words_in [] (joined v c.pieces) ++ flat_map (λ k. (v k).words) c.words ++ (if list_any (is_hiding v) c.hidings then codes "ng-hide" ∷ [] else [])

abbrev pub drawn_value : (Key → Look) → DrawnValue → Option (List ℕ)
drawn_value v (always ps) = Some (joined v ps)
drawn_value v (unless_empty ps) = if_any (joined v ps)
drawn_value v (flag w k) = word_if (is_shown_true (v k)) w
drawn_value v (classes c) = class_value c.written (drawn_words v c)

-- attributes are set one after another, each at its place in the order of the names
abbrev pub drawn_on : (Key → Look) → DrawnAttributes → Attributes → Attributes
drawn_on v [] done = done
drawn_on v (a ∷ ats) done = drawn_on v ats (with_value a.0 (drawn_value v a.1) done)

abbrev pub drawn_attributes : (Key → Look) → DrawnAttributes → Attributes
drawn_attributes v ats = drawn_on v ats []

-- what stands of a template: nodes by name with what they are drawn from, and for each block its bodies
mutual
  pub data Stand : Type 0 where
    text_stands : (name : ℕ) → List Piece → Stand
    comment_stands : (name : ℕ) → List ℕ → Stand
    element_stands : (name : ℕ) → List ℕ → DrawnAttributes → Stands → Stand
    block_stands : (name : ℕ) → Bodies → Stand

  pub data Stands : Type 0 where
    none_stand : Stands
    stand_then : Stand → Stands → Stands

  pub data Bodies : Type 0 where
    no_bodies : Bodies
    body_then : Stands → Bodies → Bodies

abbrev mutual
  pub show : (Key → Look) → Stand → NamedNode
  show v (text_stands n ps) = named_text n (joined v ps)
  show v (comment_stands n t) = named_comment n t
  show v (element_stands n e ats ms) = named_element n e (drawn_attributes v ats) (shows v ms)
  show v (block_stands n bs) = named_anchor n (show_bodies v bs)

  pub shows : (Key → Look) → Stands → NamedForest
  shows v none_stand = nothing_named
  shows v (stand_then m ms) = named_then (show v m) (shows v ms)

  pub show_bodies : (Key → Look) → Bodies → NamedGroups
  show_bodies v no_bodies = no_groups
  show_bodies v (body_then ms bs) = group_then (shows v ms) (show_bodies v bs)

-- the names of all nodes that stand, in document order
abbrev mutual
  pub stand_names : Stand → List ℕ
  stand_names (text_stands n ps) = n ∷ []
  stand_names (comment_stands n t) = n ∷ []
  stand_names (element_stands n e ats ms) = n ∷ names_standing ms
  stand_names (block_stands n bs) = n ∷ body_names bs

  pub names_standing : Stands → List ℕ
  names_standing none_stand = []
  names_standing (stand_then m ms) = stand_names m ++ names_standing ms

  pub body_names : Bodies → List ℕ
  body_names no_bodies = []
  body_names (body_then ms bs) = names_standing ms ++ body_names bs

-- what a node is drawn from; an anchor is an empty comment
pub data Source : Type 0 where
  of_text : List Piece → Source
  of_comment : Source
  of_element : DrawnAttributes → Source

-- each hole of the pieces is known to be in this node
abbrev pub HolesAt : (Key → Option ℕ) → ℕ → List Piece → Type 0
HolesAt site n [] = Unit {0}
HolesAt site n (Words t ∷ ps) = HolesAt site n ps
HolesAt site n (Hole k ∷ ps) = (site k ≡ Some n) × HolesAt site n ps

-- each of these keys is known to be in this node
abbrev pub KeysAt : (Key → Option ℕ) → ℕ → List Key → Type 0
KeysAt site n [] = Unit {0}
KeysAt site n (k ∷ ks) = (site k ≡ Some n) × KeysAt site n ks

abbrev pub hiding_key : DrawnHiding → Key
hiding_key (while_true k) = k
hiding_key (while_false k) = k

abbrev pub ValueAt : (Key → Option ℕ) → ℕ → DrawnValue → Type 0
ValueAt site n (always ps) = HolesAt site n ps
ValueAt site n (unless_empty ps) = HolesAt site n ps
ValueAt site n (flag w k) = site k ≡ Some n
ValueAt site n (classes c) = HolesAt site n c.pieces × KeysAt site n c.words × KeysAt site n (map hiding_key c.hidings)

abbrev pub AttributesAt : (Key → Option ℕ) → ℕ → DrawnAttributes → Type 0
AttributesAt site n [] = Unit {0}
AttributesAt site n (a ∷ ats) = ValueAt site n a.1 × AttributesAt site n ats

-- each node is drawn from what stands
abbrev mutual
  pub Homed : (ℕ → Option Source) → Stand → Type 0
  Homed home (text_stands n ps) = home n ≡ Some (of_text ps)
  Homed home (comment_stands n t) = home n ≡ Some of_comment
  Homed home (element_stands n e ats ms) = (home n ≡ Some (of_element ats)) × HomedAll home ms
  Homed home (block_stands n bs) = (home n ≡ Some of_comment) × HomedBodies home bs

  pub HomedAll : (ℕ → Option Source) → Stands → Type 0
  HomedAll home none_stand = Unit {0}
  HomedAll home (stand_then m ms) = Homed home m × HomedAll home ms

  pub HomedBodies : (ℕ → Option Source) → Bodies → Type 0
  HomedBodies home no_bodies = Unit {0}
  HomedBodies home (body_then ms bs) = HomedAll home ms × HomedBodies home bs

-- what stands is known: for each node what it is drawn from, for each hole its node
abbrev mutual
  pub Held : (Key → Option ℕ) → (ℕ → Option Source) → Stand → Type 0
  Held site home (text_stands n ps) = (home n ≡ Some (of_text ps)) × HolesAt site n ps
  Held site home (comment_stands n t) = home n ≡ Some of_comment
  Held site home (element_stands n e ats ms) = (home n ≡ Some (of_element ats)) × AttributesAt site n ats × HeldAll site home ms
  Held site home (block_stands n bs) = (home n ≡ Some of_comment) × HeldBodies site home bs

  pub HeldAll : (Key → Option ℕ) → (ℕ → Option Source) → Stands → Type 0
  HeldAll site home none_stand = Unit {0}
  HeldAll site home (stand_then m ms) = Held site home m × HeldAll site home ms

  pub HeldBodies : (Key → Option ℕ) → (ℕ → Option Source) → Bodies → Type 0
  HeldBodies site home no_bodies = Unit {0}
  HeldBodies site home (body_then ms bs) = HeldAll site home ms × HeldBodies site home bs

-- what two assignments show differs at one key at most
abbrev pub DifferAt : Key → (Key → Look) → (Key → Look) → Type 0
DifferAt k v w = (q : Key) → (q ≡ k → ⊥) → v q ≡ w q

-- the bodies of a block are changed wherever it stands, after what they hold
abbrev mutual
  pub at_block : ℕ → (Bodies → Bodies) → Stand → Stand
  at_block a h (text_stands n ps) = text_stands n ps
  at_block a h (comment_stands n t) = comment_stands n t
  at_block a h (element_stands n e ats ms) = element_stands n e ats (at_block_all a h ms)
  at_block a h (block_stands n bs) = block_stands n (if n == a then h (at_block_bodies a h bs) else at_block_bodies a h bs)

  pub at_block_all : ℕ → (Bodies → Bodies) → Stands → Stands
  at_block_all a h none_stand = none_stand
  at_block_all a h (stand_then m ms) = stand_then (at_block a h m) (at_block_all a h ms)

  pub at_block_bodies : ℕ → (Bodies → Bodies) → Bodies → Bodies
  at_block_bodies a h no_bodies = no_bodies
  at_block_bodies a h (body_then ms bs) = body_then (at_block_all a h ms) (at_block_bodies a h bs)
