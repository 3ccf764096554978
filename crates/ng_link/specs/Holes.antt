-- The holes and sites of parts have numbers below a count.
use Rattle.std.specs.Prelude.{ℕ, ◌<◌, ⊤, List, [], ◌∷◌}
use Rattle.ng_drawing.specs.Template.{Piece, word, hole, Hiding, while_true, while_false, PartClass, PartValue, always, unless_empty, flag, classes, PartAttributes, Part, Contents, Parts, text_part, comment_part, element_part, anchor_part, children, bound, no_parts, part_then}

abbrev pub PieceBelow : ℕ → Piece → Type 0
PieceBelow count (word t) = ⊤
PieceBelow count (hole n) = n < count

abbrev pub PiecesBelow : ℕ → List Piece → Type 0
PiecesBelow count [] = ⊤
PiecesBelow count (p ∷ ps) = PieceBelow count p × PiecesBelow count ps

abbrev pub SitesBelow : ℕ → List ℕ → Type 0
SitesBelow count [] = ⊤
SitesBelow count (n ∷ ns) = (n < count) × SitesBelow count ns

abbrev pub HidingsBelow : ℕ → List Hiding → Type 0
HidingsBelow count [] = ⊤
HidingsBelow count (while_true n ∷ hs) = (n < count) × HidingsBelow count hs
HidingsBelow count (while_false n ∷ hs) = (n < count) × HidingsBelow count hs

abbrev pub ClassBelow : ℕ → PartClass → Type 0
ClassBelow count c = PiecesBelow count c.pieces × SitesBelow count c.words × HidingsBelow count c.hidings

abbrev pub ValueBelow : ℕ → PartValue → Type 0
ValueBelow count (always ps) = PiecesBelow count ps
ValueBelow count (unless_empty ps) = PiecesBelow count ps
ValueBelow count (flag w n) = n < count
ValueBelow count (classes c) = ClassBelow count c

abbrev pub ValuesBelow : ℕ → PartAttributes → Type 0
ValuesBelow count [] = ⊤
ValuesBelow count (a ∷ ats) = ValueBelow count a.1 × ValuesBelow count ats

abbrev mutual
  pub PartBelow : ℕ → Part → Type 0
  PartBelow count (text_part ps) = PiecesBelow count ps
  PartBelow count (comment_part t) = ⊤
  PartBelow count (element_part name own acts attributes contents) = SitesBelow count own × ValuesBelow count attributes × ContentsBelow count contents
  PartBelow count (anchor_part outlet own starts) = SitesBelow count own

  pub ContentsBelow : ℕ → Contents → Type 0
  ContentsBelow count (children ps) = HolesBelow count ps
  ContentsBelow count (bound n) = n < count

  pub HolesBelow : ℕ → Parts → Type 0
  HolesBelow count no_parts = ⊤
  HolesBelow count (part_then p ps) = PartBelow count p × HolesBelow count ps
