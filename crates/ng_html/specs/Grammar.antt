-- Which events spell a forest, and which bytes spell a document.
use Rattle.std.specs.Prelude.{◌≡◌, ◌≤◌, ◌⊎◌, ⊤, Bool, true, false, ℕ, suc, max, List, [], ◌∷◌, ◌++◌, length, None, Ok}
use Rattle.std.specs.List.{flat_map}
use Rattle.std.specs.Str.{bytes_eq, IsUtf8}
use Rattle.ng_base.specs.Cells.{Cell}
use Rattle.ng_markup.specs.Tables.{is_void, is_omittable}
use Rattle.ng_markup.specs.Forest.{Node, Forest, Attributes, element, text, comment, no_nodes, node}
use Rattle.ng_tags.specs.Doctypes.{AfterDoctype}
use Rattle.ng_tags.specs.Spelling.{Lexeme}
use Rattle.ng_tags.specs.declared.event.Event.{Event}
use Rattle.ng_tags.specs.declared.event.Event.TheVariants as event
use Rattle.ng_tags.specs.declared.event.Tag.{Tag}
use Rattle.ng_html.specs.Closing.{is_closing}
use Rattle.ng_html.specs.Building.{open_limit, content}
use Rattle.ng_html.specs.Reading.{begin, before_zero, cells_of}

-- what may stand behind an element whose end tag is left out: the end, a start tag that closes it, another's end tag
abbrev pub MayFollow : List ℕ → List Event → Type 0
MayFollow n [] = ⊤
MayFollow n (event.Start t ∷ es) = is_closing t.name n ≡ true
MayFollow n (event.Raw t x q ∷ es) = is_closing t.name n ≡ true
MayFollow n (event.End m p ∷ es) = bytes_eq n m ≡ false
MayFollow n (event.Text t p ∷ es) = ⊥
MayFollow n (event.Comment t p ∷ es) = ⊥

-- an element's end tag, or none
abbrev pub Ends : List ℕ → List Event → List Event → Type 0
Ends n es rest = ((q : ℕ) × (es ≡ event.End n q ∷ rest)) ⊎ ((is_omittable n ≡ true) × (es ≡ rest) × MayFollow n rest)

-- an element's children don't close it
abbrev pub IsInside : List ℕ → Node → Type 0
IsInside n (element m a f) = is_closing m n ≡ false
IsInside n (text t) = ⊤
IsInside n (comment t) = ⊤

abbrev pub AllInside : List ℕ → Forest → Type 0
AllInside n no_nodes = ⊤
AllInside n (node m f) = IsInside n m × AllInside n f

-- a start tag in which nothing is wrong
abbrev pub tag : List ℕ → Attributes → ℕ → Bool → Tag
tag n a p c = record { name = n; attrs = a; place = p; closed = c; fault = None }

-- the events from es up to rest spell a node: a void element is one tag, textarea and title are one event, and any other
-- element has a start tag, its children and maybe an end tag
abbrev mutual
  pub SpellsNode : Node → List Event → List Event → Type 0
  SpellsNode (text t) es rest = (p : ℕ) × (es ≡ event.Text t p ∷ rest)
  SpellsNode (comment t) es rest = (p : ℕ) × (es ≡ event.Comment t p ∷ rest)
  SpellsNode (element n a f) es rest =
      ((p : ℕ) × (c : Bool) × (is_void n ≡ true) × (f ≡ no_nodes) × (es ≡ event.Start (tag n a p c) ∷ rest))
      ⊎ ((p : ℕ) × (q : ℕ) × (x : List ℕ) × (f ≡ content x) × (es ≡ event.Raw (tag n a p false) x q ∷ rest))
      ⊎ ((p : ℕ) × (mid : List Event) × (after : List Event) × (is_void n ≡ false) × AllInside n f
      × (es ≡ event.Start (tag n a p false) ∷ mid) × SpellsForest f mid after × Ends n after rest)

  pub SpellsForest : Forest → List Event → List Event → Type 0
  SpellsForest no_nodes es rest = es ≡ rest
  SpellsForest (node n f) es rest = (mid : List Event) × SpellsNode n es mid × SpellsForest f mid rest

-- how many elements are open at once
abbrev mutual
  pub node_height : Node → ℕ
  node_height (element n a f) = suc (height f)
  node_height (text t) = 0
  node_height (comment t) = 0

  pub height : Forest → ℕ
  height no_nodes = 0
  height (node n f) = max (node_height n) (height f)

-- the cells spell the events, one behind the other
abbrev pub Written : List Event → List Cell → Type 0
Written [] cs = cs ≡ []
Written (e ∷ es) cs = (us : List Cell) × (rest : List Cell) × (cs ≡ us ++ rest) × Lexeme e us rest × Written es rest

-- the cells spell a forest, whose nodes begin at these places
abbrev pub Spelled : List Cell → Forest → List ℕ → Type 0
Spelled cs f ps = (es : List Event) × Written es cs × SpellsForest f es [] × (height f ≤ open_limit) × (ps ≡ flat_map begin es)

-- UTF-8 without a zero byte
abbrev pub IsPlainText : List ℕ → Type 0
IsPlainText bytes = IsUtf8 bytes × (before_zero bytes ≡ length bytes)

-- the bytes of a document, its forest, and the place of each node: a text, which spells the forest behind its doctype
abbrev pub Html : List ℕ → Forest → List ℕ → Type 0
Html bytes f ps = IsPlainText bytes × (cs : List Cell) × AfterDoctype (cells_of bytes) (Ok cs) × Spelled cs f ps
