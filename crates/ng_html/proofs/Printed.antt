-- The print of a forest spells it.
use Rattle.std.proofs.Common.{◌≡◌, ℕ, Bool, true, false, List, [], ◌∷◌, ◌++◌, refl, ap, ◌∙◌, sym, subst, inl, inr, append_assoc, append-nil}
use Rattle.std.specs.Prelude.{⊤, if◌then◌else◌}
use Rattle.std.specs.List.{list_all, flat_map}
use Rattle.ng_base.specs.Cells.{Cell}
use Rattle.ng_base.proofs.Binds.{if_true, if_false}
use Rattle.ng_markup.specs.Tables.{is_void, is_raw}
use Rattle.ng_markup.specs.Forest.{Node, Forest, Attributes, element, text, comment, no_nodes, node, text_char, print_start, print_end, print_node, print}
use Rattle.ng_tags.specs.Spelling.{chars_of}
use Rattle.ng_tags.specs.declared.event.Event.{Event}
use Rattle.ng_tags.specs.declared.event.Event.TheVariants as event
use Rattle.ng_html.specs.Building.{content}
use Rattle.ng_html.specs.Grammar.{AllInside, tag, SpellsNode, SpellsForest, Written}
use Rattle.ng_html.proofs.ReadEvents.{IsRead, is_line_char}
use Rattle.ng_html.proofs.PrintedTexts.{parted, none_left}
use Rattle.ng_html.proofs.Lines.{NoLine, no_line_on, forest_line}
use Rattle.ng_html.proofs.PrintedEvents.{AtTag, BeginsTag, at_tag, tag_no_line, begins_append, end_begins, comment_begins, start_begins, start_printed, raw_printed, end_printed, text_printed, comment_printed}
use Rattle.ng_html.proofs.RawNames.{raw_not_void, void_not_raw}
use Rattle.ng_html.proofs.Kept.{IsReadElement, IsReadNode, IsReadForest, AreApart}

-- the events of a print, with those that stand behind it
record NodeWritten (n : Node) (us ws : List Cell) (rest : List Event) : Type 0 where
  es : List Event
  written : Written es (us ++ ws)
  spells : SpellsNode n es rest

pub record ForestWritten (f : Forest) (us ws : List Cell) (rest : List Event) : Type 0 where
  pub es : List Event
  pub written : Written es (us ++ ws)
  pub spells : SpellsForest f es rest

element_begins : (n : List ℕ) (a : Attributes) (f : Forest) → IsReadElement n a f (IsReadForest f) → BeginsTag (print_start n a)
element_begins n a f (inl (p, c, r, v, e)) = start_begins n a r.0
element_begins n a f (inr (inl (p, q, x, r, w, e))) = start_begins n a r.0
element_begins n a f (inr (inr (p, r, w, v, i, k))) = start_begins n a r.0

-- where a text stands, a tag or nothing stands behind
abbrev FitsBefore : Node → List Cell → Type 0
FitsBefore (text t) ws = AtTag ws
FitsBefore (element n a f) ws = NoLine ws
FitsBefore (comment t) ws = ⊤

printed_begins : (n : List ℕ) (a : Attributes) (f : Forest) → BeginsTag (print_start n a) → BeginsTag (print_node (element n a f))
printed_begins n a f b = by (is_void n)
  where
    by : (v : Bool) → BeginsTag (if v then print_start n a else print_start n a ++ print f ++ print_end n)
    by true = b
    by false = begins_append (print_start n a ++ print f) (print_end n) (begins_append (print_start n a) (print f) b)

apart_tag : (t : List ℕ) (f : Forest) (us ws : List Cell) → AreApart (text t) f → IsReadForest f → chars_of us ≡ print f → AtTag ws → AtTag (us ++ ws)
apart_tag t no_nodes us ws a i h w = subst (λ (xs : List Cell). AtTag (xs ++ ws)) (sym (none_left us h)) w
apart_tag t (node (text u) f) us ws a i h w = absurd a
apart_tag t (node (comment u) f) us ws a i h w = at_tag us ws (print (node (comment u) f)) h (begins_append (print_node (comment u)) (print f) (comment_begins u))
apart_tag t (node (element n b k) f) us ws a i h w =
    at_tag us ws (print (node (element n b k) f)) h (begins_append (print_node (element n b k)) (print f) (printed_begins n b k (element_begins n b k i.0)))

fits_before : (n : Node) (f : Forest) (us ws : List Cell) → AreApart n f → IsReadForest f → chars_of us ≡ print f → AtTag ws → FitsBefore n (us ++ ws)
fits_before (text t) f us ws a i h w = apart_tag t f us ws a i h w
fits_before (element n b k) f us ws a i h w = no_line_on us ws (ap (list_all is_line_char) h ∙ forest_line f i) (tag_no_line ws w)
fits_before (comment t) f us ws a i h w = tt

abbrev WritesForest : Forest → Type 0
WritesForest f = (us ws : List Cell) (rest : List Event) → chars_of us ≡ print f → AtTag ws → Written rest ws → ForestWritten f us ws rest

text_written : (t : List ℕ) (p : ℕ) (us ws : List Cell) (rest : List Event) → IsRead (event.Text t p) → chars_of us ≡ flat_map text_char t → AtTag ws → Written rest ws → NodeWritten (text t) us ws rest
text_written t p us ws rest i h a w =
    let r = text_printed t us ws i h a in
    record { es = event.Text t r.0 ∷ rest; written = (us, ws, refl, r.1, w); spells = (r.0, refl) }

comment_written : (t : List ℕ) (p : ℕ) (us ws : List Cell) (rest : List Event) → IsRead (event.Comment t p) → chars_of us ≡ print_node (comment t) → Written rest ws → NodeWritten (comment t) us ws rest
comment_written t p us ws rest i h w =
    let r = comment_printed t us ws i h in
    record { es = event.Comment t r.0 ∷ rest; written = (us, ws, refl, r.1, w); spells = (r.0, refl) }

content_printed : (x : List ℕ) → print (content x) ≡ flat_map text_char x
content_printed [] = refl
content_printed (c ∷ cs) = append-nil (flat_map text_char (c ∷ cs))

void_print : (n : List ℕ) (a : Attributes) (f : Forest) → is_void n ≡ true → print_node (element n a f) ≡ print_start n a
void_print n a f v = if_true (is_void n) (print_start n a) (print_start n a ++ print f ++ print_end n) v

full_print : (n : List ℕ) (a : Attributes) (f : Forest) → is_void n ≡ false → print_node (element n a f) ≡ print_start n a ++ (print f ++ print_end n)
full_print n a f v = if_false (is_void n) (print_start n a) (print_start n a ++ print f ++ print_end n) v ∙ append_assoc (print_start n a) (print f) (print_end n)

full_written : (n : List ℕ) (a : Attributes) (f : Forest) (p : ℕ) → WritesForest f → IsReadForest f → IsRead (event.Start (tag n a p false)) → is_raw n ≡ false → is_void n ≡ false → AllInside n f →
    (us ws : List Cell) (rest : List Event) → chars_of us ≡ print_start n a ++ (print f ++ print_end n) → Written rest ws → NodeWritten (element n a f) us ws rest
full_written n a f p ih kids i raw v fits us ws rest h w =
    let x = parted (print_start n a) (print f ++ print_end n) us h in
    let y = parted (print f) (print_end n) x.last x.last_is in
    let e = end_printed n y.last ws i.0 y.last_is in
    let behind : AtTag (y.last ++ ws) = at_tag y.last ws (print_end n) y.last_is (end_begins n) in
    let k = ih y.first (y.last ++ ws) (event.End n e.0 ∷ rest) y.first_is behind (y.last, ws, refl, e.1, w) in
    let fits_line : NoLine (y.first ++ (y.last ++ ws)) = no_line_on y.first (y.last ++ ws) (ap (list_all is_line_char) y.first_is ∙ forest_line f kids) (tag_no_line (y.last ++ ws) behind) in
    let s = start_printed n a x.first (y.first ++ (y.last ++ ws)) i raw x.first_is fits_line in
    let whole : us ++ ws ≡ x.first ++ (y.first ++ (y.last ++ ws)) =
    ap (λ xs. xs ++ ws) (x.whole ∙ ap (λ xs. x.first ++ xs) y.whole) ∙ (append_assoc x.first (y.first ++ y.last) ws ∙ ap (λ xs. x.first ++ xs) (append_assoc y.first y.last ws)) in
    record {
      es = event.Start (tag n a s.0 false) ∷ k.es;
      written = (x.first, y.first ++ (y.last ++ ws), whole, s.1, k.written);
      spells = inr (inr (s.0, k.es, event.End n e.0 ∷ rest, v, fits, refl, k.spells, inl (e.0, refl)));
    }

element_written : (n : List ℕ) (a : Attributes) (f : Forest) → (IsReadForest f → WritesForest f) → IsReadElement n a f (IsReadForest f) → (us ws : List Cell) (rest : List Event) → chars_of us ≡ print_node (element n a f) → NoLine ws → Written rest ws → NodeWritten (element n a f) us ws rest
element_written n a f ih (inl (p, c, i, v, f_is)) us ws rest h l w =
    let e : chars_of us ≡ print_start n a = h ∙ void_print n a f v in
    let s = start_printed n a us ws i (void_not_raw n v) e l in
    record { es = event.Start (tag n a s.0 false) ∷ rest; written = (us, ws, refl, s.1, w); spells = inl (s.0, false, v, f_is, refl) }
element_written n a f ih (inr (inl (p, q, x, i, raw, f_is))) us ws rest h l w =
    let e : chars_of us ≡ print_start n a ++ (flat_map text_char x ++ print_end n) =
    h
    ∙ (full_print n a f (raw_not_void n raw)
    ∙ ap (λ xs. print_start n a ++ (xs ++ print_end n)) (ap print f_is ∙ content_printed x)) in
    let s = raw_printed n a x us ws i raw e in
    record { es = event.Raw (tag n a s.0 false) x s.1 ∷ rest; written = (us, ws, refl, s.2, w); spells = inr (inl (s.0, s.1, x, f_is, refl)) }
element_written n a f ih (inr (inr (p, i, raw, v, fits, kids))) us ws rest h l w =
    full_written n a f p (ih kids) kids i raw v fits us ws rest (h ∙ full_print n a f v) w

mutual
  node_written : (n : Node) (us ws : List Cell) (rest : List Event) → IsReadNode n → chars_of us ≡ print_node n → FitsBefore n ws → Written rest ws → NodeWritten n us ws rest
  node_written (text t) us ws rest g h a w = text_written t g.0 us ws rest g.1 h a w
  node_written (comment t) us ws rest g h a w = comment_written t g.0 us ws rest g.1 h w
  node_written (element n b f) us ws rest g h a w = element_written n b f (λ i us ws rest h a w. forest_written f us ws rest i h a w) g us ws rest h a w

  pub forest_written : (f : Forest) (us ws : List Cell) (rest : List Event) → IsReadForest f → chars_of us ≡ print f → AtTag ws → Written rest ws → ForestWritten f us ws rest
  forest_written no_nodes us ws rest g h a w = record { es = rest; written = subst (λ (xs : List Cell). Written rest (xs ++ ws)) (sym (none_left us h)) w; spells = refl }
  forest_written (node n f) us ws rest g h a w =
      let p = parted (print_node n) (print f) us h in
      let k = forest_written f p.last ws rest g.2 p.last_is a w in
      let m = node_written n p.first (p.last ++ ws) k.es g.0 p.first_is (fits_before n f p.last ws g.1 g.2 p.last_is a) k.written in
      record {
        es = m.es;
        written = subst (λ (xs : List Cell). Written m.es xs) (sym (ap (λ xs. xs ++ ws) p.whole ∙ append_assoc p.first p.last ws)) m.written;
        spells = (k.es, m.spells, k.spells);
      }
