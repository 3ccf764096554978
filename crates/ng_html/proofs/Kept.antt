-- What is read can be printed.
use Rattle.std.proofs.Common.{◌≡◌, ℕ, Bool, true, false, not, ◌&&◌, List, [], ◌∷◌, refl, ap, ◌∙◌, subst, inl, inr}
use Rattle.std.specs.Prelude.{◌⊎◌, ⊤}
use Rattle.ng_markup.specs.Tables.{is_void, is_raw}
use Rattle.ng_markup.specs.Forest.{Node, Forest, Attributes, element, text, comment, no_nodes, node}
use Rattle.ng_tags.specs.declared.event.Event.{Event}
use Rattle.ng_tags.specs.declared.event.Event.TheVariants as event
use Rattle.ng_html.specs.Building.{content}
use Rattle.ng_html.proofs.ReadEvents.{IsRead}
use Rattle.ng_html.specs.Grammar.{Ends, AllInside, tag, SpellsNode, SpellsForest}

-- an event that was read: an element of text alone with its content, or not such an element
abbrev pub IsGood : Event → Type 0
IsGood (event.Start t) = IsRead (event.Start t) × ((is_raw t.name && not t.closed) ≡ false)
IsGood (event.Raw t x q) = IsRead (event.Raw t x q) × (is_raw t.name ≡ true)
IsGood (event.End n p) = IsRead (event.End n p)
IsGood (event.Text t p) = IsRead (event.Text t p)
IsGood (event.Comment t p) = IsRead (event.Comment t p)

-- no text stands behind a text
abbrev pub NoTexts : Event → List Event → Type 0
NoTexts (event.Text t p) (event.Text u q ∷ es) = ⊥
NoTexts e es = ⊤

abbrev pub AreGood : List Event → Type 0
AreGood [] = ⊤
AreGood (e ∷ es) = IsGood e × NoTexts e es × AreGood es

abbrev pub AreApart : Node → Forest → Type 0
AreApart (text t) (node (text u) f) = ⊥
AreApart n f = ⊤

-- what an element was read from
abbrev pub IsReadElement : List ℕ → Attributes → Forest → Type 0 → Type 0
IsReadElement n a f Kids =
    ((p : ℕ) × (c : Bool) × IsRead (event.Start (tag n a p c)) × (is_void n ≡ true) × (f ≡ no_nodes))
    ⊎ ((p : ℕ) × (q : ℕ) × (x : List ℕ) × IsRead (event.Raw (tag n a p false) x q) × (is_raw n ≡ true) × (f ≡ content x))
    ⊎ ((p : ℕ) × IsRead (event.Start (tag n a p false)) × (is_raw n ≡ false) × (is_void n ≡ false) × AllInside n f × Kids)

abbrev mutual
  pub IsReadNode : Node → Type 0
  IsReadNode (text t) = (p : ℕ) × IsRead (event.Text t p)
  IsReadNode (comment t) = (p : ℕ) × IsRead (event.Comment t p)
  IsReadNode (element n a f) = IsReadElement n a f (IsReadForest f)

  pub IsReadForest : Forest → Type 0
  IsReadForest no_nodes = ⊤
  IsReadForest (node n f) = IsReadNode n × AreApart n f × IsReadForest f

record KeptNode (n : Node) (rest : List Event) : Type 0 where
  is_read : IsReadNode n
  good_rest : AreGood rest

record KeptForest (f : Forest) (rest : List Event) : Type 0 where
  is_read : IsReadForest f
  good_rest : AreGood rest

apart : (n : Node) (f : Forest) (es mid rest : List Event) → AreGood es → SpellsNode n es mid → SpellsForest f mid rest → AreApart n f
apart (element n a k) f es mid rest g s t = tt
apart (comment t) f es mid rest g s u = tt
apart (text t) no_nodes es mid rest g s u = tt
apart (text t) (node (element n a k) f) es mid rest g s u = tt
apart (text t) (node (comment v) f) es mid rest g s u = tt
apart (text t) (node (text v) f) es mid rest g s u =
    (subst AreGood (s.1 ∙ ap (λ xs. event.Text t s.0 ∷ xs) u.1.1) g).1

after_end : (n : List ℕ) (after rest : List Event) → AreGood after → Ends n after rest → AreGood rest
after_end n after rest g (inl e) = (subst AreGood e.1 g).2
after_end n after rest g (inr e) = subst AreGood e.1 g

open_not_raw : (b : Bool) → (b && true) ≡ false → b ≡ false
open_not_raw true h = h
open_not_raw false h = refl

kept_element : (n : List ℕ) (a : Attributes) (f : Forest) → ((es rest : List Event) → AreGood es → SpellsForest f es rest → KeptForest f rest) → (es rest : List Event) → AreGood es → SpellsNode (element n a f) es rest → KeptNode (element n a f) rest
kept_element n a f ih es rest g (inl (p, c, v, f_is, es_is)) =
    let h = subst AreGood es_is g in
    record { is_read = inl (p, c, h.0.0, v, f_is); good_rest = h.2 }
kept_element n a f ih es rest g (inr (inl (p, q, x, f_is, es_is))) =
    let h = subst AreGood es_is g in
    record { is_read = inr (inl (p, q, x, h.0.0, h.0.1, f_is)); good_rest = h.2 }
kept_element n a f ih es rest g (inr (inr (p, mid, after, v, fits, es_is, s, e))) =
    let h = subst AreGood es_is g in
    let k = ih mid after h.2 s in
    record { is_read = inr (inr (p, h.0.0, open_not_raw (is_raw n) h.0.1, v, fits, k.is_read)); good_rest = after_end n after rest k.good_rest e }

mutual
  kept_node : (n : Node) (es rest : List Event) → AreGood es → SpellsNode n es rest → KeptNode n rest
  kept_node (text t) es rest g s = let h = subst AreGood s.1 g in record { is_read = (s.0, h.0); good_rest = h.2 }
  kept_node (comment t) es rest g s = let h = subst AreGood s.1 g in record { is_read = (s.0, h.0); good_rest = h.2 }
  kept_node (element n a f) es rest g s = kept_element n a f (λ a b c d. kept_forest f a b c d) es rest g s

  kept_forest : (f : Forest) (es rest : List Event) → AreGood es → SpellsForest f es rest → KeptForest f rest
  kept_forest no_nodes es rest g s = record { is_read = tt; good_rest = subst AreGood s g }
  kept_forest (node n f) es rest g s =
      let a = kept_node n es s.0 g s.1 in
      let b = kept_forest f s.0 rest a.good_rest s.2 in
      record { is_read = (a.is_read, apart n f es s.0 rest g s.1 s.2, b.is_read); good_rest = b.good_rest }

-- what good events spell can be printed
pub spelled_kept : (f : Forest) (es : List Event) → AreGood es → SpellsForest f es [] → IsReadForest f
spelled_kept f es g s = (kept_forest f es [] g s).is_read
