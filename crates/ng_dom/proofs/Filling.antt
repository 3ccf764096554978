-- An element gets the children that were made for it.
use Rattle.std.proofs.Common.{◌≡◌, ℕ, List, Option, Some, refl, ap, arith}
use Rattle.ng_dom.specs.Lists.{filled_with}
use Rattle.ng_dom.specs.Nodes.{NamedNode, NamedForest, named_text, named_comment, named_element, named_anchor, name_of, names_of}
use Rattle.ng_dom.specs.Editing.{changed_in, with_kids}
use Rattle.ng_dom.specs.Rooms.{Rooms, element_shape, shape_of, ReadsInside, ReadsIn, room_changed, shape_with_kids}
use Rattle.ng_dom.proofs.Reading.{reads_changed}
use Rattle.ng_dom.proofs.Groups.{reads_apart}

module _ (piece : NamedForest) (ks : List ℕ) (names : names_of piece ≡ ks) where
  name-filled : (x : NamedNode) → name_of (with_kids (filled_with piece) x) ≡ name_of x
  name-filled (named_text n u) = refl
  name-filled (named_comment n u) = refl
  name-filled (named_element n e ats f) = refl
  name-filled (named_anchor n gs) = refl

  shape-filled : (x : NamedNode) → shape_of (with_kids (filled_with piece) x) ≡ shape_with_kids (filled_with ks) (shape_of x)
  shape-filled (named_text n u) = refl
  shape-filled (named_comment n u) = refl
  shape-filled (named_element n e ats f) = ap (element_shape e ats) names
  shape-filled (named_anchor n gs) = refl

  inside-filled : (s : Rooms) (n : ℕ) → ReadsIn s (Some n) piece → (x : NamedNode) → name_of x ≡ n → ReadsInside s x → ReadsInside s (with_kids (filled_with piece) x)
  inside-filled s n reads (named_text m u) e h = tt
  inside-filled s n reads (named_comment m u) e h = tt
  inside-filled s n reads (named_element m a ats f) e h = rw e reads
  inside-filled s n reads (named_anchor m gs) e h = h

  pub kids_filled : (r s : Rooms) (n : ℕ) → ReadsIn r (Some n) piece → ((q : ℕ) → s q ≡ room_changed n (shape_with_kids (filled_with ks)) r q)
      → (p : Option ℕ) (f : NamedForest) → ReadsIn r p f → ReadsIn s p (changed_in n (with_kids (filled_with piece)) f)
  kids_filled r s n reads rooms p f h =
      reads_changed n (with_kids (filled_with piece)) name-filled (shape_with_kids (filled_with ks)) shape-filled r s rooms
      (inside-filled s n (reads_apart r s n (shape_with_kids (filled_with ks)) rooms n piece (omega arith) reads)) p f h
