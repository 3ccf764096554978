-- Each change of the document by its room.
use Rattle.std.proofs.Common.{◌≡◌, ℕ, List, Option, refl}
use Rattle.ng_markup.specs.Forest.{Attributes}
use Rattle.ng_dom.specs.Nodes.{NamedNode, NamedForest, named_text, named_comment, named_element, named_anchor, name_of}
use Rattle.ng_dom.specs.Editing.{changed_in, with_text, with_attributes}
use Rattle.ng_dom.specs.Rooms.{Rooms, shape_of, ReadsInside, ReadsIn, room_changed, shape_told, shape_with_attributes}
use Rattle.ng_dom.proofs.Reading.{reads_changed}

name-text : (t : List ℕ) (x : NamedNode) → name_of (with_text t x) ≡ name_of x
name-text t (named_text n u) = refl
name-text t (named_comment n u) = refl
name-text t (named_element n e ats f) = refl
name-text t (named_anchor n gs) = refl

shape-text : (t : List ℕ) (x : NamedNode) → shape_of (with_text t x) ≡ shape_told t (shape_of x)
shape-text t (named_text n u) = refl
shape-text t (named_comment n u) = refl
shape-text t (named_element n e ats f) = refl
shape-text t (named_anchor n gs) = refl

inside-text : (s : Rooms) (t : List ℕ) (x : NamedNode) → ReadsInside s x → ReadsInside s (with_text t x)
inside-text s t (named_text n u) h = h
inside-text s t (named_comment n u) h = h
inside-text s t (named_element n e ats f) h = h
inside-text s t (named_anchor n gs) h = h

pub text_reads : (n : ℕ) (t : List ℕ) (r s : Rooms) → ((q : ℕ) → s q ≡ room_changed n (shape_told t) r q) → (p : Option ℕ) (f : NamedForest) → ReadsIn r p f → ReadsIn s p (changed_in n (with_text t) f)
text_reads n t r s rooms p f h = reads_changed n (with_text t) (name-text t) (shape_told t) (shape-text t) r s rooms (λ x e. inside-text s t x) p f h

module _ (g : Attributes → Attributes) where
  name-attributes : (x : NamedNode) → name_of (with_attributes g x) ≡ name_of x
  name-attributes (named_text n u) = refl
  name-attributes (named_comment n u) = refl
  name-attributes (named_element n e ats f) = refl
  name-attributes (named_anchor n gs) = refl

  shape-attributes : (x : NamedNode) → shape_of (with_attributes g x) ≡ shape_with_attributes g (shape_of x)
  shape-attributes (named_text n u) = refl
  shape-attributes (named_comment n u) = refl
  shape-attributes (named_element n e ats f) = refl
  shape-attributes (named_anchor n gs) = refl

  inside-attributes : (s : Rooms) (x : NamedNode) → ReadsInside s x → ReadsInside s (with_attributes g x)
  inside-attributes s (named_text n u) h = h
  inside-attributes s (named_comment n u) h = h
  inside-attributes s (named_element n e ats f) h = h
  inside-attributes s (named_anchor n gs) h = h

  pub attributes_read : (n : ℕ) (r s : Rooms) → ((q : ℕ) → s q ≡ room_changed n (shape_with_attributes g) r q) → (p : Option ℕ) (f : NamedForest) → ReadsIn r p f → ReadsIn s p (changed_in n (with_attributes g) f)
  attributes_read n r s rooms p f h = reads_changed n (with_attributes g) name-attributes (shape_with_attributes g) shape-attributes r s rooms (λ x e. inside-attributes s x) p f h
