-- A node is moved among others.
use Rattle.std.proofs.Common.{◌≡◌, ◌<◌, ℕ, zero, suc, Bool, true, false, List, [], ◌∷◌, ◌++◌, length, take, drop, get_or, Option, Some, None, refl, ap, ◌∙◌, sym, cond, arith}
use Rattle.std.specs.Prelude.{◌==◌}
use Rattle.std.specs.List.{remove}
use Rattle.std.proofs.lemmas.Bool.{eqb-true, eq-eqb}
use Rattle.ng_dom.specs.Lists.{put_at, among, without_first, moved_to}
use Rattle.ng_dom.specs.Nodes.{NamedNode, NamedForest, named_text, named_comment, named_element, named_anchor, nothing_named, named_then, name_of, names_of}
use Rattle.ng_dom.specs.Editing.{changed_in, with_kids, node_named, node_cut, placed_again, node_moved}
use Rattle.ng_dom.specs.Rooms.{Rooms, element_shape, shape_of, HasRoom, ReadsInside, ReadsIn, room_changed, shape_with_kids}
use Rattle.ng_dom.proofs.Reading.{reads_changed}
use Rattle.ng_dom.proofs.Adding.{names_inserted, reads_inserted}

-- a change of children whose names change in the same way
module _ (g : NamedForest → NamedForest) (h : List ℕ → List ℕ) (names : (f : NamedForest) → names_of (g f) ≡ h (names_of f)) where
  name-kids : (x : NamedNode) → name_of (with_kids g x) ≡ name_of x
  name-kids (named_text n u) = refl
  name-kids (named_comment n u) = refl
  name-kids (named_element n e ats f) = refl
  name-kids (named_anchor n gs) = refl

  shape-kids : (x : NamedNode) → shape_of (with_kids g x) ≡ shape_with_kids h (shape_of x)
  shape-kids (named_text n u) = refl
  shape-kids (named_comment n u) = refl
  shape-kids (named_element n e ats f) = ap (element_shape e ats) (names f)
  shape-kids (named_anchor n gs) = refl

  module _ (s : Rooms) (reads : (p : Option ℕ) (f : NamedForest) → ReadsIn s p f → ReadsIn s p (g f)) where
    inside-kids : (x : NamedNode) → ReadsInside s x → ReadsInside s (with_kids g x)
    inside-kids (named_text n u) t = tt
    inside-kids (named_comment n u) t = tt
    inside-kids (named_element n e ats f) t = reads (Some n) f t
    inside-kids (named_anchor n gs) t = t

    pub kids_read : (r : Rooms) (a : ℕ) → ((q : ℕ) → s q ≡ room_changed a (shape_with_kids h) r q) → (p : Option ℕ) (f : NamedForest) → ReadsIn r p f → ReadsIn s p (changed_in a (with_kids g) f)
    kids_read r a rooms p f t = reads_changed a (with_kids g) name-kids (shape_with_kids h) shape-kids r s rooms (λ x e. inside-kids x) p f t

cut_names : (b : Bool) (n : ℕ) (x : NamedNode) (f : NamedForest) → names_of (node_cut n f) ≡ without_first n (names_of f) → names_of (cond b f (named_then x (node_cut n f))) ≡ cond b (names_of f) (name_of x ∷ without_first n (names_of f))
cut_names true n x f h = refl
cut_names false n x f h = ap (λ (ns : List ℕ). name_of x ∷ ns) h

names-cut : (n : ℕ) (f : NamedForest) → names_of (node_cut n f) ≡ without_first n (names_of f)
names-cut n nothing_named = refl
names-cut n (named_then x f) = cut_names (name_of x == n) n x f (names-cut n f)

cut_reads : (b : Bool) (s : Rooms) (n : ℕ) (p : Option ℕ) (x : NamedNode) (f : NamedForest) → ReadsIn s p (named_then x f) → ReadsIn s p (node_cut n f) → ReadsIn s p (cond b f (named_then x (node_cut n f)))
cut_reads true s n p x f t h = t.2
cut_reads false s n p x f t h = (t.0, t.1, h)

reads-cut : (s : Rooms) (n : ℕ) (p : Option ℕ) (f : NamedForest) → ReadsIn s p f → ReadsIn s p (node_cut n f)
reads-cut s n p nothing_named t = tt
reads-cut s n p (named_then x f) t = cut_reads (name_of x == n) s n p x f t (reads-cut s n p f t.2)

-- a node is found where its name is among the names
none_named : (b : Bool) (n : ℕ) (x : NamedNode) (f : NamedForest) → (node_named n f ≡ None → among n (names_of f) ≡ false) → cond b (Some x) (node_named n f) ≡ None → cond b true (among n (names_of f)) ≡ false
none_named true n x f h e = absurd (cc)
none_named false n x f h e = h e

named-none : (n : ℕ) (f : NamedForest) → node_named n f ≡ None → among n (names_of f) ≡ false
named-none n nothing_named e = refl
named-none n (named_then x f) e = none_named (name_of x == n) n x f (named-none n f) e

some_named : (b : Bool) (n : ℕ) (x : NamedNode) (f : NamedForest) (y : NamedNode) → (name_of x == n) ≡ b → (node_named n f ≡ Some y → (among n (names_of f) ≡ true) × (name_of y ≡ n))
    → cond b (Some x) (node_named n f) ≡ Some y → (cond b true (among n (names_of f)) ≡ true) × (name_of y ≡ n)
some_named true n x f y t h e = let one : x ≡ y = cc in (refl, ap name_of (sym one) ∙ eqb-true (name_of x) n t)
some_named false n x f y t h e = h e

named-some : (n : ℕ) (f : NamedForest) (y : NamedNode) → node_named n f ≡ Some y → (among n (names_of f) ≡ true) × (name_of y ≡ n)
named-some n nothing_named y e = absurd (cc)
named-some n (named_then x f) y e = some_named (name_of x == n) n x f y refl (named-some n f y) e

some_read : (b : Bool) (s : Rooms) (n : ℕ) (p : Option ℕ) (x : NamedNode) (f : NamedForest) (y : NamedNode) → ReadsIn s p (named_then x f) → (node_named n f ≡ Some y → HasRoom s p y × ReadsInside s y)
    → cond b (Some x) (node_named n f) ≡ Some y → HasRoom s p y × ReadsInside s y
some_read true s n p x f y t h e = let one : x ≡ y = cc in rw (sym one) (t.0, t.1)
some_read false s n p x f y t h e = h e

reads-named : (s : Rooms) (n : ℕ) (p : Option ℕ) (f : NamedForest) (y : NamedNode) → node_named n f ≡ Some y → ReadsIn s p f → HasRoom s p y × ReadsInside s y
reads-named s n p nothing_named y e t = absurd (cc)
reads-named s n p (named_then x f) y e t = some_read (name_of x == n) s n p x f y t (λ q. reads-named s n p f y q t.2) e

pub names_moved : (i n : ℕ) (f : NamedForest) → names_of (node_moved i n f) ≡ moved_to i n (names_of f)
names_moved i n f = by_found (node_named n f) refl
  where
    by_found : (o : Option NamedNode) → node_named n f ≡ o → names_of (placed_again i n o f) ≡ moved_to i n (names_of f)
    by_found None e = rw (named-none n f e) refl
    by_found (Some y) e =
        let both = named-some n f y e in
        rw both.0 (names_inserted i y (node_cut n f) ∙ (ap (λ (m : ℕ). put_at i m (names_of (node_cut n f))) both.1 ∙ ap (put_at i n) (names-cut n f)))

pub reads_moved : (s : Rooms) (i n : ℕ) (p : Option ℕ) (f : NamedForest) → ReadsIn s p f → ReadsIn s p (node_moved i n f)
reads_moved s i n p f t = by_found (node_named n f) refl
  where
    by_found : (o : Option NamedNode) → node_named n f ≡ o → ReadsIn s p (placed_again i n o f)
    by_found None e = t
    by_found (Some y) e = let both = reads-named s n p f y e t in reads_inserted s p i y (node_cut n f) both.0 both.1 (reads-cut s n p f t)

-- a child is moved
pub kid_moved : (r s : Rooms) (a i n : ℕ) → ((q : ℕ) → s q ≡ room_changed a (shape_with_kids (moved_to i n)) r q) → (p : Option ℕ) (f : NamedForest) → ReadsIn r p f → ReadsIn s p (changed_in a (with_kids (node_moved i n)) f)
kid_moved r s a i n rooms = kids_read (node_moved i n) (moved_to i n) (names_moved i n) s (reads_moved s i n) r a rooms

-- the first of a name is found at i
pub found_at : (n i : ℕ) (ks : List ℕ) (d : ℕ) → i < length ks → get_or ks i d ≡ n → (among n (drop i ks) ≡ true) × (take i ks ++ without_first n (drop i ks) ≡ remove ks i)
found_at n i [] d h e = absurd (omega arith)
found_at n zero (k ∷ ks) d h e = (rw (eq-eqb k n e) refl, rw (eq-eqb k n e) refl)
found_at n (suc i) (k ∷ ks) d h e = let r = found_at n i ks d (omega arith) e in (r.0, ap (λ (ns : List ℕ). k ∷ ns) r.1)

absent_by : (b : Bool) (n k : ℕ) (ks : List ℕ) → (among n ks ≡ false → without_first n ks ≡ ks) → cond b true (among n ks) ≡ false → cond b ks (k ∷ without_first n ks) ≡ k ∷ ks
absent_by true n k ks h e = absurd (cc)
absent_by false n k ks h e = ap (λ (ns : List ℕ). k ∷ ns) (h e)

absent : (n : ℕ) (ks : List ℕ) → among n ks ≡ false → without_first n ks ≡ ks
absent n [] e = refl
absent n (k ∷ ks) e = absent_by (k == n) n k ks (absent n ks) e

-- a name that isn't there isn't moved
pub not_moved : (i n : ℕ) (ks : List ℕ) → among n ks ≡ false → without_first n ks ≡ moved_to i n ks
not_moved i n ks e = rw e (absent n ks e)

-- the names at the top, where a node is moved
pub top_moved : (i n : ℕ) (old new : List ℕ) (f : NamedForest) → old ≡ names_of f → new ≡ moved_to i n old → new ≡ names_of (node_moved i n f)
top_moved i n old new f was is = is ∙ (ap (moved_to i n) was ∙ sym (names_moved i n f))
