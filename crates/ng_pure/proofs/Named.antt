-- Fields by name, put one after another.
use Rattle.std.proofs.Common.{◌≡◌, ℕ, Bool, true, false, List, [], ◌∷◌, refl, ap, subst, bytes_eq, if◌then◌else◌}
use Rattle.std.specs.List.{AllByRecursion, IsDistinct}
use Rattle.std.specs.Map.{keys_of}
use Rattle.indexmap.specs.IndexMap.{insert_entry}
use Rattle.ng_base.specs.Objects.{Object}
use Rattle.ng_base.specs.Views.{ViewTree}
use Rattle.ng_language.specs.Unfolding.{Field}
use Rattle.ng_store.proofs.Sound.{unequal}
use Rattle.ng_pure.proofs.Shown.{Seen, FieldSeen, FieldsSeen}

pub nothing_distinct : IsDistinct bytes_eq (keys_of {X = ViewTree} [])
unfolding IsDistinct
nothing_distinct = tt

put_at : (n from : ℕ) (now : List Object) (fs gs : List Field) (name : List ℕ) (u t : ViewTree) → FieldsSeen n from now fs gs → Seen n from now u t → FieldsSeen n from now (insert_entry bytes_eq fs name u) (insert_entry bytes_eq gs name t)
put_at n from now [] [] name u t s r = ((refl, r), tt)
put_at n from now [] (g ∷ gs) name u t s r = absurd s
put_at n from now (f ∷ fs) [] name u t s r = absurd s
put_at n from now (f ∷ fs) (g ∷ gs) name u t s r =
    subst (λ b. FieldsSeen n from now (insert_entry bytes_eq (f ∷ fs) name u) (if b then (g.0, t) ∷ gs else g ∷ insert_entry bytes_eq gs name t)) (ap (bytes_eq name) s.0.0) (by (bytes_eq name f.0) (put_at n from now fs gs name u t s.1 r))
  where
    by : (b : Bool) → FieldsSeen n from now (insert_entry bytes_eq fs name u) (insert_entry bytes_eq gs name t) → FieldsSeen n from now (if b then (f.0, u) ∷ fs else f ∷ insert_entry bytes_eq fs name u) (if b then (g.0, t) ∷ gs else g ∷ insert_entry bytes_eq gs name t)
    by true rest = ((s.0.0, r), s.1)
    by false rest = (s.0, rest)

pub put_seen : (n from : ℕ) (now : List Object) (fs gs : List Field) (f g : Field) → FieldsSeen n from now fs gs → FieldSeen n from now f g → FieldsSeen n from now (insert_entry bytes_eq fs f.0 f.1) (insert_entry bytes_eq gs g.0 g.1)
put_seen n from now fs gs f g s r = subst (λ k. FieldsSeen n from now (insert_entry bytes_eq fs f.0 f.1) (insert_entry bytes_eq gs k g.1)) r.0 (put_at n from now fs gs f.0 f.1 g.1 s r.1)

apart_put : (k : List ℕ) (es : List Field) (name : List ℕ) (t : ViewTree) → AllByRecursion (λ y. bytes_eq k y ≡ false) (keys_of es) → bytes_eq k name ≡ false → AllByRecursion (λ y. bytes_eq k y ≡ false) (keys_of (insert_entry bytes_eq es name t))
apart_put k [] name t a s = (s, tt)
apart_put k (e ∷ es) name t a s = by (bytes_eq name e.0) (apart_put k es name t a.1 s)
  where
    by : (b : Bool) → AllByRecursion (λ y. bytes_eq k y ≡ false) (keys_of (insert_entry bytes_eq es name t)) → AllByRecursion (λ y. bytes_eq k y ≡ false) (keys_of (if b then (e.0, t) ∷ es else e ∷ insert_entry bytes_eq es name t))
    by true rest = a
    by false rest = (a.0, rest)

-- names differ still once one more is put
pub put_distinct : (es : List Field) (name : List ℕ) (t : ViewTree) → IsDistinct bytes_eq (keys_of es) → IsDistinct bytes_eq (keys_of (insert_entry bytes_eq es name t))
unfolding IsDistinct
put_distinct [] name t d = (tt, tt)
put_distinct (e ∷ es) name t d = by (bytes_eq name e.0) refl (put_distinct es name t d.1)
  where
    by : (b : Bool) → bytes_eq name e.0 ≡ b → IsDistinct bytes_eq (keys_of (insert_entry bytes_eq es name t)) → IsDistinct bytes_eq (keys_of (if b then (e.0, t) ∷ es else e ∷ insert_entry bytes_eq es name t))
    by true h rest = d
    by false h rest = (apart_put e.0 es name t d.0 (unequal name e.0 h), rest)
