-- No value equals one that was made for another view: fresh lists and records equal nothing, and objects that are made are
-- new ones.
use Rattle.std.proofs.Common.{◌≡◌, ◌∙◌, ◌<◌, ◌≤◌, ℕ, Bool, false, List, length, refl, sym, ap, subst, arith}
use Rattle.std.specs.Prelude.{nat_eq}
use Rattle.std.proofs.lemmas.Bool.Decides.{nat_tests}
use Rattle.ng_base.specs.Objects.{Object, StandsAmong}
use Rattle.ng_base.specs.Views.{ViewTree, ViewTrees, ViewFields, prim, list, rec}
use Rattle.ng_base.specs.declared.name.Oid.{Oid}
use Rattle.ng_base.specs.declared.value.Value.{Value}
use Rattle.ng_base.specs.declared.value.Value.TheVariants as value
use Rattle.ng_language.specs.Operators.{strict_same, loose_same, strict_eq, loose_eq}
use Rattle.ng_pure.specs.Showing.{Shows}
use Rattle.ng_pure.proofs.Shown.{Seen}

-- an object that was made from a place on
record IsMade (from : ℕ) (now : List Object) (v : Value) : Type 0 where
  o : Oid
  is : v ≡ value.Obj o
  low : from ≤ o.0
  high : o.0 < length now

list_made : (n from : ℕ) (now : List Object) (v : Value) (ts : ViewTrees) → Shows n from now v (list ts) → IsMade from now v
list_made n from now v ts s = record { o = s.0; is = s.2; low = s.3; high = s.4 }

rec_made : (n from : ℕ) (now : List Object) (v : Value) (fs : ViewFields) → Shows n from now v (rec fs) → IsMade from now v
rec_made n from now v fs s = record { o = s.0; is = s.2; low = s.3; high = s.4 }

-- a value that is no object, or another object
abbrev IsOther : ℕ → Value → Type 0
IsOther o (value.Obj p) = ¬ (p.0 ≡ o)
IsOther o v = Unit {0}

old_other : (n o : ℕ) (v : Value) → StandsAmong n v → n ≤ o → IsOther o v
old_other n o (value.Obj p) s h = λ e. omega arith
old_other n o v s h = tt

-- an equality of values that tells an object from all others
record TellsApart (eq : Value → Value → Bool) : Type 0 where
  left : (o : Oid) (v : Value) → IsOther o.0 v → eq (value.Obj o) v ≡ false
  right : (o : Oid) (v : Value) → IsOther o.0 v → eq v (value.Obj o) ≡ false

unequal_numbers : (m n : ℕ) → ¬ (m ≡ n) → nat_eq m n ≡ false
unequal_numbers m n h = grind (arith, nat_tests)

strict_left : (o : Oid) (v : Value) → IsOther o.0 v → strict_same (value.Obj o) v ≡ false
strict_left o (value.Obj p) h = unequal_numbers o.0 p.0 (λ e. h (sym e))
strict_left o v h = refl

strict_right : (o : Oid) (v : Value) → IsOther o.0 v → strict_same v (value.Obj o) ≡ false
strict_right o (value.Obj p) h = unequal_numbers p.0 o.0 h
strict_right o v h = refl

loose_left : (o : Oid) (v : Value) → IsOther o.0 v → loose_same (value.Obj o) v ≡ false
loose_left o (value.Obj p) h = unequal_numbers o.0 p.0 (λ e. h (sym e))
loose_left o v h = refl

loose_right : (o : Oid) (v : Value) → IsOther o.0 v → loose_same v (value.Obj o) ≡ false
loose_right o (value.Obj p) h = unequal_numbers p.0 o.0 h
loose_right o v h = refl

-- an equality of views by one of values: what is fresh equals nothing
abbrev views_eq : (Value → Value → Bool) → ViewTree → ViewTree → Bool
views_eq eq (prim v) (prim w) = eq v w
views_eq eq t u = false

made_left : (eq : Value → Value → Bool) → TellsApart eq → (o : ℕ) (a : List Object) (v : Value) → IsMade o a v → (w : Value) → ((p : Oid) → o ≤ p.0 → p.0 < length a → IsOther p.0 w) → eq v w ≡ false
made_left eq t o a v i w h = ap (λ x. eq x w) i.is ∙ t.left i.o w (h i.o i.low i.high)

made_right : (eq : Value → Value → Bool) → TellsApart eq → (o : ℕ) (a : List Object) (v : Value) → IsMade o a v → (w : Value) → ((p : Oid) → o ≤ p.0 → p.0 < length a → IsOther p.0 w) → eq w v ≡ false
made_right eq t o a v i w h = ap (λ x. eq w x) i.is ∙ t.right i.o w (h i.o i.low i.high)

both_made : (eq : Value → Value → Bool) → TellsApart eq → (from to : ℕ) (a b : List Object) (v w : Value) → length a ≤ to → IsMade from a v → IsMade to b w → eq v w ≡ false
both_made eq t from to a b v w h i j =
    ap (λ x. eq x w) i.is ∙ (ap (λ x. eq (value.Obj i.o) x) j.is
    ∙ t.left i.o (value.Obj j.o) (λ e. (let x : i.o.0 < length a = i.high in let y : to ≤ j.o.0 = j.low in omega arith)))

-- one value was made before the other, or neither was made
apart : (eq : Value → Value → Bool) → TellsApart eq → (n from to : ℕ) (a b : List Object) → n ≤ from → n ≤ to → length a ≤ to → (v w : Value) (t u : ViewTree) → Shows n from a v t → Shows n to b w u → eq v w ≡ views_eq eq t u
apart eq d n from to a b h k l v w (prim x) (prim y) s r = ap (λ z. eq z w) s.0 ∙ ap (λ z. eq x z) r.0
apart eq d n from to a b h k l v w (prim x) (list ts) s r =
    made_right eq d to b w (list_made n to b w ts r) v (λ p low high. subst (IsOther p.0) (sym s.0) (old_other n p.0 x s.1 (omega arith)))
apart eq d n from to a b h k l v w (prim x) (rec fs) s r =
    made_right eq d to b w (rec_made n to b w fs r) v (λ p low high. subst (IsOther p.0) (sym s.0) (old_other n p.0 x s.1 (omega arith)))
apart eq d n from to a b h k l v w (list ts) (prim y) s r =
    made_left eq d from a v (list_made n from a v ts s) w (λ p low high. subst (IsOther p.0) (sym r.0) (old_other n p.0 y r.1 (omega arith)))
apart eq d n from to a b h k l v w (rec fs) (prim y) s r =
    made_left eq d from a v (rec_made n from a v fs s) w (λ p low high. subst (IsOther p.0) (sym r.0) (old_other n p.0 y r.1 (omega arith)))
apart eq d n from to a b h k l v w (list ts) (list us) s r = both_made eq d from to a b v w l (list_made n from a v ts s) (list_made n to b w us r)
apart eq d n from to a b h k l v w (list ts) (rec us) s r = both_made eq d from to a b v w l (list_made n from a v ts s) (rec_made n to b w us r)
apart eq d n from to a b h k l v w (rec fs) (list us) s r = both_made eq d from to a b v w l (rec_made n from a v fs s) (list_made n to b w us r)
apart eq d n from to a b h k l v w (rec fs) (rec us) s r = both_made eq d from to a b v w l (rec_made n from a v fs s) (rec_made n to b w us r)

strict_is : (t u : ViewTree) → views_eq strict_same t u ≡ strict_eq t u
strict_is (prim v) (prim w) = refl
strict_is (prim v) (list us) = refl
strict_is (prim v) (rec us) = refl
strict_is (list ts) u = refl
strict_is (rec fs) u = refl

loose_is : (t u : ViewTree) → views_eq loose_same t u ≡ loose_eq t u
loose_is (prim v) (prim w) = refl
loose_is (prim v) (list us) = refl
loose_is (prim v) (rec us) = refl
loose_is (list ts) u = refl
loose_is (rec fs) u = refl

pub strict_seen : (n from to : ℕ) (a b : List Object) → n ≤ from → n ≤ to → length a ≤ to → (v w t u : ViewTree) → Seen n from a v t → Seen n to b w u → strict_eq v w ≡ strict_eq t u
strict_seen n from to a b h k l (prim v) (prim w) t u s r = apart strict_same (record { left = strict_left; right = strict_right }) n from to a b h k l v w t u s r ∙ strict_is t u
strict_seen n from to a b h k l (list v) w t u s r = absurd s
strict_seen n from to a b h k l (rec v) w t u s r = absurd s
strict_seen n from to a b h k l (prim v) (list w) t u s r = absurd r
strict_seen n from to a b h k l (prim v) (rec w) t u s r = absurd r

pub loose_seen : (n from to : ℕ) (a b : List Object) → n ≤ from → n ≤ to → length a ≤ to → (v w t u : ViewTree) → Seen n from a v t → Seen n to b w u → loose_eq v w ≡ loose_eq t u
loose_seen n from to a b h k l (prim v) (prim w) t u s r = apart loose_same (record { left = loose_left; right = loose_right }) n from to a b h k l v w t u s r ∙ loose_is t u
loose_seen n from to a b h k l (list v) w t u s r = absurd s
loose_seen n from to a b h k l (rec v) w t u s r = absurd s
loose_seen n from to a b h k l (prim v) (list w) t u s r = absurd r
loose_seen n from to a b h k l (prim v) (rec w) t u s r = absurd r
