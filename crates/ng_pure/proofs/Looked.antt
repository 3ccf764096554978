-- What is found in the objects of before is what was found there.
use Rattle.std.proofs.Common.{◌≡◌, ◌<◌, ℕ, zero, suc, List, length, refl, sym, subst, arith, Option, Some, None}
use Rattle.ng_base.specs.Objects.{Object, object_at, own_of, StandsAmong}
use Rattle.ng_base.specs.declared.value.Value.{Value}
use Rattle.ng_language.specs.Objects.{look, look_within, or_else_at}
use Rattle.ng_store.proofs.Looks.{own_stands, earlier}
use Rattle.ng_store.proofs.ObjectReads.{object_is}
use Rattle.ng_pure.proofs.Shown.{Grown}

abbrev pub OptionStands : ℕ → Option Value → Type 0
OptionStands n None = Unit {0}
OptionStands n (Some v) = StandsAmong n v

-- the same is found, and it names objects of before
pub record Looked (n : ℕ) (now before : Option Value) : Type 0 where
  pub same : now ≡ before
  pub stands : OptionStands n before

looked_else : (n : ℕ) (w : Option Value) (q : Option ℕ) (f g : ℕ → Option Value) → OptionStands n w → ((p : ℕ) → q ≡ Some p → Looked n (f p) (g p)) → Looked n (or_else_at w q f) (or_else_at w q g)
looked_else n (Some v) q f g s h = record { same = refl; stands = s }
looked_else n None None f g s h = record { same = refl; stands = tt }
looked_else n None (Some p) f g s h = h p refl

own_looked : (n o : ℕ) (x : Object) (name : List ℕ) (u : Option Value) → own_of x name ≡ u → ((v : Value) → own_of x name ≡ Some v → StandsAmong n v) → OptionStands n u
own_looked n o x name None e h = tt
own_looked n o x name (Some v) e h = h v e

look_grown : (before now : List Object) (name : List ℕ) → Grown before now → (k o : ℕ) → o < length before → Looked (length before) (look_within k now o name) (look_within k before o name)
look_grown before now name g zero o w = record { same = refl; stands = tt }
look_grown before now name g (suc k) o w =
    let x : Object = object_at before o in
    let P : Object → Type 0 = λ (y : Object). Looked (length before) (or_else_at (own_of y name) y.proto (λ p. look_within k now p name)) (look_within (suc k) before o name) in
    subst P (sym (g.unchanged o w))
    (looked_else (length before) (own_of x name) x.proto (λ p. look_within k now p name) (λ p. look_within k before p name)
    (own_looked (length before) o x name (own_of x name) refl (λ v e. own_stands (length before) o x name v (object_is before o w g.sound) e))
    (λ p e. let below : p < o = earlier before o p g.sound w e in look_grown before now name g k p (omega arith)))

pub look_looked : (before now : List Object) (name : List ℕ) (o : ℕ) → Grown before now → o < length before → Looked (length before) (look now o name) (look before o name)
look_looked before now name o g w = look_grown before now name g (suc o) o w
