-- Two track keys are the same where their kinds, numbers and texts are.
use Rattle.std.specs.Prelude.{◌≡◌, refl, ℕ, pos, negsuc, nat_eq, Bool, true, false, ◌&&◌, List, if◌then◌else◌}
use Rattle.std.specs.Bool.{Decides}
use Rattle.std.specs.Str.{bytes_eq}
use Rattle.std.specs.Cmp.{IsEquivalence}
use Rattle.std.proofs.Common.{ap, sym, ◌∙◌}
use Rattle.std.proofs.lemmas.Bool.{eq-eqb, eqb-true}
use Rattle.std.proofs.lemmas.Slice.Eq.{bytes_eq-Decides}
use Rattle.ng_base.specs.declared.value.Value.TheVariants as value
use Rattle.ng_blocks.specs.Keys.{kind_of, number_of, text_of}
use Rattle.ng_blocks.specs.declared.keys.TrackKey.{TrackKey}
use Rattle.ng_blocks.specs.declared.keys.TrackKey.TheVariants as key

abbrev pub same_key : TrackKey → TrackKey → Bool
same_key a b = nat_eq (kind_of a) (kind_of b) && nat_eq (number_of a) (number_of b) && bytes_eq (text_of a) (text_of b)

-- the key of this kind, number and text
key_of : ℕ → ℕ → List ℕ → TrackKey
key_of k n t =
    if nat_eq k 0 then key.Prim value.Undefined
    else if nat_eq k 1 then key.Prim value.Null
    else if nat_eq k 2 then key.Prim (value.Bool (nat_eq n 1))
    else if nat_eq k 3 then key.Prim (value.Int (pos n))
    else if nat_eq k 4 then key.Prim (value.Int (negsuc n))
    else if nat_eq k 5 then key.Prim value.Nan
    else if nat_eq k 6 then key.Prim (value.Text t)
    else if nat_eq k 7 then key.Prim (value.Obj (record { 0 = n }))
    else if nat_eq k 8 then key.Prim (value.Fun (record { 0 = n }))
    else if nat_eq k 9 then key.Place n
    else key.Text t

key_again : (k : TrackKey) → key_of (kind_of k) (number_of k) (text_of k) ≡ k
unfolding key_of
key_again (key.Prim value.Undefined) = refl
key_again (key.Prim value.Null) = refl
key_again (key.Prim (value.Bool true)) = refl
key_again (key.Prim (value.Bool false)) = refl
key_again (key.Prim (value.Int (pos n))) = refl
key_again (key.Prim (value.Int (negsuc n))) = refl
key_again (key.Prim value.Nan) = refl
key_again (key.Prim (value.Text t)) = refl
key_again (key.Prim (value.Obj o)) = refl
key_again (key.Prim (value.Fun f)) = refl
key_again (key.Place p) = refl
key_again (key.Text t) = refl

both : (a b c : Bool) → (a && b && c) ≡ true → (a ≡ true) × (b ≡ true) × (c ≡ true)
both true true true h = (refl, refl, refl)
both true true false h = absurd (cc)
both true false c h = absurd (cc)
both false b c h = absurd (cc)

all_true : (a b c : Bool) → a ≡ true → b ≡ true → c ≡ true → (a && b && c) ≡ true
all_true true true true p q r = refl
all_true true true false p q r = r
all_true true false c p q r = absurd (cc)
all_true false b c p q r = absurd (cc)

same_is : (a b : TrackKey) → same_key a b ≡ true → a ≡ b
same_is a b h =
    let (k, n, t) = both (nat_eq (kind_of a) (kind_of b)) (nat_eq (number_of a) (number_of b)) (bytes_eq (text_of a) (text_of b)) h in
    sym (key_again a)
    ∙ ap (λ x. key_of x (number_of a) (text_of a)) (eqb-true (kind_of a) (kind_of b) k)
    ∙ ap (λ x. key_of (kind_of b) x (text_of a)) (eqb-true (number_of a) (number_of b) n)
    ∙ ap (λ x. key_of (kind_of b) (number_of b) x) ((bytes_eq-Decides (text_of a) (text_of b)).0 t)
    ∙ key_again b

is_same : (a b : TrackKey) → a ≡ b → same_key a b ≡ true
is_same a b e =
    all_true (nat_eq (kind_of a) (kind_of b)) (nat_eq (number_of a) (number_of b)) (bytes_eq (text_of a) (text_of b))
    (eq-eqb (kind_of a) (kind_of b) (ap kind_of e))
    (eq-eqb (number_of a) (number_of b) (ap number_of e))
    ((bytes_eq-Decides (text_of a) (text_of b)).1 (ap text_of e))

pub same_key-Decides : (a b : TrackKey) → Decides (same_key a b) (a ≡ b)
same_key-Decides a b = (same_is a b, is_same a b)

same_symm : (a b : TrackKey) → same_key a b ≡ true → same_key b a ≡ true
same_symm a b h = is_same b a (sym (same_is a b h))

agree : (s t : Bool) → (s ≡ true → t ≡ true) → (t ≡ true → s ≡ true) → s ≡ t
agree true t f g = sym (f refl)
agree false true f g = g refl
agree false false f g = refl

pub same_key_equiv : IsEquivalence same_key
same_key_equiv = record {
  refl = λ x. is_same x x refl;
  symm = λ x y. agree (same_key x y) (same_key y x) (same_symm x y) (same_symm y x);
  congr = λ x y z e. ap (λ k. same_key k z) (same_is x y e);
}
