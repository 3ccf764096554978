-- A reader leaves no more than it was given, and looks at no token behind the one that it refuses.
use Rattle.std.proofs.Common.{◌≡◌, ◌≤◌, ℕ, Bool, true, false, List, [], ◌∷◌, ◌++◌, length, refl, ap, arith, inl, inr}
use Rattle.std.specs.Prelude.{Option, Some, None, Ok, Err, ◌⊎◌}
use Rattle.ng_base.specs.Meets.{◌>>=◌}
use Rattle.ng_base.proofs.Binds.{if_true, if_false}
use Rattle.ng_language.specs.Choice.{when_some}
use Rattle.ng_language.specs.Tokens.{same_sign, after, name_at, unary_of, unary_at, joint_of, joint_at}
use Rattle.ng_language.specs.Reading.{Read, unfit, expect}
use Rattle.ng_language.specs.declared.syntax.Sign.{Sign}
use Rattle.ng_language.specs.declared.syntax.Token.{Token}
use Rattle.ng_language.specs.declared.syntax.Token.TheVariants as token
use Rattle.ng_language.specs.declared.syntax.Unary.{Unary}
use Rattle.ng_language.specs.declared.syntax.Level.{Level}
use Rattle.ng_language.specs.declared.syntax.Joint.{Joint}
use Rattle.ng_language.specs.declared.syntax.Refusal.{Refusal}
use Rattle.ng_language.specs.declared.syntax.Refusal.TheVariants as refusals
use Rattle.ng_language.proofs.Sound.{got}

-- a refusal of either kind, with so many tokens left
abbrev pub refusal : Bool → ℕ → Refusal
refusal true n = refusals.Unfit n
refusal false n = refusals.NotAssignable n

abbrev pub refused : {A : Type 0} → Bool → ℕ → Read A
refused b n = Err (refusal b n)

abbrev pub left_of : Refusal → ℕ
left_of (refusals.Unfit n) = n
left_of (refusals.NotAssignable n) = n
left_of (refusals.Memory m) = 0

-- how many tokens are left
abbrev pub left : {A : Type 0} → Read A → ℕ
left (Ok r) = length r.1
left (Err e) = left_of e

-- both have read the same, up to before the token or up to it
pub record Both (A : Type 0) (t : Token) (vs ws : List Token) (r s : Read A) : Type 0 where
  pub a : A
  pub us : List Token
  pub first : r ≡ got (us ++ t ∷ vs) a
  pub second : s ≡ got (us ++ t ∷ ws) a

-- both have refused the same
pub record Refused (A : Type 0) (t : Token) (vs ws : List Token) (r s : Read A) : Type 0 where
  pub kind : Bool
  pub us : List Token
  pub first : r ≡ refused kind (length (us ++ t ∷ vs))
  pub second : s ≡ refused kind (length (us ++ t ∷ ws))

-- what a reader gave where these stand behind the token, and where those do: it is past the token, or did the same
abbrev pub Alike : {A : Type 0} → Token → List Token → List Token → Read A → Read A → Type 0
Alike {A} t vs ws r s = (left r ≤ length vs) ⊎ (Both A t vs ws r s ⊎ Refused A t vs ws r s)

pub record Local (A : Type 0) (f : List Token → Read A) : Type 0 where
  pub falls : (ts : List Token) → left (f ts) ≤ length ts
  pub alike : (us : List Token) (t : Token) (vs ws : List Token) → Alike t vs ws (f (us ++ t ∷ vs)) (f (us ++ t ∷ ws))

pub local_ok : {A : Type 0} (a : A) → Local A (λ ts. got ts a)
local_ok {A} a = record {
  falls = λ ts. omega arith;
  alike = λ us t vs ws. inr (inl (record { a = a; us = us; first = refl; second = refl }));
}

pub local_refused : (A : Type 0) (kind : Bool) → Local A (λ ts. refused kind (length ts))
local_refused A kind = record {
  falls = falls_so kind;
  alike = λ us t vs ws. inr (inr (record { kind = kind; us = us; first = refl; second = refl }));
}
  where
    falls_so : (kind : Bool) (ts : List Token) → left_of (refusal kind (length ts)) ≤ length ts
    falls_so true ts = omega arith
    falls_so false ts = omega arith

pub local_unfit : (A : Type 0) → Local A unfit
local_unfit A = local_refused A true

-- one reader after another
abbrev pub then_read : {A B : Type 0} → Read A → (A → List Token → Read B) → Read B
then_read r g = r >>= λ x. g x.0 x.1

then_left : {A B : Type 0} (r : Read A) (g : A → List Token → Read B) → ((a : A) → Local B (g a)) → left (then_read r g) ≤ left r
then_left (Ok x) g h = (h x.0).falls x.1
then_left (Err e) g h = omega arith

pub local_then : {A B : Type 0} (f : List Token → Read A) (g : A → List Token → Read B) → Local A f → ((a : A) → Local B (g a)) → Local B (λ ts. then_read (f ts) g)
local_then {A} {B} f g lf lg = record {
  falls = λ ts. omega (arith, lf.falls ts, then_left (f ts) g lg);
  alike = λ us t vs ws. go t vs ws (f (us ++ t ∷ vs)) (f (us ++ t ∷ ws)) (lf.alike us t vs ws);
}
  where
    go : (t : Token) (vs ws : List Token) (r s : Read A) → Alike t vs ws r s → Alike t vs ws (then_read r g) (then_read s g)
    go t vs ws r s (inl p) = inl (omega (arith, then_left r g lg))
    go t vs ws r s (inr (inl b)) = rw (b.first, b.second) ((lg b.a).alike b.us t vs ws)
    go t vs ws r s (inr (inr b)) = inr (inr (record { kind = b.kind; us = b.us; first = rw b.first; second = rw b.second }))

-- what a reader does that looks at the first token: it takes the token, or leaves all to another reader
abbrev pub Looks : (A : Type 0) → (List Token → Read A) → Token → Type 0
Looks A h x = ((g : List Token → Read A) × Local A g × ((ts : List Token) → h (x ∷ ts) ≡ g ts)) ⊎ ((d : List Token → Read A) × Local A d × ((ts : List Token) → h (x ∷ ts) ≡ d (x ∷ ts)))

pub local_look : {A : Type 0} (h d : List Token → Read A) → Local A d → h [] ≡ d [] → ((x : Token) → Looks A h x) → Local A h
local_look {A} h d ld none looks = record { falls = falls_so; alike = alike_so }
  where
    falls_on : (x : Token) (ts : List Token) → Looks A h x → left (h (x ∷ ts)) ≤ length (x ∷ ts)
    falls_on x ts (inl p) = omega (arith, p.1.falls ts, ap left (p.2 ts))
    falls_on x ts (inr p) = omega (arith, p.1.falls (x ∷ ts), ap left (p.2 ts))

    falls_so : (ts : List Token) → left (h ts) ≤ length ts
    falls_so [] = omega (arith, ld.falls [], ap left none)
    falls_so (x ∷ ts) = falls_on x ts (looks x)

    alike_first : (t : Token) (vs ws : List Token) → Looks A h t → Alike t vs ws (h (t ∷ vs)) (h (t ∷ ws))
    alike_first t vs ws (inl p) = inl (omega (arith, p.1.falls vs, ap left (p.2 vs)))
    alike_first t vs ws (inr p) = rw (p.2 vs, p.2 ws) (p.1.alike [] t vs ws)

    alike_later : (x : Token) (us : List Token) (t : Token) (vs ws : List Token) → Looks A h x → Alike t vs ws (h (x ∷ (us ++ t ∷ vs))) (h (x ∷ (us ++ t ∷ ws)))
    alike_later x us t vs ws (inl p) = rw (p.2 (us ++ t ∷ vs), p.2 (us ++ t ∷ ws)) (p.1.alike us t vs ws)
    alike_later x us t vs ws (inr p) = rw (p.2 (us ++ t ∷ vs), p.2 (us ++ t ∷ ws)) (p.1.alike (x ∷ us) t vs ws)

    alike_so : (us : List Token) (t : Token) (vs ws : List Token) → Alike t vs ws (h (us ++ t ∷ vs)) (h (us ++ t ∷ ws))
    alike_so [] t vs ws = alike_first t vs ws (looks t)
    alike_so (x ∷ us) t vs ws = alike_later x us t vs ws (looks x)

pub local_after : {A : Type 0} (s : Sign) (f d : List Token → Read A) → Local A f → Local A d → Local A (λ ts. when_some (after s ts) f (d ts))
unfolding after
local_after {A} s f d lf ld = local_look (λ ts. when_some (after s ts) f (d ts)) d ld refl looks
  where
    signs : (u : Sign) (b : Bool) → same_sign s u ≡ b → Looks A (λ ts. when_some (after s ts) f (d ts)) (token.Sign u)
    signs u true e = inl (f, lf, λ ts. rw (if_true (same_sign s u) (Some ts) None e))
    signs u false e = inr (d, ld, λ ts. rw (if_false (same_sign s u) (Some ts) None e))

    looks : (x : Token) → Looks A (λ ts. when_some (after s ts) f (d ts)) x
    looks (token.Name n) = inr (d, ld, λ ts. refl)
    looks (token.Number n) = inr (d, ld, λ ts. refl)
    looks (token.Text n) = inr (d, ld, λ ts. refl)
    looks (token.Sign u) = signs u (same_sign s u) refl

pub local_expect : {A : Type 0} (s : Sign) (f : List Token → Read A) → Local A f → Local A (λ ts. expect s ts >>= f)
unfolding after
local_expect {A} s f lf = local_look (λ ts. expect s ts >>= f) unfit (local_unfit A) refl looks
  where
    signs : (u : Sign) (b : Bool) → same_sign s u ≡ b → Looks A (λ ts. expect s ts >>= f) (token.Sign u)
    signs u true e = inl (f, lf, λ ts. rw (if_true (same_sign s u) (Some ts) None e))
    signs u false e = inr (unfit, local_unfit A, λ ts. rw (if_false (same_sign s u) (Some ts) None e))

    looks : (x : Token) → Looks A (λ ts. expect s ts >>= f) x
    looks (token.Name n) = inr (unfit, local_unfit A, λ ts. refl)
    looks (token.Number n) = inr (unfit, local_unfit A, λ ts. refl)
    looks (token.Text n) = inr (unfit, local_unfit A, λ ts. refl)
    looks (token.Sign u) = signs u (same_sign s u) refl

pub local_name : {A : Type 0} (f : List ℕ → List Token → Read A) → ((n : List ℕ) → Local A (f n)) → Local A (λ ts. when_some (name_at ts) (λ n. f n.0 n.1) (unfit ts))
unfolding name_at
local_name {A} f lf = local_look (λ ts. when_some (name_at ts) (λ n. f n.0 n.1) (unfit ts)) unfit (local_unfit A) refl looks
  where
    looks : (x : Token) → Looks A (λ ts. when_some (name_at ts) (λ n. f n.0 n.1) (unfit ts)) x
    looks (token.Name n) = inl (f n, lf n, λ ts. refl)
    looks (token.Number n) = inr (unfit, local_unfit A, λ ts. refl)
    looks (token.Text n) = inr (unfit, local_unfit A, λ ts. refl)
    looks (token.Sign u) = inr (unfit, local_unfit A, λ ts. refl)

pub local_unary : {A : Type 0} (f : Unary → List Token → Read A) (d : List Token → Read A) → ((o : Unary) → Local A (f o)) → Local A d → Local A (λ ts. when_some (unary_at ts) (λ o. f o.0 o.1) (d ts))
unfolding unary_at
local_unary {A} f d lf ld = local_look (λ ts. when_some (unary_at ts) (λ o. f o.0 o.1) (d ts)) d ld refl looks
  where
    signs : (u : Sign) (o : Option Unary) → unary_of u ≡ o → Looks A (λ ts. when_some (unary_at ts) (λ o. f o.0 o.1) (d ts)) (token.Sign u)
    signs u (Some o) e = inl (f o, lf o, λ ts. rw e)
    signs u None e = inr (d, ld, λ ts. rw e)

    looks : (x : Token) → Looks A (λ ts. when_some (unary_at ts) (λ o. f o.0 o.1) (d ts)) x
    looks (token.Name n) = inr (d, ld, λ ts. refl)
    looks (token.Number n) = inr (d, ld, λ ts. refl)
    looks (token.Text n) = inr (d, ld, λ ts. refl)
    looks (token.Sign u) = signs u (unary_of u) refl

pub local_joint : {A : Type 0} (l : Level) (f : Joint → List Token → Read A) (d : List Token → Read A) → ((j : Joint) → Local A (f j)) → Local A d → Local A (λ ts. when_some (joint_at l ts) (λ j. f j.0 j.1) (d ts))
unfolding joint_at
local_joint {A} l f d lf ld = local_look (λ ts. when_some (joint_at l ts) (λ j. f j.0 j.1) (d ts)) d ld refl looks
  where
    signs : (u : Sign) (o : Option Joint) → joint_of l u ≡ o → Looks A (λ ts. when_some (joint_at l ts) (λ j. f j.0 j.1) (d ts)) (token.Sign u)
    signs u (Some o) e = inl (f o, lf o, λ ts. rw e)
    signs u None e = inr (d, ld, λ ts. rw e)

    looks : (x : Token) → Looks A (λ ts. when_some (joint_at l ts) (λ j. f j.0 j.1) (d ts)) x
    looks (token.Name n) = inr (d, ld, λ ts. refl)
    looks (token.Number n) = inr (d, ld, λ ts. refl)
    looks (token.Text n) = inr (d, ld, λ ts. refl)
    looks (token.Sign u) = signs u (joint_of l u) refl
