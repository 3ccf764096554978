-- The first names of the instances that go.
use Rattle.std.proofs.Common.{◌≡◌, ℕ, Bool, true, false, cond, List, [], ◌∷◌, Option, Some, None, refl, ap, ◌∙◌, sym, subst}
use Rattle.std.specs.Prelude.{MatchOption}
use Rattle.std.specs.BTreeMap.{is_at}
use Rattle.std.specs.Map.{lookup, lookup_key, remove_entry}
use Rattle.std.specs.Ordering.{nat_cmp}
use Rattle.ng_base.specs.Order.{path_cmp}
use Rattle.ng_instances.specs.Instances.{Owners, is_path, owners_less}
use Rattle.ng_behaviour.specs.Keys.{begins}
use Rattle.ng_instances.proofs.PathIs.{path_is}
use Rattle.ng_link.proofs.PathsBelow.{same_path, other_path}
use Rattle.ng_build.proofs.Firsts.{passes, first, first_there}

-- the first names of the instances that go
module _ {X : Type 0} (node : X → ℕ) (p : List ℕ) where
  pub owners_none : (es : List (List ℕ × X)) (os : Owners) → lookup_key (begins p) es ≡ None → owners_less node p es os ≡ os
  owners_none [] os e = refl
  owners_none (x ∷ xs) os e = by_test (begins p x.0) e (owners_none xs)
    where
      by_test : (b : Bool) → cond b (Some x.0) (lookup_key (begins p) xs) ≡ None → ((ps : Owners) → lookup_key (begins p) xs ≡ None → owners_less node p xs ps ≡ ps)
          → owners_less node p xs (cond b (remove_entry (is_at (nat_cmp (node x.1))) os) os) ≡ os
      by_test true h more = absurd (cc)
      by_test false h more = more os h

  pub owners_taken : (q : List ℕ) (v : X) (es : List (List ℕ × X)) (os : Owners) → lookup_key (begins p) es ≡ Some q → lookup (is_path q) es ≡ Some v
      → owners_less node p (remove_entry (is_path q) es) (remove_entry (is_at (nat_cmp (node v))) os) ≡ owners_less node p es os
  owners_taken q v [] os e there = absurd (cc)
  owners_taken q v (x ∷ xs) os e there = by_test (begins p x.0) refl e (owners_taken q v xs)
    where
      abbreviated : Bool → List (List ℕ × X)
      abbreviated b = cond b xs (x ∷ remove_entry (is_path q) xs)

      less : List (List ℕ × X) → Owners → Owners
      less es ps = owners_less node p es ps

      without : X → Owners
      without w = remove_entry (is_at (nat_cmp (node w))) os

      by_test : (b : Bool) → begins p x.0 ≡ b → cond b (Some x.0) (lookup_key (begins p) xs) ≡ Some q
          → ((ps : Owners) → lookup_key (begins p) xs ≡ Some q → lookup (is_path q) xs ≡ Some v → owners_less node p (remove_entry (is_path q) xs) (remove_entry (is_at (nat_cmp (node v))) ps) ≡ owners_less node p xs ps)
          → owners_less node p (remove_entry (is_path q) (x ∷ xs)) (without v) ≡ owners_less node p (x ∷ xs) os
      by_test true is h more =
          let same : x.0 ≡ q = cc in
          let here : is_path q x.0 ≡ true = ap (is_path q) same ∙ same_path q in
          let two : Some x.1 ≡ Some v = sym (ap (λ (b : Bool). cond b (Some x.1) (lookup (is_path q) xs)) here) ∙ there in
          let one : v ≡ x.1 = cc in
          ap (λ (b : Bool). less (abbreviated b) (without v)) here
          ∙ (ap (λ (w : X). less xs (without w)) one ∙ sym (ap (λ (b : Bool). less xs (cond b (without x.1) os)) is))
      by_test false is h more =
          let passes_q : begins p q ≡ true = passes X path_cmp path_is same_path (begins p) q xs h in
          let off : is_path q x.0 ≡ false = other_path q x.0 (λ e. let two : true ≡ false = sym passes_q ∙ (ap (begins p) e ∙ is) in cc) in
          let later : lookup (is_path q) xs ≡ Some v = sym (ap (λ (b : Bool). cond b (Some x.1) (lookup (is_path q) xs)) off) ∙ there in
          ap (λ (b : Bool). less (abbreviated b) (without v)) off
          ∙ (ap (λ (b : Bool). less (remove_entry (is_path q) xs) (cond b (remove_entry (is_at (nat_cmp (node x.1))) (without v)) (without v))) is
          ∙ (more os h later ∙ sym (ap (λ (b : Bool). less xs (cond b (without x.1) os)) is)))

-- one instance less
pub owners_step : {X : Type 0} (node : X → ℕ) (p q : List ℕ) (es left : List (List ℕ × X)) (os rest : Owners) → lookup_key (begins p) es ≡ Some q → left ≡ remove_entry (is_path q) es
    → MatchOption (lookup (is_path q) es) (rest ≡ os) (λ one. rest ≡ remove_entry (is_at (nat_cmp (node one))) os) → owners_less node p left rest ≡ owners_less node p es os
owners_step {X = X} node p q es left os rest first is told =
    let there = first_there X path_cmp path_is same_path (begins p) q es first in
    let gone : rest ≡ remove_entry (is_at (nat_cmp (node there.0))) os = subst (λ (o : Option X). MatchOption o (rest ≡ os) (λ one. rest ≡ remove_entry (is_at (nat_cmp (node one))) os)) there.1 told in
    ap (λ (xs : List (List ℕ × X)). owners_less node p xs rest) is
    ∙ (ap (owners_less node p (remove_entry (is_path q) es)) gone ∙ owners_taken node p q there.0 es os first there.1)
