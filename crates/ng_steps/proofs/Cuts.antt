-- The steps of a linking that find room, one after another.
use Rattle.std.proofs.Common.{◌≡◌, ◌∙◌, ◌<◌, ◌+◌, ◌++◌, ℕ, zero, suc, List, [], ◌∷◌, Option, Some, refl, ap, drop, take, sym, map, get_or, length, arith}
use Rattle.std.proofs.lemmas.List.{append-nil}
use Rattle.ng_base.specs.declared.fault.Fault.{Fault}
use Rattle.ng_base.specs.declared.fault.Fault.TheVariants.{NodeLimit, Depth}
use Rattle.ng_changes.proofs.Answered.{dropped}
use Rattle.ng_build.specs.Linking.{LinkStep, makes, stops, fault_in, steps_within}
use Rattle.ng_build.specs.StepOf.{step_of}
use Rattle.ng_build.specs.declared.ordering.LinkStep as code
use Rattle.ng_build.specs.declared.ordering.LinkStep.TheVariants as variants

-- a step that makes no node, and at which linking doesn't stop, is done
pub passed_steps : (room : ℕ) (x : code.LinkStep) (xs : List LinkStep) → (x ≡ variants.Makes → ⊥) → (x ≡ variants.Stops → ⊥) → steps_within room (step_of x ∷ xs) ≡ step_of x ∷ steps_within room xs
passed_steps room variants.Makes xs m s = absurd (m refl)
passed_steps room variants.Stops xs m s = absurd (s refl)
passed_steps zero (variants.Opens a) xs m s = refl
passed_steps (suc room) (variants.Opens a) xs m s = refl
passed_steps zero (variants.Binds a b c) xs m s = refl
passed_steps (suc room) (variants.Binds a b c) xs m s = refl
passed_steps zero (variants.Installs a b) xs m s = refl
passed_steps (suc room) (variants.Installs a b) xs m s = refl
passed_steps zero (variants.Starts a b) xs m s = refl
passed_steps (suc room) (variants.Starts a b) xs m s = refl
passed_steps zero (variants.StartsAt a b) xs m s = refl
passed_steps (suc room) (variants.StartsAt a b) xs m s = refl
passed_steps zero variants.Registers xs m s = refl
passed_steps (suc room) variants.Registers xs m s = refl
passed_steps zero (variants.Leaves a b) xs m s = refl
passed_steps (suc room) (variants.Leaves a b) xs m s = refl

pub passed_fault : (room : ℕ) (x : code.LinkStep) (xs : List LinkStep) → (x ≡ variants.Makes → ⊥) → (x ≡ variants.Stops → ⊥) → fault_in room (step_of x ∷ xs) ≡ fault_in room xs
passed_fault room variants.Makes xs m s = absurd (m refl)
passed_fault room variants.Stops xs m s = absurd (s refl)
passed_fault zero (variants.Opens a) xs m s = refl
passed_fault (suc room) (variants.Opens a) xs m s = refl
passed_fault zero (variants.Binds a b c) xs m s = refl
passed_fault (suc room) (variants.Binds a b c) xs m s = refl
passed_fault zero (variants.Installs a b) xs m s = refl
passed_fault (suc room) (variants.Installs a b) xs m s = refl
passed_fault zero (variants.Starts a b) xs m s = refl
passed_fault (suc room) (variants.Starts a b) xs m s = refl
passed_fault zero (variants.StartsAt a b) xs m s = refl
passed_fault (suc room) (variants.StartsAt a b) xs m s = refl
passed_fault zero variants.Registers xs m s = refl
passed_fault (suc room) variants.Registers xs m s = refl
passed_fault zero (variants.Leaves a b) xs m s = refl
passed_fault (suc room) (variants.Leaves a b) xs m s = refl

-- a step after so many
taken : (xs : List code.LinkStep) (k : ℕ) (x : code.LinkStep) (ys : List LinkStep) → k < length xs → x ≡ get_or xs k x → map step_of (take (suc k) xs) ++ ys ≡ map step_of (take k xs) ++ step_of x ∷ ys
taken [] k x ys l e = absurd (omega (arith, l))
taken (y ∷ xs) zero x ys l e = ap (λ (z : code.LinkStep). step_of z ∷ ys) (sym e)
taken (y ∷ xs) (suc k) x ys l e = ap (λ (zs : List LinkStep). step_of y ∷ zs) (taken xs k x ys (omega (arith, l)) e)

module _ (items : List code.LinkStep) (i left : ℕ) (x : code.LinkStep) (lt : i < length items) (is : x ≡ get_or items i x) where
  next : suc i ≡ i + 1
  next = omega arith

  first : map step_of (drop i items) ≡ step_of x ∷ map step_of (drop (i + 1) items)
  first = ap (map step_of) (dropped items i x lt is)

  -- before a step that is not done
  pub cut_steps : (all : List LinkStep) → steps_within left (step_of x ∷ map step_of (drop (i + 1) items)) ≡ [] → map step_of (take i items) ++ steps_within left (map step_of (drop i items)) ≡ all → map step_of (take i items) ≡ all
  cut_steps all none so_far = sym (append-nil (map step_of (take i items))) ∙ (ap (λ (zs : List LinkStep). map step_of (take i items) ++ zs) (sym (ap (steps_within left) first ∙ none)) ∙ so_far)

  pub cut_fault : (f : Fault) (all : Option Fault) → fault_in left (step_of x ∷ map step_of (drop (i + 1) items)) ≡ Some f → fault_in left (map step_of (drop i items)) ≡ all → Some f ≡ all
  cut_fault f all met so_far = sym (ap (fault_in left) first ∙ met) ∙ so_far

  -- behind a step that is done
  pub turn_steps : (n : ℕ) (all : List LinkStep) → steps_within left (step_of x ∷ map step_of (drop (i + 1) items)) ≡ step_of x ∷ steps_within n (map step_of (drop (i + 1) items))
      → map step_of (take i items) ++ steps_within left (map step_of (drop i items)) ≡ all → map step_of (take (i + 1) items) ++ steps_within n (map step_of (drop (i + 1) items)) ≡ all
  turn_steps n all goes so_far =
      ap (λ (k : ℕ). map step_of (take k items) ++ steps_within n (map step_of (drop (i + 1) items))) (sym next)
      ∙ (taken items i x (steps_within n (map step_of (drop (i + 1) items))) lt is
      ∙ (ap (λ (zs : List LinkStep). map step_of (take i items) ++ zs) (sym (ap (steps_within left) first ∙ goes)) ∙ so_far))

  pub turn_fault : (n : ℕ) (all : Option Fault) → fault_in left (step_of x ∷ map step_of (drop (i + 1) items)) ≡ fault_in n (map step_of (drop (i + 1) items)) → fault_in left (map step_of (drop i items)) ≡ all → fault_in n (map step_of (drop (i + 1) items)) ≡ all
  turn_fault n all goes so_far = sym (ap (fault_in left) first ∙ goes) ∙ so_far

-- a node more
pub full_steps : (left : ℕ) (x : code.LinkStep) (xs : List LinkStep) → x ≡ variants.Makes → left ≡ 0 → steps_within left (step_of x ∷ xs) ≡ []
full_steps left x xs e z = ap (λ (y : code.LinkStep). steps_within left (step_of y ∷ xs)) e ∙ ap (λ (k : ℕ). steps_within k (makes ∷ xs)) z

pub full_fault : (left : ℕ) (x : code.LinkStep) (xs : List LinkStep) → x ≡ variants.Makes → left ≡ 0 → fault_in left (step_of x ∷ xs) ≡ Some NodeLimit
full_fault left x xs e z = ap (λ (y : code.LinkStep). fault_in left (step_of y ∷ xs)) e ∙ ap (λ (k : ℕ). fault_in k (makes ∷ xs)) z

pub made_steps : (left n : ℕ) (x : code.LinkStep) (xs : List LinkStep) → x ≡ variants.Makes → left ≡ suc n → steps_within left (step_of x ∷ xs) ≡ step_of x ∷ steps_within n xs
made_steps left n x xs e z =
    ap (λ (y : code.LinkStep). steps_within left (step_of y ∷ xs)) e ∙ (ap (λ (k : ℕ). steps_within k (makes ∷ xs)) z ∙ sym (ap (λ (y : code.LinkStep). step_of y ∷ steps_within n xs) e))

pub made_fault : (left n : ℕ) (x : code.LinkStep) (xs : List LinkStep) → x ≡ variants.Makes → left ≡ suc n → fault_in left (step_of x ∷ xs) ≡ fault_in n xs
made_fault left n x xs e z = ap (λ (y : code.LinkStep). fault_in left (step_of y ∷ xs)) e ∙ ap (λ (k : ℕ). fault_in k (makes ∷ xs)) z

stopped_none : (left : ℕ) (xs : List LinkStep) → steps_within left (stops ∷ xs) ≡ []
stopped_none zero xs = refl
stopped_none (suc n) xs = refl

stopped_depth : (left : ℕ) (xs : List LinkStep) → fault_in left (stops ∷ xs) ≡ Some Depth
stopped_depth zero xs = refl
stopped_depth (suc n) xs = refl

pub stopped_steps : (left : ℕ) (x : code.LinkStep) (xs : List LinkStep) → x ≡ variants.Stops → steps_within left (step_of x ∷ xs) ≡ []
stopped_steps left x xs e = ap (λ (y : code.LinkStep). steps_within left (step_of y ∷ xs)) e ∙ stopped_none left xs

pub stopped_fault : (left : ℕ) (x : code.LinkStep) (xs : List LinkStep) → x ≡ variants.Stops → fault_in left (step_of x ∷ xs) ≡ Some Depth
stopped_fault left x xs e = ap (λ (y : code.LinkStep). fault_in left (step_of y ∷ xs)) e ∙ stopped_depth left xs
