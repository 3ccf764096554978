-- The operators over values, and over the views that these show.
use Rattle.std.proofs.Common.{◌≡◌, ◌∙◌, ◌≤◌, ℕ, ℤ, Bool, true, false, not, List, length, refl, sym, ap, subst, arith, Option, Some, None, if◌then◌else◌, pos, ◌+ℤ◌, ◌++◌}
use Rattle.std.specs.Prelude.{Result, Ok, Err}
use Rattle.ng_base.specs.Meets.{◌>>=◌}
use Rattle.ng_base.specs.Objects.{Object}
use Rattle.ng_base.specs.Views.{ViewTree, prim}
use Rattle.ng_base.specs.declared.value.Value.{Value}
use Rattle.ng_base.specs.declared.value.Value.TheVariants as value
use Rattle.ng_base.specs.declared.fault.Fault.{Fault}
use Rattle.ng_base.specs.declared.fault.Fault.TheVariants.{Range}
use Rattle.ng_language.specs.Numbers.{is_in_range}
use Rattle.ng_language.specs.Operators.{in_range, of_numbers, sum, difference, product, quotient, remainder, view_num, term_num, truthy, less, loose_eq, strict_eq}
use Rattle.ng_language.specs.Sums.{add, joined, add_defined, as_view, is_undefined, is_joined}
use Rattle.ng_language.specs.Texts.{to_text}
use Rattle.ng_language.specs.declared.syntax.Unary.{Unary}
use Rattle.ng_language.specs.declared.syntax.Unary.TheVariants as unaries
use Rattle.ng_language.specs.declared.syntax.Binary.{Binary}
use Rattle.ng_language.specs.declared.syntax.Binary.TheVariants as binaries
use Rattle.ng_members.specs.Leaves.{sign_value, operator_value, truth}
use Rattle.ng_members.proofs.Stand.{Numeric, mul_stands, sub_stands, div_stands, rem_stands}
use Rattle.ng_write.specs.Reading.{Extends}
use Rattle.ng_pure.proofs.Shown.{Grown, Seen, seen_on}
use Rattle.ng_pure.proofs.Alike.{truthy_same, num_same, term_same, undefined_same, joined_same, less_same}
use Rattle.ng_pure.proofs.Equal.{strict_seen, loose_seen}
use Rattle.ng_pure.proofs.Texts.{text_same}
use Rattle.ng_pure.proofs.Members.{SeenResult, result_then, chosen_result}

numbers_seen : (n from : ℕ) (now : List Object) (r : Result Value Fault) → Numeric r → SeenResult n from now (as_view r) (as_view r)
numbers_seen n from now (Ok v) h = (refl, h n v refl)
numbers_seen n from now (Err e) h = refl

-- an operator over numbers
of_same : (n from : ℕ) (now : List Object) (f : ℤ → ℤ → Result Value Fault) (x y z w : Option ℤ) → x ≡ y → z ≡ w → Numeric (of_numbers f y w) → SeenResult n from now (as_view (of_numbers f x z)) (as_view (of_numbers f y w))
of_same n from now f x y z w e d h =
    subst (λ r. SeenResult n from now (as_view r) (as_view (of_numbers f y w))) (sym (ap (λ a. of_numbers f a z) e ∙ ap (λ b. of_numbers f y b) d)) (numbers_seen n from now (of_numbers f y w) h)

truth_same : (n from : ℕ) (now : List Object) (a b : Bool) → a ≡ b → SeenResult n from now (truth a) (truth b)
truth_same n from now a b e = subst (λ c. SeenResult n from now (truth c) (truth b)) (sym e) (refl, tt)

-- a whole number
pub whole_seen : (n from : ℕ) (now : List Object) (i : ℤ) → SeenResult n from now (as_view (in_range i)) (as_view (in_range i))
whole_seen n from now i = by (is_in_range i)
  where
    by : (c : Bool) → SeenResult n from now (as_view (if c then Ok (value.Int i) else Err Range)) (as_view (if c then Ok (value.Int i) else Err Range))
    by true = (refl, tt)
    by false = refl

sum_seen : (n from : ℕ) (now : List Object) (x y : Option ℤ) → SeenResult n from now (as_view (of_numbers sum x y)) (as_view (of_numbers sum x y))
sum_seen n from now (Some a) (Some b) = whole_seen n from now (a +ℤ b)
sum_seen n from now (Some a) None = (refl, tt)
sum_seen n from now None y = (refl, tt)

add_seen : (from : ℕ) (before now : List Object) → Grown before now → (v w t u : ViewTree) → Seen (length before) from now v t → Seen (length before) from now w u → SeenResult (length before) from now (add now v w) (add before t u)
add_seen from before now g v w t u s r =
    let n = length before in
    let texts : SeenResult n from now (joined now v w) (joined before t u) =
    result_then n from now (to_text now v) (to_text before t) (λ a. to_text now w >>= λ b. Ok (prim (value.Text (a ++ b)))) (λ a. to_text before u >>= λ b. Ok (prim (value.Text (a ++ b))))
    (text_same from before now g v t s)
    (λ a. result_then n from now (to_text now w) (to_text before u) (λ b. Ok (prim (value.Text (a ++ b)))) (λ b. Ok (prim (value.Text (a ++ b)))) (text_same from before now g w u r) (λ b. (refl, tt))) in
    let numbers : SeenResult n from now (as_view (of_numbers sum (view_num v) (view_num w))) (as_view (of_numbers sum (view_num t) (view_num u))) =
    subst (λ x. SeenResult n from now (as_view x) (as_view (of_numbers sum (view_num t) (view_num u)))) (sym (ap (λ a. of_numbers sum a (view_num w)) (num_same n from now v t s) ∙ ap (λ b. of_numbers sum (view_num t) b) (num_same n from now w u r)))
    (sum_seen n from now (view_num t) (view_num u)) in
    let defined : SeenResult n from now (add_defined now v w) (add_defined before t u) =
    chosen_result n from now (is_joined v) (is_joined t) (joined now v w) (if is_joined w then joined now v w else as_view (of_numbers sum (view_num v) (view_num w))) (joined before t u) (if is_joined u then joined before t u else as_view (of_numbers sum (view_num t) (view_num u)))
    (joined_same n from now v t s) texts
    (chosen_result n from now (is_joined w) (is_joined u) (joined now v w) (as_view (of_numbers sum (view_num v) (view_num w))) (joined before t u) (as_view (of_numbers sum (view_num t) (view_num u))) (joined_same n from now w u r) texts numbers) in
    chosen_result n from now (is_undefined v) (is_undefined t) (Ok w) (if is_undefined w then Ok v else add_defined now v w) (Ok u) (if is_undefined u then Ok t else add_defined before t u)
    (undefined_same n from now v t s) r
    (chosen_result n from now (is_undefined w) (is_undefined u) (Ok v) (add_defined now v w) (Ok t) (add_defined before t u) (undefined_same n from now w u r) s defined)

pub sign_seen : (n from : ℕ) (now : List Object) (o : Unary) (v t : ViewTree) → Seen n from now v t → SeenResult n from now (sign_value o v) (sign_value o t)
unfolding sign_value
sign_seen n from now unaries.Plus v t s = of_same n from now difference (term_num v) (term_num t) (Some (pos 0)) (Some (pos 0)) (term_same n from now v t s) refl (sub_stands t (prim (value.Int (pos 0))))
sign_seen n from now unaries.Minus v t s = of_same n from now difference (Some (pos 0)) (Some (pos 0)) (term_num v) (term_num t) refl (term_same n from now v t s) (sub_stands (prim (value.Int (pos 0))) t)
sign_seen n from now unaries.Not v t s = truth_same n from now (not (truthy v)) (not (truthy t)) (ap not (truthy_same n from now v t s))

-- The right side was evaluated where the objects of the left one stood already.
pub operator_seen : (from to : ℕ) (before mid now : List Object) → Grown before now → Extends mid now → length before ≤ from → from ≤ to → length mid ≤ to → (o : Binary) (v w t u : ViewTree)
    → Seen (length before) from mid v t → Seen (length before) to now w u → SeenResult (length before) from now (operator_value now o v w) (operator_value before o t u)
unfolding operator_value
operator_seen from to before mid now g k a b c o v w t u s r =
    by o
  where
    n : ℕ
    n = length before

    x : Seen n from now v t
    x = seen_on n from from mid now k (omega arith) v t s

    y : Seen n from now w u
    y = seen_on n to from now now (record { no_fewer = omega arith; unchanged = λ q h. refl }) (omega arith) w u r

    nums : (f : ℤ → ℤ → Result Value Fault) → Numeric (of_numbers f (view_num t) (view_num u)) → SeenResult n from now (as_view (of_numbers f (view_num v) (view_num w))) (as_view (of_numbers f (view_num t) (view_num u)))
    nums f h = of_same n from now f (view_num v) (view_num t) (view_num w) (view_num u) (num_same n from now v t x) (num_same n from now w u y) h

    by : (o : Binary) → SeenResult n from now (operator_value now o v w) (operator_value before o t u)
    by binaries.Multiply = nums product (mul_stands t u)
    by binaries.Divide = nums quotient (div_stands t u)
    by binaries.Remainder = nums remainder (rem_stands t u)
    by binaries.Add = add_seen from before now g v w t u x y
    by binaries.Subtract = of_same n from now difference (term_num v) (term_num t) (term_num w) (term_num u) (term_same n from now v t x) (term_same n from now w u y) (sub_stands t u)
    by binaries.Less = truth_same n from now (less false v w) (less false t u) (less_same n from from now false v t w u x y)
    by binaries.Greater = truth_same n from now (less false w v) (less false u t) (less_same n from from now false w u v t y x)
    by binaries.AtMost = truth_same n from now (less true v w) (less true t u) (less_same n from from now true v t w u x y)
    by binaries.AtLeast = truth_same n from now (less true w v) (less true u t) (less_same n from from now true w u v t y x)
    by binaries.Equal = truth_same n from now (loose_eq v w) (loose_eq t u) (loose_seen n from to mid now (omega arith) (omega arith) c v w t u s r)
    by binaries.NotEqual = truth_same n from now (not (loose_eq v w)) (not (loose_eq t u)) (ap not (loose_seen n from to mid now (omega arith) (omega arith) c v w t u s r))
    by binaries.Same = truth_same n from now (strict_eq v w) (strict_eq t u) (strict_seen n from to mid now (omega arith) (omega arith) c v w t u s r)
    by binaries.NotSame = truth_same n from now (not (strict_eq v w)) (not (strict_eq t u)) (ap not (strict_seen n from to mid now (omega arith) (omega arith) c v w t u s r))
