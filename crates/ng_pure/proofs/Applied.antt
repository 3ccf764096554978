-- A filter on a value, and on the view that the value shows.
use Rattle.std.proofs.Common.{◌≡◌, ℕ, Bool, true, false, List, [], ◌∷◌, length, refl, sym, subst, bytes_eq, codes, true≢false}
use Rattle.std.proofs.lemmas.Slice.Eq.{bytes_eq-Decides}
use Rattle.ng_base.specs.Objects.{Object}
use Rattle.ng_base.specs.Views.{ViewTree, views_from}
use Rattle.ng_filters.specs.Applied.{first_of, second_of}
use Rattle.ng_filters.specs.Casing.{uppercase, lowercase}
use Rattle.ng_filters.specs.Numbers.{number}
use Rattle.ng_evaluation.specs.Applied.{known, applied}
use Rattle.ng_pure.specs.Patterns.{HasShortLists}
use Rattle.ng_pure.proofs.Shown.{Grown, Seen, AllSeen}
use Rattle.ng_pure.proofs.Methods.{GivenResult, given_seen}
use Rattle.ng_pure.proofs.Filters.{upper_seen, lower_seen, number_seen, limited_given}
use Rattle.ng_pure.proofs.Orders.{ordered_given}
use Rattle.ng_pure.proofs.Matching.{filtered_given}
use Rattle.ng_pure.proofs.Json.{json_given}

first_seen : (n from : ℕ) (now : List Object) (us ts : List ViewTree) → AllSeen n from now us ts → Seen n from now (first_of (views_from us)) (first_of (views_from ts))
first_seen n from now [] [] s = (refl, tt)
first_seen n from now [] (t ∷ ts) s = absurd s
first_seen n from now (u ∷ us) [] s = absurd s
first_seen n from now (u ∷ us) (t ∷ ts) s = s.0

second_seen : (n from : ℕ) (now : List Object) (us ts : List ViewTree) → AllSeen n from now us ts → Seen n from now (second_of (views_from us)) (second_of (views_from ts))
second_seen n from now [] [] s = (refl, tt)
second_seen n from now [] (t ∷ ts) s = absurd s
second_seen n from now (u ∷ us) [] s = absurd s
second_seen n from now (u ∷ us) (t ∷ ts) s = first_seen n from now us ts s.1

pub applied_given : (from : ℕ) (before now : List Object) (name : List ℕ) → Grown before now → (k : ℕ) → known name k ≡ true → (u t : ViewTree) (us ts : List ViewTree) → (bytes_eq name (codes "filter") ≡ true → HasShortLists (first_of (views_from ts))) → Seen (length before) from now u t → AllSeen (length before) from now us ts
    → GivenResult (length before) from now (applied now name u (views_from us)) (applied before name t (views_from ts))
unfolding applied known
applied_given from before now name g k h u t us ts pattern s r = one (bytes_eq name (codes "uppercase")) refl
  where
    n : ℕ
    n = length before

    Goal : List ℕ → Type 0
    Goal m = GivenResult n from now (applied now m u (views_from us)) (applied before m t (views_from ts))

    first : Seen n from now (first_of (views_from us)) (first_of (views_from ts))
    first = first_seen n from now us ts r

    second : Seen n from now (second_of (views_from us)) (second_of (views_from ts))
    second = second_seen n from now us ts r

    at_word : (word : List ℕ) → bytes_eq name word ≡ true → Goal word → Goal name
    at_word word e p = subst Goal (sym ((bytes_eq-Decides name word).0 e)) p

    one : (b : Bool) → bytes_eq name (codes "uppercase") ≡ b → Goal name
    one true e = at_word (codes "uppercase") e (given_seen n from now (uppercase u) (uppercase t) (upper_seen n from now u t s))
    one false e = two (bytes_eq name (codes "lowercase")) refl
      where
        two : (b : Bool) → bytes_eq name (codes "lowercase") ≡ b → Goal name
        two true e2 = at_word (codes "lowercase") e2 (given_seen n from now (lowercase u) (lowercase t) (lower_seen n from now u t s))
        two false e2 = three (bytes_eq name (codes "number")) refl
          where
            three : (b : Bool) → bytes_eq name (codes "number") ≡ b → Goal name
            three true e3 =
                at_word (codes "number") e3
                (given_seen n from now (number u (first_of (views_from us))) (number t (first_of (views_from ts))) (number_seen n from now u t (first_of (views_from us)) (first_of (views_from ts)) s first))
            three false e3 = four (bytes_eq name (codes "json")) refl
              where
                four : (b : Bool) → bytes_eq name (codes "json") ≡ b → Goal name
                four true e4 = at_word (codes "json") e4 (json_given from before now g u t (first_of (views_from us)) (first_of (views_from ts)) s first)
                four false e4 = five (bytes_eq name (codes "limitTo")) refl
                  where
                    five : (b : Bool) → bytes_eq name (codes "limitTo") ≡ b → Goal name
                    five true e5 =
                        at_word (codes "limitTo") e5
                        (limited_given from before now g u t (first_of (views_from us)) (first_of (views_from ts)) (second_of (views_from us)) (second_of (views_from ts)) s first second)
                    five false e5 = six (bytes_eq name (codes "filter")) refl
                      where
                        six : (b : Bool) → bytes_eq name (codes "filter") ≡ b → Goal name
                        six true e6 = at_word (codes "filter") e6 (filtered_given from before now g u t (first_of (views_from us)) (first_of (views_from ts)) (pattern e6) s first)
                        six false e6 = last (bytes_eq name (codes "orderBy")) refl
                          where
                            last : (b : Bool) → bytes_eq name (codes "orderBy") ≡ b → Goal name
                            last true e7 =
                                at_word (codes "orderBy") e7
                                (ordered_given from before now g u t (first_of (views_from us)) (first_of (views_from ts)) (second_of (views_from us)) (second_of (views_from ts)) s first second)
                            last false e7 = absurd (true≢false (sym (rw (e, e2, e3, e4, e5, e6, e7) at h)))
