-- The filter `orderBy` (API: `orderBy`): a stable sort by the members at dotted paths.
use Rattle.std.specs.Prelude.{ℕ, ℤ, pos, Bool, true, false, not, List, [], ◌∷◌, ◌++◌, map, Option, Some, None, Result, Ok, Err, ◌==◌, ◌&&◌, if◌then◌else◌}
use Rattle.std.specs.List.{list_all}
use Rattle.std.specs.Ordering.{nat_cmp, int_cmp, on, then_cmp, flip_args, is_lt, ordering_then}
use Rattle.std.specs.Cmp.Lexicographic.{slice_cmp}
use Rattle.std.specs.declared.cmp.Ordering.{Ordering}
use Rattle.std.specs.declared.cmp.Ordering.TheVariants.{Less, Equal, Greater}
use Rattle.ng_base.specs.Codes.{plus_sign, hyphen, full_stop}
use Rattle.ng_base.specs.Meets.{◌>>=◌}
use Rattle.ng_base.specs.Objects.{Object}
use Rattle.ng_base.specs.Views.{ViewTree, prim, list, rec, views_from}
use Rattle.ng_base.specs.declared.value.Value.{Value}
use Rattle.ng_base.specs.declared.value.Value.TheVariants as value
use Rattle.ng_base.specs.declared.fault.Fault.{Fault}
use Rattle.ng_base.specs.declared.fault.Fault.TheVariants.{Syntax}
use Rattle.ng_language.specs.Letters.{begins_name, is_in_name}
use Rattle.ng_language.specs.Operators.{truthy}
use Rattle.ng_filters.specs.declared.view_ref.Shape.{Shape}
use Rattle.ng_filters.specs.declared.view_ref.Shape.TheVariants as shapes
use Rattle.ng_filters.specs.declared.predicates.Predicate.{Predicate}
use Rattle.ng_filters.specs.declared.keys.Key.{Key}
use Rattle.ng_filters.specs.Casing.{lower}
use Rattle.ng_filters.specs.Parts.{shape_of, items, member_at}

abbrev pub is_name : List ℕ → Bool
is_name [] = false
is_name (c ∷ cs) = begins_name c && list_all is_in_name cs

-- the parts of a path between its points, behind the characters of one that was begun
abbrev pub parts_in : List ℕ → List ℕ → List (List ℕ)
parts_in part [] = part ∷ []
parts_in part (c ∷ cs) = if c == full_stop then part ∷ parts_in [] cs else parts_in (part ++ c ∷ []) cs

abbrev pub if_names : List (List ℕ) → Result (List (List ℕ)) Fault
if_names parts = if list_all is_name parts then Ok parts else Err Syntax

-- names between points, or nothing at all
abbrev pub path_in : List ℕ → Result (List (List ℕ)) Fault
path_in [] = Ok []
path_in (c ∷ cs) = if_names (parts_in [] (c ∷ cs))

abbrev pub with_path : Bool → List ℕ → Result Predicate Fault
with_path falling t = path_in t >>= λ path. Ok (record { falling = falling; path = path })

-- a sign, of which `-` is for falling, and a path
abbrev pub predicate_in : List ℕ → Result Predicate Fault
predicate_in [] = with_path false []
predicate_in (c ∷ cs) = if c == plus_sign then with_path false cs else (if c == hyphen then with_path true cs else with_path false (c ∷ cs))

-- what is no text stands for the item itself
abbrev pub predicate_of : ViewTree → Result Predicate Fault
predicate_of (prim (value.Text t)) = predicate_in t
predicate_of t = with_path false []

-- the predicates of an array, behind those that were read
abbrev pub predicates_from : List Predicate → List ViewTree → Result (List Predicate) Fault
predicates_from done [] = Ok done
predicates_from done (t ∷ ts) = predicate_of t >>= λ p. predicates_from (done ++ p ∷ []) ts

abbrev pub only_predicate : ViewTree → Result (List Predicate) Fault
only_predicate t = predicate_of t >>= λ p. Ok (p ∷ [])

abbrev pub listed_predicates : ViewTree → List ViewTree → Result (List Predicate) Fault
listed_predicates t [] = only_predicate t
listed_predicates t (u ∷ us) = predicates_from [] (u ∷ us)

abbrev pub predicates_by : Shape → List Object → ViewTree → Result (List Predicate) Fault
predicates_by shapes.Items objects t = listed_predicates t (items objects t)
predicates_by s objects t = only_predicate t

-- one predicate, or those of an array
abbrev pub predicates : List Object → ViewTree → Result (List Predicate) Fault
predicates objects t = predicates_by (shape_of objects t) objects t

abbrev pub key : ℕ → ℤ → List ℕ → Key
key rank number text = record { rank = rank; number = number; text = text }

-- what a value is ordered by: the rank of its type, and then its number or its text in lower case. False is before
-- true, NaN after every number, and objects are equal
abbrev pub key_of : ViewTree → Key
key_of (prim (value.Bool b)) = key 0 (if b then pos 1 else pos 0) []
key_of (prim (value.Fun f)) = key 1 (pos 0) []
key_of (prim (value.Int n)) = key 2 n []
key_of (prim value.Nan) = key 3 (pos 0) []
key_of (prim (value.Obj o)) = key 4 (pos 0) []
key_of (prim (value.Text t)) = key 5 (pos 0) (lower t)
key_of (prim value.Null) = key 6 (pos 0) []
key_of (prim value.Undefined) = key 7 (pos 0) []
key_of (list ts) = key 4 (pos 0) []
key_of (rec fs) = key 4 (pos 0) []

-- keys in order: by rank, by number, by the characters of the text
abbrev pub key_cmp : Key → Key → Ordering
key_cmp = then_cmp (on (λ k. k.rank) nat_cmp) (then_cmp (on (λ k. k.number) int_cmp) (on (λ k. k.text) (slice_cmp nat_cmp)))

abbrev pub turned : {A : Type 0} → Bool → (A → A → Ordering) → A → A → Ordering
turned true order = flip_args order
turned false order = order

-- falling where either the predicate or the whole call is turned round, and rising where both are
abbrev pub differ : Bool → Bool → Bool
differ true b = not b
differ false b = b

abbrev pub key_at : List Object → Predicate → ViewTree → Key
key_at objects p t = key_of (member_at objects t p.path)

-- items in order by one predicate
abbrev pub by_predicate : List Object → Bool → Predicate → ViewTree → ViewTree → Ordering
by_predicate objects reversed p = turned (differ reversed p.falling) (on (key_at objects p) key_cmp)

-- and by several: the first that tells two items apart decides
abbrev pub by_predicates : List Object → Bool → List Predicate → ViewTree → ViewTree → Ordering
by_predicates objects reversed [] t u = Equal
by_predicates objects reversed (p ∷ ps) t u = ordering_then (by_predicate objects reversed p t u) (by_predicates objects reversed ps t u)

-- what an item is ordered by, predicate by predicate, and two items by what they are ordered by
abbrev pub keys_at : List Object → List Predicate → ViewTree → List Key
keys_at objects ps t = map (λ p. key_at objects p t) ps

abbrev pub keys_cmp : Bool → List Predicate → List Key → List Key → Ordering
keys_cmp reversed [] ks ls = Equal
keys_cmp reversed (p ∷ ps) [] [] = Equal
keys_cmp reversed (p ∷ ps) [] (l ∷ ls) = Less
keys_cmp reversed (p ∷ ps) (k ∷ ks) [] = Greater
keys_cmp reversed (p ∷ ps) (k ∷ ks) (l ∷ ls) = ordering_then (turned (differ reversed p.falling) key_cmp k l) (keys_cmp reversed ps ks ls)

-- an item put in front of the first of a sorted list that is not before it
abbrev pub put_in : {A : Type 0} → (A → A → Bool) → A → List A → List A
put_in before x [] = x ∷ []
put_in before x (y ∷ ys) = if before y x then y ∷ put_in before x ys else x ∷ (y ∷ ys)

-- a list in order, where items of which neither is before the other keep their places
abbrev pub in_order : {A : Type 0} → (A → A → Bool) → List A → List A
in_order before [] = []
in_order before (x ∷ xs) = put_in before x (in_order before xs)

-- whether an item is before another
abbrev pub is_before : List Object → Bool → List Predicate → ViewTree → ViewTree → Bool
is_before objects reversed ps t u = is_lt (by_predicates objects reversed ps t u)

abbrev pub ordered_by : Shape → List Object → ViewTree → ViewTree → ViewTree → Result ViewTree Fault
ordered_by shapes.Items objects t p reversed = predicates objects p >>= λ ps. Ok (list (views_from (in_order (is_before objects (truthy reversed) ps) (items objects t))))
ordered_by s objects t p reversed = Ok t

-- of an array the items in order; other input itself
abbrev pub ordered : List Object → ViewTree → ViewTree → ViewTree → Result ViewTree Fault
ordered objects t p reversed = ordered_by (shape_of objects t) objects t p reversed
