-- The filter `filter` (API: `filter`): which items match a pattern.
use Rattle.std.specs.Prelude.{ℕ, zero, suc, Bool, true, false, not, List, [], ◌∷◌, ◌++◌, Option, Some, None, Result, Ok, Err, codes, ◌==◌, if◌then◌else◌}
use Rattle.std.specs.Str.{bytes_eq}
use Rattle.ng_base.specs.Codes.{exclamation_mark}
use Rattle.ng_base.specs.Meets.{◌>>=◌}
use Rattle.ng_base.specs.Objects.{Object}
use Rattle.ng_base.specs.Views.{ViewTree, prim, list, rec, views_from}
use Rattle.ng_base.specs.declared.value.Value.{Value}
use Rattle.ng_base.specs.declared.value.Value.TheVariants as value
use Rattle.ng_base.specs.declared.fault.Fault.{Fault}
use Rattle.ng_base.specs.declared.fault.Fault.TheVariants.{TooBig}
use Rattle.ng_language.specs.Texts.{text_of}
use Rattle.ng_language.specs.Unfolding.{Field, Spent, and_then, made, is_dollar, is_nothing}
use Rattle.ng_filters.specs.declared.view_ref.Shape.{Shape}
use Rattle.ng_filters.specs.declared.view_ref.Shape.TheVariants as shapes
use Rattle.ng_filters.specs.declared.primitives.Side.{Side}
use Rattle.ng_filters.specs.declared.primitives.Side.TheVariants as sides
use Rattle.ng_filters.specs.Casing.{lower}
use Rattle.ng_filters.specs.Parts.{shape_of, items, properties, property, member}

-- whether a text begins with a part, and whether it contains it
abbrev pub begins : List ℕ → List ℕ → Bool
begins cs [] = true
begins [] (d ∷ ds) = false
begins (c ∷ cs) (d ∷ ds) = if c == d then begins cs ds else false

abbrev pub contains : List ℕ → List ℕ → Bool
contains [] part = begins [] part
contains (c ∷ cs) part = if begins (c ∷ cs) part then true else contains cs part

-- what a value is where texts are compared: undefined, functions and objects never match
abbrev pub side_of : ViewTree → Side
side_of (prim value.Undefined) = sides.Never
side_of (prim value.Null) = sides.Null
side_of (prim (value.Obj o)) = sides.Never
side_of (prim (value.Fun f)) = sides.Never
side_of (prim v) = sides.Shown
side_of (list ts) = sides.Never
side_of (rec fs) = sides.Never

-- null matches only null, and else the one text contains the other, whatever the case of their letters
abbrev pub compared : Side → Side → List ℕ → List ℕ → Bool
compared sides.Never q text part = false
compared s sides.Never text part = false
compared sides.Null sides.Null text part = true
compared sides.Null q text part = false
compared s sides.Null text part = false
compared sides.Shown sides.Shown text part = contains (lower text) (lower part)

abbrev pub alone_matches : ViewTree → ViewTree → Bool
alone_matches t p = compared (side_of t) (side_of p) (text_of t) (text_of p)

-- what a match asks of others: a value, a pattern, whether any property will do, and how many may still be asked
abbrev pub Asked : Type 0
Asked = ViewTree → ViewTree → Bool → ℕ → Spent Bool

-- some item matches: up to the first that does
abbrev pub some_item : (ViewTree → ℕ → Spent Bool) → List ViewTree → ℕ → Spent Bool
some_item ask [] left = Ok (false, left)
some_item ask (t ∷ ts) left = and_then (ask t left) (λ found rest. if found then Ok (true, rest) else some_item ask ts rest)

-- some property matches whose name does not begin with `$`
abbrev pub some_property : (ViewTree → ℕ → Spent Bool) → List Field → ℕ → Spent Bool
some_property ask [] left = Ok (false, left)
some_property ask (f ∷ fs) left =
    if is_dollar f.0 then some_property ask fs left
    else and_then (ask f.1 left) (λ found rest. if found then Ok (true, rest) else some_property ask fs rest)

abbrev pub is_any : List ℕ → Bool
is_any name = bytes_eq name (codes "$")

-- what of a value is held against a property of a pattern: for `$` the value with its properties, and for any other
-- name its own value of that name
abbrev pub held : List Object → ViewTree → List ℕ → ViewTree
held objects t name = if is_any name then t else member objects t name

-- undefined and functions in a pattern are met by all, `$` by some property, and all else by the one value
abbrev pub held_matches : List Object → Asked → Bool → ViewTree → ViewTree → ℕ → Spent Bool
held_matches objects ask any u q left =
    if is_nothing q then Ok (true, left)
    else (if any then some_property (λ w. ask w q true) (properties objects u) left
    else ask u q false left)

-- a property of a pattern
abbrev pub property_matches : List Object → Asked → ViewTree → Field → ℕ → Spent Bool
property_matches objects ask t p left = held_matches objects ask (is_any p.0) (held objects t p.0) p.1 left

-- every property of a pattern matches: up to the first that does not
abbrev pub every_property : List Object → Asked → ViewTree → List Field → ℕ → Spent Bool
every_property objects ask t [] left = Ok (true, left)
every_property objects ask t (p ∷ ps) left =
    and_then (property_matches objects ask t p left) (λ found rest. if found then every_property objects ask t ps rest else Ok (false, rest))

-- an array is an object too where it stands as a pattern
abbrev pub is_object : Shape → Bool
is_object shapes.Items = true
is_object shapes.Names = true
is_object shapes.Function = false
is_object shapes.Primitive = false

-- an object where any property will do: some property, or else the object itself
abbrev pub any_matches : List Object → Asked → ViewTree → ViewTree → ℕ → Spent Bool
any_matches objects ask t p left =
    and_then (some_property (λ u. ask u p true) (properties objects t) left) (λ found rest. if found then Ok (true, rest) else ask t p false rest)

-- and else property by property, where the pattern has any
abbrev pub named_matches : List Object → Asked → ViewTree → ViewTree → ℕ → Spent Bool
named_matches objects ask t p left = if is_object (shape_of objects p) then every_property objects ask t (properties objects p) left else Ok (false, left)

abbrev pub object_matches : List Object → Asked → ViewTree → ViewTree → Bool → ℕ → Spent Bool
object_matches objects ask t p any left = if any then any_matches objects ask t p left else named_matches objects ask t p left

abbrev pub shape_matches : Shape → List Object → Asked → ViewTree → ViewTree → Bool → ℕ → Spent Bool
shape_matches shapes.Items objects ask t p any left = some_item (λ u. ask u p any) (items objects t) left
shape_matches shapes.Names objects ask t p any left = object_matches objects ask t p any left
shape_matches shapes.Function objects ask t p any left = Ok (false, left)
shape_matches shapes.Primitive objects ask t p any left = Ok (alone_matches t p, left)

-- the rest of a pattern that begins with `!`
abbrev pub negated_text : List ℕ → Option (List ℕ)
negated_text [] = None
negated_text (c ∷ cs) = if c == exclamation_mark then Some cs else None

abbrev pub negated : ViewTree → Option (List ℕ)
negated (prim (value.Text t)) = negated_text t
negated p = None

abbrev pub opposite : Spent Bool → Spent Bool
opposite r = and_then r (λ found left. Ok (not found, left))

-- one match: a pattern that begins with `!` asks for the opposite, and else the value's shape decides
abbrev pub match_by : Option (List ℕ) → List Object → Asked → ViewTree → ViewTree → Bool → ℕ → Spent Bool
match_by (Some rest) objects ask t p any left = opposite (ask t (prim (value.Text rest)) any left)
match_by None objects ask t p any left = shape_matches (shape_of objects t) objects ask t p any left

-- whether a value matches a pattern, through so many levels and so many matches, itself counted: TooBig where one more
-- is wanted
abbrev pub match_within : ℕ → List Object → ViewTree → ViewTree → Bool → ℕ → Spent Bool
match_within zero objects t p any left = Err TooBig
match_within (suc k) objects t p any zero = Err TooBig
match_within (suc k) objects t p any (suc left) = match_by (negated p) objects (match_within k objects) t p any left

-- 100 levels below the item, and 100,000 matches for an item, its own counted
unfoldable pub level_limit : ℕ
level_limit = 101

unfoldable pub match_limit : ℕ
match_limit = 100000

abbrev pub is_primitive : Shape → Bool
is_primitive shapes.Items = false
is_primitive shapes.Names = false
is_primitive shapes.Function = false
is_primitive shapes.Primitive = true

abbrev pub or_else : Option ViewTree → ViewTree → ViewTree
or_else None p = p
or_else (Some q) p = q

-- what an item is held against: a primitive against the property `$` of a pattern that has one
abbrev pub pattern_for : List Object → ViewTree → ViewTree → ViewTree
pattern_for objects p t = if is_primitive (shape_of objects t) then or_else (property objects p (codes "$")) p else p

-- whether an item stays: any property will do where the pattern is a primitive
abbrev pub item_matches : List Object → ViewTree → ViewTree → Result Bool Fault
item_matches objects p t = made (match_within level_limit objects t (pattern_for objects p t) (is_primitive (shape_of objects p)) match_limit)

abbrev pub kept_with : Bool → ViewTree → List ViewTree → List ViewTree
kept_with true t done = done ++ t ∷ []
kept_with false t done = done

-- the items that match, behind those that were found
abbrev pub matching_from : List Object → ViewTree → List ViewTree → List ViewTree → Result (List ViewTree) Fault
matching_from objects p done [] = Ok done
matching_from objects p done (t ∷ ts) = item_matches objects p t >>= λ found. matching_from objects p (kept_with found t done) ts

-- a pattern that is undefined or a function is matched by all
abbrev pub matching : List Object → ViewTree → List ViewTree → Result (List ViewTree) Fault
matching objects p ts = if is_nothing p then Ok ts else matching_from objects p [] ts

abbrev pub filtered_by : Shape → List Object → ViewTree → ViewTree → Result ViewTree Fault
filtered_by shapes.Items objects t p = matching objects p (items objects t) >>= λ ts. Ok (list (views_from ts))
filtered_by s objects t p = Ok t

-- of an array the items that match; other input itself
abbrev pub filtered : List Object → ViewTree → ViewTree → Result ViewTree Fault
filtered objects t p = filtered_by (shape_of objects t) objects t p
