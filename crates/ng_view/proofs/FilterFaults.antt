-- Which faults a filter can give: TooBig, and Syntax.
use Rattle.std.proofs.Common.{ℕ, zero, suc, List, [], ◌∷◌, ◌++◌, Bool, true, false, Option, Some, None}
use Rattle.std.specs.Prelude.{Ok, Err, IfErr, if◌then◌else◌, not, codes, ◌==◌}
use Rattle.std.specs.Str.{bytes_eq}
use Rattle.std.specs.List.{list_all}
use Rattle.ng_base.specs.Meets.{◌>>=◌}
use Rattle.ng_base.proofs.Binds.{if_held}
use Rattle.ng_base.specs.Objects.{Object, object_at, is_array}
use Rattle.ng_base.specs.Views.{ViewTree, ViewTrees, prim, list, rec, views_from}
use Rattle.ng_base.specs.declared.value.Value.TheVariants as value
use Rattle.ng_base.specs.declared.fault.Fault.{Fault}
use Rattle.ng_base.specs.declared.fault.Fault.TheVariants.{TooBig, Syntax}
use Rattle.ng_language.specs.Operators.{truthy}
use Rattle.ng_language.specs.Texts.{json_text}
use Rattle.ng_language.specs.Unfolding.{Field, Spent, and_then, is_dollar, is_nothing}
use Rattle.ng_filters.specs.Parts.{shape_of, items, properties}
use Rattle.ng_filters.specs.Numbers.{json, indent}
use Rattle.ng_filters.specs.Matching as matching
use Rattle.ng_filters.specs.Ordering as ordering
use Rattle.ng_filters.specs.Applied.{first_of, second_of, applied_if}
use Rattle.ng_evaluation.specs.Applied.{applied}
use Rattle.ng_members.proofs.Faults.{only_then, only_if, and_then_only, made_only, json_text_only}

module _ (Q : Fault → Type 0) (big : Q TooBig) where
  shown_only : (objects : List Object) (t spacing : ViewTree) → IfErr (json_text objects (indent spacing) t >>= λ s. Ok (prim (value.Text s))) Q
  shown_only objects t spacing = only_then Q (json_text objects (indent spacing) t) (λ s. Ok (prim (value.Text s))) (json_text_only Q big objects (indent spacing) t) (λ s. tt)

  json_only : (objects : List Object) (t spacing : ViewTree) → IfErr (json objects t spacing) Q
  json_only objects (prim value.Undefined) spacing = tt
  json_only objects (prim value.Null) spacing = shown_only objects (prim value.Null) spacing
  json_only objects (prim (value.Bool b)) spacing = shown_only objects (prim (value.Bool b)) spacing
  json_only objects (prim (value.Int n)) spacing = shown_only objects (prim (value.Int n)) spacing
  json_only objects (prim value.Nan) spacing = shown_only objects (prim value.Nan) spacing
  json_only objects (prim (value.Text t)) spacing = shown_only objects (prim (value.Text t)) spacing
  json_only objects (prim (value.Obj o)) spacing = shown_only objects (prim (value.Obj o)) spacing
  json_only objects (prim (value.Fun f)) spacing = shown_only objects (prim (value.Fun f)) spacing
  json_only objects (list ts) spacing = shown_only objects (list ts) spacing
  json_only objects (rec fs) spacing = shown_only objects (rec fs) spacing

  some_item_only : (ask : ViewTree → ℕ → Spent Bool) → ((t : ViewTree) (n : ℕ) → IfErr (ask t n) Q) → (ts : List ViewTree) (left : ℕ) → IfErr (matching.some_item ask ts left) Q
  some_item_only ask p [] left = tt
  some_item_only ask p (t ∷ ts) left =
      and_then_only Q (ask t left) (λ found rest. if found then Ok (true, rest) else matching.some_item ask ts rest) (p t left)
      (λ found rest. only_if Q found (Ok (true, rest)) (matching.some_item ask ts rest) tt (some_item_only ask p ts rest))

  some_property_only : (ask : ViewTree → ℕ → Spent Bool) → ((t : ViewTree) (n : ℕ) → IfErr (ask t n) Q) → (fs : List Field) (left : ℕ) → IfErr (matching.some_property ask fs left) Q
  some_property_only ask p [] left = tt
  some_property_only ask p (f ∷ fs) left =
      only_if Q (is_dollar f.0) (matching.some_property ask fs left) (and_then (ask f.1 left) (λ found rest. if found then Ok (true, rest) else matching.some_property ask fs rest))
      (some_property_only ask p fs left)
      (and_then_only Q (ask f.1 left) (λ found rest. if found then Ok (true, rest) else matching.some_property ask fs rest) (p f.1 left)
      (λ found rest. only_if Q found (Ok (true, rest)) (matching.some_property ask fs rest) tt (some_property_only ask p fs rest)))

  -- each match that is asked for can only be too big
  abbrev Asks : matching.Asked → Type 0
  Asks ask = (t p : ViewTree) (any : Bool) (n : ℕ) → IfErr (ask t p any n) Q

  held_only : (objects : List Object) (ask : matching.Asked) → Asks ask → (any : Bool) (u q : ViewTree) (left : ℕ) → IfErr (matching.held_matches objects ask any u q left) Q
  held_only objects ask h any u q left =
      only_if Q (is_nothing q) (Ok (true, left)) (if any then matching.some_property (λ w. ask w q true) (properties objects u) left else ask u q false left) tt
      (only_if Q any (matching.some_property (λ w. ask w q true) (properties objects u) left) (ask u q false left)
      (some_property_only (λ w. ask w q true) (λ w n. h w q true n) (properties objects u) left) (h u q false left))

  every_only : (objects : List Object) (ask : matching.Asked) → Asks ask → (t : ViewTree) (fs : List Field) (left : ℕ) → IfErr (matching.every_property objects ask t fs left) Q
  every_only objects ask h t [] left = tt
  every_only objects ask h t (f ∷ fs) left =
      and_then_only Q (matching.property_matches objects ask t f left) (λ found rest. if found then matching.every_property objects ask t fs rest else Ok (false, rest))
      (held_only objects ask h (matching.is_any f.0) (matching.held objects t f.0) f.1 left)
      (λ found rest. only_if Q found (matching.every_property objects ask t fs rest) (Ok (false, rest)) (every_only objects ask h t fs rest) tt)

  object_only : (objects : List Object) (ask : matching.Asked) → Asks ask → (t p : ViewTree) (any : Bool) (left : ℕ) → IfErr (matching.object_matches objects ask t p any left) Q
  object_only objects ask h t p any left =
      only_if Q any (matching.any_matches objects ask t p left) (matching.named_matches objects ask t p left)
      (and_then_only Q (matching.some_property (λ u. ask u p true) (properties objects t) left) (λ found rest. if found then Ok (true, rest) else ask t p false rest)
      (some_property_only (λ u. ask u p true) (λ u n. h u p true n) (properties objects t) left)
      (λ found rest. only_if Q found (Ok (true, rest)) (ask t p false rest) tt (h t p false rest)))
      (only_if Q (matching.is_object (shape_of objects p)) (matching.every_property objects ask t (properties objects p) left) (Ok (false, left)) (every_only objects ask h t (properties objects p) left) tt)

  shape_only : (objects : List Object) (ask : matching.Asked) → Asks ask → (t p : ViewTree) (any : Bool) (left : ℕ) → IfErr (matching.shape_matches (shape_of objects t) objects ask t p any left) Q
  shape_only objects ask h (prim (value.Obj o)) p any left =
      if_held (is_array (object_at objects o.0).kind) _ _ (λ s. IfErr (matching.shape_matches s objects ask (prim (value.Obj o)) p any left) Q)
      (λ e. some_item_only (λ u. ask u p any) (λ u n. h u p any n) (items objects (prim (value.Obj o))) left) (λ e. object_only objects ask h (prim (value.Obj o)) p any left)
  shape_only objects ask h (list ts) p any left = some_item_only (λ u. ask u p any) (λ u n. h u p any n) (items objects (list ts)) left
  shape_only objects ask h (rec fs) p any left = object_only objects ask h (rec fs) p any left
  shape_only objects ask h (prim value.Undefined) p any left = tt
  shape_only objects ask h (prim value.Null) p any left = tt
  shape_only objects ask h (prim (value.Bool b)) p any left = tt
  shape_only objects ask h (prim (value.Int n)) p any left = tt
  shape_only objects ask h (prim value.Nan) p any left = tt
  shape_only objects ask h (prim (value.Text s)) p any left = tt
  shape_only objects ask h (prim (value.Fun f)) p any left = tt

  match_only : (negated : Option (List ℕ)) (objects : List Object) (ask : matching.Asked) → Asks ask → (t p : ViewTree) (any : Bool) (left : ℕ) → IfErr (matching.match_by negated objects ask t p any left) Q
  match_only (Some rest) objects ask h t p any left =
      and_then_only Q (ask t (prim (value.Text rest)) any left) (λ found n. Ok (not found, n)) (h t (prim (value.Text rest)) any left) (λ found n. tt)
  match_only None objects ask h t p any left = shape_only objects ask h t p any left

  within_only : (n : ℕ) (objects : List Object) (t p : ViewTree) (any : Bool) (left : ℕ) → IfErr (matching.match_within n objects t p any left) Q
  within_only zero objects t p any left = big
  within_only (suc n) objects t p any zero = big
  within_only (suc n) objects t p any (suc left) = match_only (matching.negated p) objects (matching.match_within n objects) (within_only n objects) t p any left

  item_only : (objects : List Object) (p t : ViewTree) → IfErr (matching.item_matches objects p t) Q
  item_only objects p t =
      made_only Q (matching.match_within matching.level_limit objects t (matching.pattern_for objects p t) (matching.is_primitive (shape_of objects p)) matching.match_limit)
      (within_only matching.level_limit objects t (matching.pattern_for objects p t) (matching.is_primitive (shape_of objects p)) matching.match_limit)

  from_only : (objects : List Object) (p : ViewTree) (done ts : List ViewTree) → IfErr (matching.matching_from objects p done ts) Q
  from_only objects p done [] = tt
  from_only objects p done (t ∷ ts) =
      only_then Q (matching.item_matches objects p t) (λ found. matching.matching_from objects p (matching.kept_with found t done) ts) (item_only objects p t) (λ found. from_only objects p (matching.kept_with found t done) ts)

  kept_only : (objects : List Object) (t p : ViewTree) → IfErr (matching.matching objects p (items objects t) >>= λ ts. Ok (list (views_from ts))) Q
  kept_only objects t p =
      only_then Q (matching.matching objects p (items objects t)) (λ ts. Ok (list (views_from ts)))
      (only_if Q (is_nothing p) (Ok (items objects t)) (matching.matching_from objects p [] (items objects t)) tt (from_only objects p [] (items objects t))) (λ ts. tt)

  filtered_only : (objects : List Object) (t p : ViewTree) → IfErr (matching.filtered objects t p) Q
  filtered_only objects (prim (value.Obj o)) p =
      if_held (is_array (object_at objects o.0).kind) _ _ (λ s. IfErr (matching.filtered_by s objects (prim (value.Obj o)) p) Q) (λ e. kept_only objects (prim (value.Obj o)) p) (λ e. tt)
  filtered_only objects (list ts) p = kept_only objects (list ts) p
  filtered_only objects (rec fs) p = tt
  filtered_only objects (prim value.Undefined) p = tt
  filtered_only objects (prim value.Null) p = tt
  filtered_only objects (prim (value.Bool b)) p = tt
  filtered_only objects (prim (value.Int n)) p = tt
  filtered_only objects (prim value.Nan) p = tt
  filtered_only objects (prim (value.Text s)) p = tt
  filtered_only objects (prim (value.Fun f)) p = tt

-- a predicate of `orderBy` can only be no path
module _ (Q : Fault → Type 0) (syntax_too : Q Syntax) where
  path_only : (t : List ℕ) → IfErr (ordering.path_in t) Q
  path_only [] = tt
  path_only (c ∷ cs) = only_if Q (list_all ordering.is_name (ordering.parts_in [] (c ∷ cs))) (Ok (ordering.parts_in [] (c ∷ cs))) (Err Syntax) tt syntax_too

  with_path_only : (falling : Bool) (t : List ℕ) → IfErr (ordering.with_path falling t) Q
  with_path_only falling t = only_then Q (ordering.path_in t) (λ path. Ok (record { falling = falling; path = path })) (path_only t) (λ path. tt)

  text_only : (t : List ℕ) → IfErr (ordering.predicate_in t) Q
  text_only [] = with_path_only false []
  text_only (c ∷ cs) =
      only_if Q (c == 43) (ordering.with_path false cs) (if c == 45 then ordering.with_path true cs else ordering.with_path false (c ∷ cs)) (with_path_only false cs)
      (only_if Q (c == 45) (ordering.with_path true cs) (ordering.with_path false (c ∷ cs)) (with_path_only true cs) (with_path_only false (c ∷ cs)))

  predicate_only : (t : ViewTree) → IfErr (ordering.predicate_of t) Q
  predicate_only (prim (value.Text t)) = text_only t
  predicate_only (prim value.Undefined) = with_path_only false []
  predicate_only (prim value.Null) = with_path_only false []
  predicate_only (prim (value.Bool b)) = with_path_only false []
  predicate_only (prim (value.Int n)) = with_path_only false []
  predicate_only (prim value.Nan) = with_path_only false []
  predicate_only (prim (value.Obj o)) = with_path_only false []
  predicate_only (prim (value.Fun f)) = with_path_only false []
  predicate_only (list ts) = with_path_only false []
  predicate_only (rec fs) = with_path_only false []

  predicates_from_only : (done : _) (ts : List ViewTree) → IfErr (ordering.predicates_from done ts) Q
  predicates_from_only done [] = tt
  predicates_from_only done (t ∷ ts) = only_then Q (ordering.predicate_of t) (λ p. ordering.predicates_from (done ++ p ∷ []) ts) (predicate_only t) (λ p. predicates_from_only (done ++ p ∷ []) ts)

  one_only : (t : ViewTree) → IfErr (ordering.only_predicate t) Q
  one_only t = only_then Q (ordering.predicate_of t) (λ p. Ok (p ∷ [])) (predicate_only t) (λ p. tt)

  listed_only : (t : ViewTree) (ts : List ViewTree) → IfErr (ordering.listed_predicates t ts) Q
  listed_only t [] = one_only t
  listed_only t (u ∷ us) = predicates_from_only [] (u ∷ us)

  predicates_only : (objects : List Object) (t : ViewTree) → IfErr (ordering.predicates objects t) Q
  predicates_only objects (prim (value.Obj o)) =
      if_held (is_array (object_at objects o.0).kind) _ _ (λ s. IfErr (ordering.predicates_by s objects (prim (value.Obj o))) Q) (λ e. listed_only (prim (value.Obj o)) (items objects (prim (value.Obj o)))) (λ e. one_only (prim (value.Obj o)))
  predicates_only objects (list ts) = listed_only (list ts) (items objects (list ts))
  predicates_only objects (rec fs) = one_only (rec fs)
  predicates_only objects (prim value.Undefined) = one_only (prim value.Undefined)
  predicates_only objects (prim value.Null) = one_only (prim value.Null)
  predicates_only objects (prim (value.Bool b)) = one_only (prim (value.Bool b))
  predicates_only objects (prim (value.Int n)) = one_only (prim (value.Int n))
  predicates_only objects (prim value.Nan) = one_only (prim value.Nan)
  predicates_only objects (prim (value.Text s)) = one_only (prim (value.Text s))
  predicates_only objects (prim (value.Fun f)) = one_only (prim (value.Fun f))

  sorted_only : (objects : List Object) (t p reversed : ViewTree) → IfErr (ordering.predicates objects p >>= λ ps. Ok (list (views_from (ordering.in_order (ordering.is_before objects (truthy reversed) ps) (items objects t))))) Q
  sorted_only objects t p reversed =
      only_then Q (ordering.predicates objects p) (λ ps. Ok (list (views_from (ordering.in_order (ordering.is_before objects (truthy reversed) ps) (items objects t))))) (predicates_only objects p) (λ ps. tt)

  ordered_only : (objects : List Object) (t p reversed : ViewTree) → IfErr (ordering.ordered objects t p reversed) Q
  ordered_only objects (prim (value.Obj o)) p reversed =
      if_held (is_array (object_at objects o.0).kind) _ _ (λ s. IfErr (ordering.ordered_by s objects (prim (value.Obj o)) p reversed) Q) (λ e. sorted_only objects (prim (value.Obj o)) p reversed) (λ e. tt)
  ordered_only objects (list ts) p reversed = sorted_only objects (list ts) p reversed
  ordered_only objects (rec fs) p reversed = tt
  ordered_only objects (prim value.Undefined) p reversed = tt
  ordered_only objects (prim value.Null) p reversed = tt
  ordered_only objects (prim (value.Bool b)) p reversed = tt
  ordered_only objects (prim (value.Int n)) p reversed = tt
  ordered_only objects (prim value.Nan) p reversed = tt
  ordered_only objects (prim (value.Text s)) p reversed = tt
  ordered_only objects (prim (value.Fun f)) p reversed = tt

module _ (Q : Fault → Type 0) (big : Q TooBig) (syntax_too : Q Syntax) where
  -- name by name, as the table has them
  pub applied_only : (objects : List Object) (name : List ℕ) (t : ViewTree) (ts : ViewTrees) → IfErr (applied objects name t ts) Q
  unfolding applied
  applied_only objects name t ts =
      if_held (bytes_eq name (codes "uppercase")) _ _ (λ o. IfErr (applied_if o objects t ts) Q) (λ e. tt) (λ e.
      if_held (bytes_eq name (codes "lowercase")) _ _ (λ o. IfErr (applied_if o objects t ts) Q) (λ e. tt) (λ e.
      if_held (bytes_eq name (codes "number")) _ _ (λ o. IfErr (applied_if o objects t ts) Q) (λ e. tt) (λ e.
      if_held (bytes_eq name (codes "json")) _ _ (λ o. IfErr (applied_if o objects t ts) Q) (λ e. json_only Q big objects t (first_of ts)) (λ e.
      if_held (bytes_eq name (codes "limitTo")) _ _ (λ o. IfErr (applied_if o objects t ts) Q) (λ e. tt) (λ e.
      if_held (bytes_eq name (codes "filter")) _ _ (λ o. IfErr (applied_if o objects t ts) Q) (λ e. filtered_only Q big objects t (first_of ts)) (λ e.
      if_held (bytes_eq name (codes "orderBy")) _ _ (λ o. IfErr (applied_if o objects t ts) Q) (λ e. ordered_only Q syntax_too objects t (first_of ts) (second_of ts)) (λ e. tt)))))))
