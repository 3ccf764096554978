-- Which faults a coercion, an operator, a member and a method can give: NotWhole, Range and TooBig.
use Rattle.std.proofs.Common.{ℕ, zero, suc, List, [], ◌∷◌, ◌++◌, Bool, true, false, Option, Some, None}
use Rattle.std.specs.Prelude.{ℤ, pos, Result, Ok, Err, IfErr, if◌then◌else◌, int_div, int_rem, ◌+ℤ◌, ◌-ℤ◌, ◌*ℤ◌}
use Rattle.std.specs.Ordering.{int_eq}
use Rattle.ng_base.specs.Meets.{◌>>=◌}
use Rattle.ng_base.specs.Objects.{Object, object_at}
use Rattle.ng_base.specs.Views.{ViewTree, prim, list, rec, no_views, no_fields, views_from, views_list, fields_list, fields_from}
use Rattle.ng_base.specs.declared.value.Value.{Value}
use Rattle.ng_base.specs.declared.value.Value.TheVariants as value
use Rattle.ng_base.specs.declared.fault.Fault.{Fault}
use Rattle.ng_base.specs.declared.fault.Fault.TheVariants.{NotWhole, Range, TooBig}
use Rattle.ng_language.specs.Numbers.{is_in_range}
use Rattle.ng_language.specs.Operators.{in_range, of_numbers, sum, difference, product, quotient, remainder, sub, mul, div, remainder_of, view_num, term_num}
use Rattle.ng_language.specs.Sums.{add, add_defined, as_view, joined, is_undefined, is_joined}
use Rattle.ng_language.specs.Texts.{to_text, text_of, json_text, json_of}
use Rattle.ng_language.specs.Unfolding.{Field, Spent, and_then, made, unfold_items, unfold_fields, as_list, as_record, unfold_object, unfold_value, unfold_view, unfold_within, unfolded, level_limit, node_limit, is_left_out, item_mode, name_mode, object_order, record_order, own_entries, prims, below_object, unfolds_lists, unfolds_records}
use Rattle.ng_language.specs.declared.unfolding.Mode.{Mode}
use Rattle.ng_language.specs.declared.unfolding.Mode.TheVariants as modes
use Rattle.ng_language.specs.declared.unfolding.Below.{Below}
use Rattle.ng_language.specs.declared.unfolding.Below.TheVariants as below
use Rattle.ng_language.specs.declared.syntax.Unary.{Unary}
use Rattle.ng_language.specs.declared.syntax.Unary.TheVariants as unaries
use Rattle.ng_language.specs.declared.syntax.Binary.{Binary}
use Rattle.ng_language.specs.declared.syntax.Binary.TheVariants as binaries
use Rattle.ng_members.specs.Leaves.{sign_value, operator_value}
use Rattle.ng_members.specs.Members.{item, member, has_members}
use Rattle.ng_members.specs.Methods as method
use Rattle.ng_members.specs.declared.methods.Method.{Method}
use Rattle.ng_members.specs.declared.methods.Method.TheVariants as methods

-- what holds of the faults that every program may meet
abbrev pub OfAll : (Fault → Type 0) → Type 0
OfAll Q = record { whole : Q NotWhole; range : Q Range; big : Q TooBig }

pub only_then : {A B : Type 0} (Q : Fault → Type 0) (r : Result A Fault) (f : A → Result B Fault) → IfErr r Q → ((x : A) → IfErr (f x) Q) → IfErr (r >>= f) Q
only_then Q (Ok x) f p q = q x
only_then Q (Err e) f p q = p

pub only_if : {A : Type 0} (Q : Fault → Type 0) (b : Bool) (r s : Result A Fault) → IfErr r Q → IfErr s Q → IfErr (if b then r else s) Q
only_if Q true r s p q = p
only_if Q false r s p q = q

pub and_then_only : {A B : Type 0} (Q : Fault → Type 0) (r : Spent A) (go : A → ℕ → Spent B) → IfErr r Q → ((x : A) (n : ℕ) → IfErr (go x n) Q) → IfErr (and_then r go) Q
and_then_only Q (Ok r) go p q = q r.0 r.1
and_then_only Q (Err e) go p q = p

pub made_only : {A : Type 0} (Q : Fault → Type 0) (r : Spent A) → IfErr r Q → IfErr (made r) Q
made_only Q (Ok r) p = tt
made_only Q (Err e) p = p

-- what is unfolded can only be too big
module _ (Q : Fault → Type 0) (big : Q TooBig) where
  items_only : (go : ViewTree → ℕ → Spent ViewTree) → ((t : ViewTree) (n : ℕ) → IfErr (go t n) Q) → (ts done : List ViewTree) (left : ℕ) → IfErr (unfold_items go ts done left) Q
  items_only go p [] done left = tt
  items_only go p (t ∷ ts) done left =
      and_then_only Q (go t left) (λ u rest. unfold_items go ts (done ++ u ∷ []) rest) (p t left) (λ u rest. items_only go p ts (done ++ u ∷ []) rest)

  fields_only : (m : Mode) (go : ViewTree → ℕ → Spent ViewTree) → ((t : ViewTree) (n : ℕ) → IfErr (go t n) Q) → (fs done : List Field) (left : ℕ) → IfErr (unfold_fields m go fs done left) Q
  fields_only m go p [] done left = tt
  fields_only m go p (f ∷ fs) done left =
      only_if Q (is_left_out m f.0 f.1) (unfold_fields m go fs done left) (and_then (go f.1 left) (λ u rest. unfold_fields m go fs (done ++ (f.0, u) ∷ []) rest))
      (fields_only m go p fs done left)
      (and_then_only Q (go f.1 left) (λ u rest. unfold_fields m go fs (done ++ (f.0, u) ∷ []) rest) (p f.1 left) (λ u rest. fields_only m go p fs (done ++ (f.0, u) ∷ []) rest))

  list_only : (r : Spent (List ViewTree)) → IfErr r Q → IfErr (as_list r) Q
  list_only r p = and_then_only Q r (λ ts left. Ok (list (views_from ts), left)) p (λ ts left. tt)

  record_only : (order : List Field → List Field) (r : Spent (List Field)) → IfErr r Q → IfErr (as_record order r) Q
  record_only order r p = and_then_only Q r (λ fs left. Ok (rec (fields_from (order fs)), left)) p (λ fs left. tt)

  object_only : (m : Mode) (go : Mode → ViewTree → ℕ → Spent ViewTree) → ((w : Mode) (t : ViewTree) (n : ℕ) → IfErr (go w t n) Q) → (b : Below) (v : Value) (x : Object) (left : ℕ) → IfErr (unfold_object m go b v x left) Q
  object_only m go p below.Nothing v x left = tt
  object_only m go p below.Items v x left = list_only (unfold_items (go (item_mode m)) (prims x.items) [] left) (items_only (go (item_mode m)) (p (item_mode m)) (prims x.items) [] left)
  object_only m go p below.Names v x left =
      record_only (object_order m) (unfold_fields m (go (name_mode m)) (own_entries x) [] left) (fields_only m (go (name_mode m)) (p (name_mode m)) (own_entries x) [] left)

  value_only : (m : Mode) (go : Mode → ViewTree → ℕ → Spent ViewTree) → ((w : Mode) (t : ViewTree) (n : ℕ) → IfErr (go w t n) Q) → (objects : List Object) (v : Value) (left : ℕ) → IfErr (unfold_value m go objects v left) Q
  value_only m go p objects value.Undefined left = tt
  value_only m go p objects value.Null left = tt
  value_only m go p objects (value.Bool b) left = tt
  value_only m go p objects (value.Int n) left = tt
  value_only m go p objects value.Nan left = tt
  value_only m go p objects (value.Text t) left = tt
  value_only m go p objects (value.Obj o) left = object_only m go p (below_object m (object_at objects o.0).kind) (value.Obj o) (object_at objects o.0) left
  value_only m go p objects (value.Fun f) left = tt

  view_only : (m : Mode) (go : Mode → ViewTree → ℕ → Spent ViewTree) → ((w : Mode) (t : ViewTree) (n : ℕ) → IfErr (go w t n) Q) → (objects : List Object) (t : ViewTree) (left : ℕ) → IfErr (unfold_view m go objects t left) Q
  view_only m go p objects (prim v) left = value_only m go p objects v left
  view_only m go p objects (list ts) left =
      only_if Q (unfolds_lists m) (as_list (unfold_items (go (item_mode m)) (views_list ts) [] left)) (Ok (list no_views, left))
      (list_only (unfold_items (go (item_mode m)) (views_list ts) [] left) (items_only (go (item_mode m)) (p (item_mode m)) (views_list ts) [] left)) tt
  view_only m go p objects (rec fs) left =
      only_if Q (unfolds_records m) (as_record (record_order m) (unfold_fields m (go (name_mode m)) (fields_list fs) [] left)) (Ok (rec no_fields, left))
      (record_only (record_order m) (unfold_fields m (go (name_mode m)) (fields_list fs) [] left) (fields_only m (go (name_mode m)) (p (name_mode m)) (fields_list fs) [] left)) tt

  within_only : (n : ℕ) (objects : List Object) (m : Mode) (t : ViewTree) (left : ℕ) → IfErr (unfold_within n objects m t left) Q
  within_only zero objects m t left = big
  within_only (suc n) objects m t zero = big
  within_only (suc n) objects m t (suc left) = view_only m (unfold_within n objects) (within_only n objects) objects t left

  unfolded_only : (m : Mode) (objects : List Object) (t : ViewTree) → IfErr (unfolded m objects t) Q
  unfolded_only m objects t = made_only Q (unfold_within level_limit objects m t node_limit) (within_only level_limit objects m t node_limit)

  pub to_text_only : (objects : List Object) (t : ViewTree) → IfErr (to_text objects t) Q
  to_text_only objects t = only_then Q (unfolded modes.Text objects t) (λ u. Ok (text_of u)) (unfolded_only modes.Text objects t) (λ u. tt)

  pub json_text_only : (objects : List Object) (indent : ℕ) (t : ViewTree) → IfErr (json_text objects indent t) Q
  json_text_only objects indent t = only_then Q (unfolded modes.Json objects t) (λ u. Ok (json_of indent [] u)) (unfolded_only modes.Json objects t) (λ u. tt)

-- numbers can be out of range, and quotients not whole
module _ (Q : Fault → Type 0) (k : OfAll Q) where
  in_range_only : (n : ℤ) → IfErr (in_range n) Q
  in_range_only n = only_if Q (is_in_range n) (Ok (value.Int n)) (Err Range) tt k.range

  numbers_only : (f : ℤ → ℤ → Result Value Fault) → ((m n : ℤ) → IfErr (f m n) Q) → (x y : Option ℤ) → IfErr (of_numbers f x y) Q
  numbers_only f p (Some m) (Some n) = p m n
  numbers_only f p (Some m) None = tt
  numbers_only f p None y = tt

  quotient_only : (m n : ℤ) → IfErr (quotient m n) Q
  quotient_only m n =
      only_if Q (int_eq n (pos 0)) (Err NotWhole) (if int_eq (int_rem m n) (pos 0) then in_range (int_div m n) else Err NotWhole) k.whole
      (only_if Q (int_eq (int_rem m n) (pos 0)) (in_range (int_div m n)) (Err NotWhole) (in_range_only (int_div m n)) k.whole)

  remainder_only : (m n : ℤ) → IfErr (remainder m n) Q
  remainder_only m n = only_if Q (int_eq n (pos 0)) (Err NotWhole) (in_range (int_rem m n)) k.whole (in_range_only (int_rem m n))

  as_view_only : (r : Result Value Fault) → IfErr r Q → IfErr (as_view r) Q
  as_view_only (Ok v) p = tt
  as_view_only (Err e) p = p

  pub number_only : (n : ℤ) → IfErr (as_view (in_range n)) Q
  number_only n = as_view_only (in_range n) (in_range_only n)

  sub_only : (t u : ViewTree) → IfErr (as_view (sub t u)) Q
  sub_only t u = as_view_only (sub t u) (numbers_only difference (λ m n. in_range_only (m -ℤ n)) (term_num t) (term_num u))

  joined_only : (objects : List Object) (t u : ViewTree) → IfErr (joined objects t u) Q
  joined_only objects t u =
      only_then Q (to_text objects t) (λ s. to_text objects u >>= λ r. Ok (prim (value.Text (s ++ r)))) (to_text_only Q k.big objects t)
      (λ s. only_then Q (to_text objects u) (λ r. Ok (prim (value.Text (s ++ r)))) (to_text_only Q k.big objects u) (λ r. tt))

  add_only : (objects : List Object) (t u : ViewTree) → IfErr (add objects t u) Q
  add_only objects t u =
      only_if Q (is_undefined t) (Ok u) (if is_undefined u then Ok t else add_defined objects t u) tt
      (only_if Q (is_undefined u) (Ok t) (add_defined objects t u) tt
      (only_if Q (is_joined t) (joined objects t u) (if is_joined u then joined objects t u else as_view (of_numbers sum (view_num t) (view_num u))) (joined_only objects t u)
      (only_if Q (is_joined u) (joined objects t u) (as_view (of_numbers sum (view_num t) (view_num u))) (joined_only objects t u)
      (as_view_only (of_numbers sum (view_num t) (view_num u)) (numbers_only sum (λ m n. in_range_only (m +ℤ n)) (view_num t) (view_num u))))))

  pub sign_only : (o : Unary) (t : ViewTree) → IfErr (sign_value o t) Q
  unfolding sign_value
  sign_only unaries.Plus t = sub_only t (prim (value.Int (pos 0)))
  sign_only unaries.Minus t = sub_only (prim (value.Int (pos 0))) t
  sign_only unaries.Not t = tt

  pub operator_only : (objects : List Object) (o : Binary) (t u : ViewTree) → IfErr (operator_value objects o t u) Q
  unfolding operator_value
  operator_only objects binaries.Multiply t u = as_view_only (mul t u) (numbers_only product (λ m n. in_range_only (m *ℤ n)) (view_num t) (view_num u))
  operator_only objects binaries.Divide t u = as_view_only (div t u) (numbers_only quotient quotient_only (view_num t) (view_num u))
  operator_only objects binaries.Remainder t u = as_view_only (remainder_of t u) (numbers_only remainder remainder_only (view_num t) (view_num u))
  operator_only objects binaries.Add t u = add_only objects t u
  operator_only objects binaries.Subtract t u = sub_only t u
  operator_only objects binaries.Less t u = tt
  operator_only objects binaries.Greater t u = tt
  operator_only objects binaries.AtMost t u = tt
  operator_only objects binaries.AtLeast t u = tt
  operator_only objects binaries.Equal t u = tt
  operator_only objects binaries.NotEqual t u = tt
  operator_only objects binaries.Same t u = tt
  operator_only objects binaries.NotSame t u = tt

-- the texts of members and methods can be too big
module _ (Q : Fault → Type 0) (big : Q TooBig) where
  pub item_only : (objects : List Object) (t i : ViewTree) → IfErr (item objects t i) Q
  unfolding item
  item_only objects t i =
      only_if Q (has_members t) (to_text objects i >>= λ name. Ok (member objects t name)) (Ok (prim value.Undefined))
      (only_then Q (to_text objects i) (λ name. Ok (member objects t name)) (to_text_only Q big objects i) (λ name. tt)) tt

  separator_only : (objects : List Object) (t : ViewTree) → IfErr (method.separator objects t) Q
  separator_only objects (prim value.Undefined) = tt
  separator_only objects (prim value.Null) = to_text_only Q big objects (prim value.Null)
  separator_only objects (prim (value.Bool b)) = to_text_only Q big objects (prim (value.Bool b))
  separator_only objects (prim (value.Int n)) = to_text_only Q big objects (prim (value.Int n))
  separator_only objects (prim value.Nan) = to_text_only Q big objects (prim value.Nan)
  separator_only objects (prim (value.Text t)) = to_text_only Q big objects (prim (value.Text t))
  separator_only objects (prim (value.Obj o)) = to_text_only Q big objects (prim (value.Obj o))
  separator_only objects (prim (value.Fun f)) = to_text_only Q big objects (prim (value.Fun f))
  separator_only objects (list ts) = to_text_only Q big objects (list ts)
  separator_only objects (rec fs) = to_text_only Q big objects (rec fs)

  part_only : (objects : List Object) (t : ViewTree) → IfErr (method.part_text objects t) Q
  part_only objects (prim value.Undefined) = tt
  part_only objects (prim value.Null) = tt
  part_only objects (prim (value.Bool b)) = to_text_only Q big objects (prim (value.Bool b))
  part_only objects (prim (value.Int n)) = to_text_only Q big objects (prim (value.Int n))
  part_only objects (prim value.Nan) = to_text_only Q big objects (prim value.Nan)
  part_only objects (prim (value.Text t)) = to_text_only Q big objects (prim (value.Text t))
  part_only objects (prim (value.Obj o)) = to_text_only Q big objects (prim (value.Obj o))
  part_only objects (prim (value.Fun f)) = to_text_only Q big objects (prim (value.Fun f))
  part_only objects (list ts) = to_text_only Q big objects (list ts)
  part_only objects (rec fs) = to_text_only Q big objects (rec fs)

  behind_only : (objects : List Object) (between done : List ℕ) (ts : List ViewTree) → IfErr (method.joined_behind objects between done ts) Q
  behind_only objects between done [] = tt
  behind_only objects between done (t ∷ ts) =
      only_then Q (method.part_text objects t) (λ s. method.joined_behind objects between ((done ++ between) ++ s) ts) (part_only objects t) (λ s. behind_only objects between ((done ++ between) ++ s) ts)

  join_only : (objects : List Object) (between : List ℕ) (ts : List ViewTree) → IfErr (method.joined_items objects between ts) Q
  join_only objects between [] = tt
  join_only objects between (t ∷ ts) =
      only_then Q (method.part_text objects t) (λ s. method.joined_behind objects between s ts) (part_only objects t) (λ s. behind_only objects between s ts)

  text_only : (r : Result (List ℕ) Fault) → IfErr r Q → IfErr (method.as_text r) Q
  text_only (Ok s) p = tt
  text_only (Err e) p = p

  pub method_only : (objects : List Object) (m : Method) (t : ViewTree) (args : List ViewTree) → IfErr (method.method_value objects m t args) Q
  unfolding method.method_value
  method_only objects methods.IndexOf t args = tt
  method_only objects methods.Slice t args = tt
  method_only objects methods.Concat t args = tt
  method_only objects methods.Join t args =
      text_only (method.joined objects (method.argument args 0) (method.items_of objects t))
      (only_then Q (method.separator objects (method.argument args 0)) (λ s. method.joined_items objects s (method.items_of objects t)) (separator_only objects (method.argument args 0)) (λ s. join_only objects s (method.items_of objects t)))
  method_only objects methods.Find t args =
      only_then Q (to_text objects (method.argument args 0)) (λ s. Ok (method.place_or_none (method.found_from s 0 (method.text_in t)))) (to_text_only Q big objects (method.argument args 0)) (λ s. tt)
  method_only objects methods.Trim t args = tt
  method_only objects methods.Upper t args = tt
  method_only objects methods.Lower t args = tt
