-- What stands among some objects stands among more.
use Rattle.std.proofs.Common.{Bool, true, false, if◌then◌else◌, bytes_eq, ◌≡◌, ◌∙◌, ◌≤◌, ◌+◌, ℕ, List, [], ◌∷◌, ◌++◌, length, length-append}
use Rattle.std.specs.List.{AllByRecursion}
use Rattle.ng_base.specs.Objects.{Object, StandsAmong}
use Rattle.ng_base.specs.Views.{ViewTree, ViewTrees, ViewFields, prim, list, rec, no_views, view_then, no_fields, field_then}
use Rattle.ng_base.specs.declared.value.Value.{Value}
use Rattle.ng_language.specs.Objects.{update_at}
use Rattle.ng_language.specs.Views.{ViewStands, ViewsStand, FieldsStand}
use Rattle.ng_store.proofs.Sound.{stands_more, all_through, all_append, all_inserted, length-update_at}
use Rattle.indexmap.specs.IndexMap.{insert_entry}
use Rattle.ng_write.specs.Assigning.{is_local, locals_after}
use Rattle.ng_write.specs.Storing.{PropertiesStand}

mutual
  pub view_more : (n m : ℕ) → n ≤ m → (t : ViewTree) → ViewStands n t → ViewStands m t
  view_more n m h (prim v) s = stands_more n m h v s
  view_more n m h (list ts) s = views_more n m h ts s
  view_more n m h (rec fs) s = fields_more n m h fs s

  pub views_more : (n m : ℕ) → n ≤ m → (ts : ViewTrees) → ViewsStand n ts → ViewsStand m ts
  views_more n m h no_views s = tt
  views_more n m h (view_then t ts) s = (view_more n m h t s.0, views_more n m h ts s.1)

  pub fields_more : (n m : ℕ) → n ≤ m → (fs : ViewFields) → FieldsStand n fs → FieldsStand m fs
  fields_more n m h no_fields s = tt
  fields_more n m h (field_then name t fs) s = (view_more n m h t s.0, fields_more n m h fs s.1)

pub values_more : (n m : ℕ) → n ≤ m → (vs : List Value) → AllByRecursion (StandsAmong n) vs → AllByRecursion (StandsAmong m) vs
values_more n m h vs a = all_through (StandsAmong n) (StandsAmong m) (stands_more n m h) vs a

pub properties_more : (n m : ℕ) → n ≤ m → (ps : List (List ℕ × Value)) → PropertiesStand n ps → PropertiesStand m ps
properties_more n m h ps a = all_through (λ (p : List ℕ × Value). StandsAmong n p.1) (λ (p : List ℕ × Value). StandsAmong m p.1) (λ p. stands_more n m h p.1) ps a

-- one more value
pub values_and : (n m : ℕ) → n ≤ m → (vs : List Value) (v : Value) → AllByRecursion (StandsAmong n) vs → StandsAmong m v → AllByRecursion (StandsAmong m) (vs ++ v ∷ [])
values_and n m h vs v a s = all_append (StandsAmong m) vs (v ∷ []) (values_more n m h vs a) (s, tt)

pub properties_and : (n m : ℕ) → n ≤ m → (ps : List (List ℕ × Value)) (name : List ℕ) (v : Value) → PropertiesStand n ps → StandsAmong m v → PropertiesStand m (ps ++ (name, v) ∷ [])
properties_and n m h ps name v a s = all_append (λ (p : List ℕ × Value). StandsAmong m p.1) ps ((name, v) ∷ []) (properties_more n m h ps a) (s, tt)

pub ruleset as_many = (length-update_at)

-- one object more
pub length-one_more : (objects : List Object) (x : Object) → length (objects ++ x ∷ []) ≡ length objects + 1
length-one_more objects x = length-append objects (x ∷ [])

pub length-changed_more : (objects : List Object) (x : Object) (o : ℕ) (f : Object → Object) → length (update_at (objects ++ x ∷ []) o f) ≡ length objects + 1
length-changed_more objects x o f = length-update_at (objects ++ x ∷ []) o f ∙ length-one_more objects x

pub ruleset one_more = (length-one_more, length-changed_more)

pub length-appended : (objects made : List Object) → length (objects ++ made) ≡ length objects + length made
length-appended objects made = length-append objects made

pub ruleset more_by_some = (length-appended)

-- the locals after a name is assigned to
pub locals_after_stand : (n : ℕ) (ls : List (List ℕ × Value)) (name : List ℕ) (v : Value) → PropertiesStand n ls → StandsAmong n v → PropertiesStand n (locals_after ls name v)
locals_after_stand n ls name v a s = by (is_local ls name)
  where
    by : (b : Bool) → PropertiesStand n (if b then insert_entry bytes_eq ls name v else ls)
    by true = all_inserted n ls name v a s
    by false = a
