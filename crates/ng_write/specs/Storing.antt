-- Fresh lists and records become objects where they arise (guide: Expressions, "Context").
use Rattle.std.specs.Prelude.{ℕ, List, [], ◌∷◌, ◌++◌, length, None, Ok, Err, nat_lt, if◌then◌else◌}
use Rattle.std.specs.List.{AllByRecursion}
use Rattle.std.specs.Str.{bytes_eq}
use Rattle.indexmap.specs.IndexMap.{insert_entry}
use Rattle.ng_base.specs.Objects.{Object, StandsAmong}
use Rattle.ng_base.specs.Views.{ViewTree, ViewTrees, ViewFields, prim, list, rec, no_views, view_then, no_fields, field_then}
use Rattle.ng_base.specs.declared.heap.ObjKind.TheVariants as kinds
use Rattle.ng_base.specs.declared.value.Value.{Value}
use Rattle.ng_base.specs.declared.value.Value.TheVariants as value
use Rattle.ng_base.specs.declared.fault.Fault.TheVariants.{StoreFull}
use Rattle.ng_language.specs.Objects.{set_name}
use Rattle.ng_write.specs.Written.{Written, ◌>>◌}

-- an array with its items
abbrev pub array_with : List Value → Object
array_with items = record { kind = kinds.Array; proto = None; items = items; properties = [] }

-- an object with its named values
abbrev pub plain_with : List (List ℕ × Value) → Object
plain_with properties = record { kind = kinds.Plain; proto = None; items = []; properties = properties }

-- an object more, or StoreFull where 1,000,000 stand
abbrev pub with_object : Object → List Object → Written Value
with_object x objects =
    if nat_lt (length objects) 1000000 then (objects ++ x ∷ [], Ok (value.Obj (record { 0 = length objects })))
    else (objects, Err StoreFull)

-- the values of named values name objects that stand
abbrev pub PropertiesStand : ℕ → List (List ℕ × Value) → Type 0
PropertiesStand count properties = AllByRecursion (λ (p : List ℕ × Value). StandsAmong count p.1) properties

-- named values after others are set one after another: a name that is there keeps its place and gets the new value
abbrev pub entered : List (List ℕ × Value) → List (List ℕ × Value) → List (List ℕ × Value)
entered done [] = done
entered done (p ∷ ps) = entered (insert_entry bytes_eq done p.0 p.1) ps

-- names of an object are set one after another
abbrev pub with_names : List Object → ℕ → List (List ℕ × Value) → List Object
with_names objects o [] = objects
with_names objects o (p ∷ ps) = with_names (set_name objects o p.0 p.1) o ps

-- a view as a value: what stands in a list or record becomes a value first, in order, and then the list or record itself
abbrev mutual
  pub stored : List Object → ViewTree → Written Value
  stored objects (prim v) = (objects, Ok v)
  stored objects (list ts) = stored_views objects [] ts >> λ items now. with_object (array_with items) now
  stored objects (rec fs) = stored_fields objects [] fs >> λ properties now. with_object (plain_with (entered [] properties)) now

  -- values behind those that were made
  pub stored_views : List Object → List Value → ViewTrees → Written (List Value)
  stored_views objects done no_views = (objects, Ok done)
  stored_views objects done (view_then t ts) = stored objects t >> λ v now. stored_views now (done ++ v ∷ []) ts

  -- named values behind those that were made
  pub stored_fields : List Object → List (List ℕ × Value) → ViewFields → Written (List (List ℕ × Value))
  stored_fields objects done no_fields = (objects, Ok done)
  stored_fields objects done (field_then name t fs) = stored objects t >> λ v now. stored_fields now (done ++ (name, v) ∷ []) fs
