-- What the borrowed values of the code stand for.
use Rattle.std.specs.Prelude.{ℕ, pos, List, Vec}
use Rattle.std.specs.declared.alloc.Global.{Global}
use Rattle.ng_base.specs.Objects.{Object}
use Rattle.ng_base.specs.Views.{ViewTree, prim, list, rec, views_list}
use Rattle.ng_base.specs.declared.view.Views.{Views}
use Rattle.ng_base.specs.ViewOf.{view_of, views_of, fields_of}
use Rattle.ng_base.specs.declared.value.Value.TheVariants as value
use Rattle.ng_language.specs.Unfolding.{Field}
use Rattle.ng_filters.specs.declared.view_ref.ViewRef.{ViewRef}
use Rattle.ng_filters.specs.declared.view_ref.ViewRef.TheVariants as refs
use Rattle.ng_filters.specs.declared.properties.Property.{Property}
use Rattle.ng_filters.specs.declared.keys.Key.{Key}
use Rattle.ng_filters.specs.declared.ordering.Row.{Row}
use Rattle.ng_filters.specs.declared.predicates.Predicate.{Predicate}
use Rattle.ng_filters.specs.Ordering.{keys_at}

abbrev pub seen : ViewRef → ViewTree
seen refs.Undefined = prim value.Undefined
seen refs.Null = prim value.Null
seen (refs.Bool b) = prim (value.Bool b)
seen (refs.Int n) = prim (value.Int n)
seen (refs.Length n) = prim (value.Int (pos n))
seen refs.Nan = prim value.Nan
seen (refs.Text t) = prim (value.Text t.now)
seen (refs.Obj o) = prim (value.Obj o)
seen (refs.Fun f) = prim (value.Fun f)
seen (refs.List ts) = list (views_of ts.now)
seen (refs.Rec fs) = rec (fields_of fs.now)

-- a named value
abbrev pub field_seen : Property → Field
field_seen p = (p.name, seen p.value)

-- an item with its keys
abbrev pub row_seen : Row → ViewTree × List Key
row_seen r = (view_of r.item, r.keys.items)

abbrev pub indexed_seen : ℕ × Property → ℕ × Field
indexed_seen e = (e.0, field_seen e.1)

abbrev pub views_seen : Views → List ViewTree
views_seen v = views_list (views_of v)

abbrev pub all_predicates : Vec Predicate Global → List Predicate
all_predicates v = v.items

abbrev pub with_keys : List Object → List Predicate → ViewTree → ViewTree × List Key
with_keys objects ps t = (t, keys_at objects ps t)
