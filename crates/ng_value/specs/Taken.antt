-- What a snapshot takes of a value (guide: Scopes, "Scope `$watch` Depths").
use Rattle.std.specs.Prelude.{List, Result, Ok}
use Rattle.ng_base.specs.Objects.{Object, object_at}
use Rattle.ng_base.specs.Views.{ViewTree, prim, list, rec, views_from, fields_from}
use Rattle.ng_base.specs.declared.fault.Fault.{Fault}
use Rattle.ng_base.specs.declared.value.Value.{Value}
use Rattle.ng_base.specs.declared.value.Value.TheVariants as value
use Rattle.ng_language.specs.Snapshots.{snapshot}
use Rattle.ng_language.specs.Unfolding.{below_object, prims, own_entries}
use Rattle.ng_language.specs.declared.snapshots.SnapKind.{SnapKind}
use Rattle.ng_language.specs.declared.snapshots.SnapKind.TheVariants as snaps
use Rattle.ng_language.specs.declared.unfolding.Below.{Below}
use Rattle.ng_language.specs.declared.unfolding.Below.TheVariants as below
use Rattle.ng_language.specs.declared.unfolding.Mode.TheVariants as modes

-- the items of a stored array, or the named values of another object in the order of keys, as they are
abbrev pub taken_object : Below → Value → Object → ViewTree
taken_object below.Nothing v x = prim v
taken_object below.Items v x = list (views_from (prims x.items))
taken_object below.Names v x = rec (fields_from (own_entries x))

abbrev pub collected : List Object → Value → ViewTree
collected objects (value.Obj o) = taken_object (below_object modes.Collection (object_at objects o.0).kind) (value.Obj o) (object_at objects o.0)
collected objects v = prim v

-- What a collection takes of a stored object is not counted, and so never too big.
abbrev pub taken : SnapKind → List Object → ViewTree → Result ViewTree Fault
taken snaps.Collection objects (prim v) = Ok (collected objects v)
taken kind objects t = snapshot kind objects t
