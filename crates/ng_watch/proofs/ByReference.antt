-- A value that is kept by reference is kept as it is.
use Rattle.std.proofs.Common.{◌≡◌, refl, List, Ok}
use Rattle.ng_base.specs.Objects.{Object}
use Rattle.ng_base.specs.Views.{prim}
use Rattle.ng_base.specs.declared.value.Value.{Value}
use Rattle.ng_base.specs.declared.value.Value.TheVariants as value
use Rattle.ng_language.specs.Unfolding.{level_limit, node_limit}
use Rattle.ng_language.specs.declared.snapshots.SnapKind.TheVariants as snaps
use Rattle.ng_value.specs.Taken.{taken}

pub kept_as_is : (objects : List Object) (v : Value) → taken snaps.Reference objects (prim v) ≡ Ok (prim v)
unfolding level_limit node_limit
kept_as_is objects value.Undefined = refl
kept_as_is objects value.Null = refl
kept_as_is objects (value.Bool b) = refl
kept_as_is objects (value.Int n) = refl
kept_as_is objects value.Nan = refl
kept_as_is objects (value.Text t) = refl
kept_as_is objects (value.Obj o) = refl
kept_as_is objects (value.Fun f) = refl
