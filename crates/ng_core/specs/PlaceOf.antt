-- What places and callees of the code stand for, and which of them stand.
use Rattle.std.specs.Prelude.{ℕ, ◌<◌}
use Rattle.ng_base.specs.ViewOf.{view_of}
use Rattle.ng_base.specs.Views.{ViewTree}
use Rattle.ng_base.specs.declared.view.View.{View}
use Rattle.ng_language.specs.Views.{ViewStands}
use Rattle.ng_core.specs.Places.{Place, bare, within}
use Rattle.ng_core.specs.declared.called.Called.{Called}
use Rattle.ng_core.specs.declared.called.Called.TheVariants as calls
use Rattle.ng_core.specs.declared.places.Place.{Place as Written}
use Rattle.ng_core.specs.declared.places.Place.TheVariants as places

abbrev pub place_of : Written → Place
place_of (places.Bare name) = bare name
place_of (places.Within v name) = within (view_of v) name

abbrev pub PlaceStands : ℕ → Written → Type 0
PlaceStands n (places.Bare name) = Unit {0}
PlaceStands n (places.Within v name) = ViewStands n (view_of v)

abbrev pub reached_of : View × Called → ViewTree × Called
reached_of r = (view_of r.0, r.1)

-- the object or the scope that a method is called on is one of so many
abbrev pub TargetStands : ℕ → ℕ → Called → Type 0
TargetStands n m (calls.OfArray o c) = o.0 < n
TargetStands n m (calls.OfEvent o c) = o.0 < n
TargetStands n m (calls.OfScope s c) = s.0 < m
TargetStands n m calls.Nothing = Unit {0}
TargetStands n m (calls.Function f) = Unit {0}
TargetStands n m (calls.Pure c) = Unit {0}
TargetStands n m calls.Other = Unit {0}
