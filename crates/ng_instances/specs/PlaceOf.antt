-- Where an instance stands, as the code says it, and where its nodes are built.
use Rattle.std.specs.Prelude.{ℕ, Option, None, Some, option_and_then, slice_get}
use Rattle.ng_drawing.specs.RolesOf.{role_of}
use Rattle.ng_instances.specs.Changing.{Place, at_top, in_outlet}
use Rattle.ng_instances.specs.Instances.{OutletState, Linked, Instances, linked_at}
use Rattle.ng_instances.specs.declared.linking.Place as code
use Rattle.ng_instances.specs.declared.linking.Place.TheVariants.{Top, Outlet}

abbrev pub place_of : code.Place → Place
place_of Top = at_top
place_of (Outlet holder o i role) = in_outlet holder o i (role_of role)

-- an outlet of an instance
abbrev pub outlet_of_linked : ℕ → Option Linked → Option OutletState
outlet_of_linked o l = option_and_then (λ (one : Linked). slice_get one.page.outlets o) l

-- nodes are built for the top, or for the anchor of an outlet, before its i-th body
abbrev pub spot_from : ℕ → Option OutletState → Option ℕ × ℕ
spot_from i None = (None, 0)
spot_from i (Some x) = (Some x.anchor, i)

abbrev pub spot_for : Place → Instances → Option ℕ × ℕ
spot_for at_top is = (None, 0)
spot_for (in_outlet holder o i role) is = spot_from i (outlet_of_linked o (linked_at holder is))
