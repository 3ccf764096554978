-- What is seen of a site is that of what stands behind references.
use Rattle.std.proofs.Common.{◌≡◌, Bor, Option, None, Some, refl, ap, ◌∙◌}
use Rattle.std.specs.Prelude.{option_map, option_copied}
use Rattle.ng_control.specs.State.{ControlState}
use Rattle.ng_drawing.specs.Looks.{seen_by}
use Rattle.ng_value.specs.Snaps.{snap_of}
use Rattle.ng_value.specs.declared.snapshot.Snap.{Snap}

copied_map : {X Y : Type 0} (f : X → Y) (o : Option (Bor X)) → option_map (λ (r : Bor X). f r.now) o ≡ option_map f (option_copied o)
copied_map f None = refl
copied_map f (Some r) = refl

pub seen_is : (kept : Option (Bor Snap)) (shown : Option Snap) (had : Option ControlState) (control : Option ControlState) → option_copied kept ≡ shown → had ≡ control
    → seen_by had (option_map (λ (r : Bor Snap). snap_of r.now) kept) ≡ seen_by control (option_map snap_of shown)
seen_is kept shown had control e f = ap (seen_by had) (copied_map snap_of kept ∙ ap (option_map snap_of) e) ∙ ap (λ (c : Option ControlState). seen_by c (option_map snap_of shown)) f
