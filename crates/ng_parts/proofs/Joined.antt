-- Parts, and parts after them.
use Rattle.std.proofs.Common.{◌≡◌, refl, ap}
use Rattle.ng_drawing.specs.Template.{Part, Parts, no_parts, part_then, with_part}

-- parts, and others after them
abbrev pub joined : Parts → Parts → Parts
joined no_parts qs = qs
joined (part_then p ps) qs = part_then p (joined ps qs)

pub joined-none : (ps : Parts) → joined ps no_parts ≡ ps
joined-none no_parts = refl
joined-none (part_then p ps) = ap (part_then p) (joined-none ps)

pub joined-one : (ps : Parts) (p : Part) (qs : Parts) → joined (with_part ps p) qs ≡ joined ps (part_then p qs)
joined-one no_parts p qs = refl
joined-one (part_then q ps) p qs = ap (part_then q) (joined-one ps p qs)
