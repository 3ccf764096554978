-- How a site is watched, as the code has it.
use Rattle.std.specs.Prelude.{option_map}
use Rattle.ng_value.specs.Snaps.{snap_of}
use Rattle.ng_instances.specs.Rows.{Row}
use Rattle.ng_instances.specs.declared.placing.Row as code

abbrev pub row_of : code.Row → Row
row_of r = record { key = r.key; object = r.object.0; way = option_map (λ w. (w.0.0, w.1)) r.way; kept = option_map snap_of r.kept }
