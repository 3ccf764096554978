-- What the instances of the code stand for.
use Rattle.std.specs.Prelude.{ℕ, List, Option, map, option_and_then}
use Rattle.std.specs.BTreeMap.{is_at}
use Rattle.std.specs.Ordering.{nat_cmp}
use Rattle.std.specs.Map.{lookup, keys_of as map_keys}
use Rattle.ng_base.specs.declared.path.Key.{Key}
use Rattle.ng_drawing.specs.RolesOf.{role_of}
use Rattle.ng_drawing.specs.Named.{Named, fragments_in}
use Rattle.ng_parts.specs.FragmentOf.{filling_of}
use Rattle.ng_instances.specs.BoundOf.{bounds_of, inner_of}
use Rattle.ng_instances.specs.Instances.{Body, OutletState, Page, Linked, Instances, Inners, is_path, instance_path}
use Rattle.ng_instances.specs.MarksOf.{marks_of}
use Rattle.ng_instances.specs.declared.instances.Body as code_body
use Rattle.ng_instances.specs.declared.instances.OutletState as code_outlet
use Rattle.ng_instances.specs.declared.instances.Linked as code
use Rattle.ng_build.specs.HandledOf.{handled_of, controlled_of}

abbrev pub body_of : code_body.Body → Body
body_of b = record { path = b.path; role = role_of b.role }

abbrev pub outlet_of : code_outlet.OutletState → OutletState
outlet_of o = record { serial = o.serial; home = o.home; scope = o.scope.0; outsides = map (λ s. s.0) o.outsides.items; filling = filling_of o.filling; anchor = o.anchor; bodies = map body_of o.bodies.items }

-- an instance keeps under the number of each site the node that it is drawn in
abbrev pub page_of : List ℕ → code.Linked → Page
page_of path i = record {
  origin = i.origin;
  scope = i.scope.0;
  path = path;
  serials = map_keys i.spots.entries;
  node = i.node;
  handlers = handled_of i.handlers.entries;
  controls = controlled_of i.controls.entries;
  outlets = map outlet_of i.outlets.items;
  inner = map inner_of i.inner.items;
  marks = marks_of i.marks.entries;
  elements = i.elements.entries;
  bounds = bounds_of i.bounds.entries;
}

abbrev pub linked_of : List Named → List ℕ → code.Linked → Linked
linked_of all path i = record { fragment = fragments_in all i.origin; page = page_of path i }

abbrev pub instances_of : List Named → List (List ℕ × code.Linked) → Instances
instances_of all is = map (λ e. (e.0, linked_of all e.0 e.1)) is

-- the node that the site of a key is drawn in
abbrev pub spot_at : code.Linked → Key → Option ℕ
spot_at i k = lookup (is_at (nat_cmp k.serial.0)) i.spots.entries

abbrev pub spot_in : Inners → List (List ℕ × code.Linked) → Key → Option ℕ
spot_in inner is k = option_and_then (λ i. spot_at i k) (lookup (is_path (instance_path inner k.path)) is)
