-- A key that is drawn nowhere, and which is bound nowhere.
use Rattle.std.proofs.Common.{◌≡◌, ℕ, Bool, false, List, Option, Some, None, refl, ap, ◌∙◌, sym, map, not}
use Rattle.std.specs.Prelude.{◌&&◌, is_some, option_map}
use Rattle.std.specs.BTreeMap.{is_at}
use Rattle.std.specs.Map.{lookup}
use Rattle.std.specs.Ordering.{nat_cmp}
use Rattle.std.proofs.lemmas.Map.Made.{is_some-lookup, lookup-map_values}
use Rattle.ng_base.specs.declared.path.Key.{Key}
use Rattle.ng_drawing.specs.Named.{Named}
use Rattle.ng_instances.specs.Bindings.{bound_in_table}
use Rattle.ng_instances.specs.BoundOf.{bound_of, bounds_of}
use Rattle.ng_instances.specs.Changing.{fills_any, is_drawn_in}
use Rattle.ng_instances.specs.Instances.{Linked, Inners, is_path, linked_for, instance_path}
use Rattle.ng_instances.specs.InstanceOf.{outlet_of, instances_of}
use Rattle.ng_instances.specs.declared.instances.Bound as code_bound
use Rattle.ng_instances.specs.declared.instances.Linked as code
use Rattle.ng_instances.proofs.Places.{for_none, for_some}

-- whether a site is drawn, as the code's table says it
pub drawn_none : (all : List Named) (inner : Inners) (is : List (List ℕ × code.Linked)) (k : Key) → lookup (is_path (instance_path inner k.path)) is ≡ None → is_drawn_in (linked_for inner k.path (instances_of all is)) k ≡ false
drawn_none all inner is k e = ap (λ (o : Option Linked). is_drawn_in o k) (for_none all inner is k e)

-- a number under which nothing is noted
none_bound : (n : ℕ) (es : List (ℕ × code_bound.Bound)) → is_some (lookup (is_at (nat_cmp n)) es) ≡ is_some (bound_in_table n (bounds_of es))
none_bound n es = by_found (lookup (is_at (nat_cmp n)) es) ∙ ap is_some (sym (lookup-map_values bound_of (is_at (nat_cmp n)) es))
  where
    by_found : (o : Option code_bound.Bound) → is_some o ≡ is_some (option_map bound_of o)
    by_found None = refl
    by_found (Some b) = refl

pub drawn_some : (all : List Named) (inner : Inners) (is : List (List ℕ × code.Linked)) (k : Key) (i : code.Linked) → lookup (is_path (instance_path inner k.path)) is ≡ Some i
    → is_drawn_in (linked_for inner k.path (instances_of all is)) k
    ≡ is_some (lookup (is_at (nat_cmp k.serial.0)) i.spots.entries) && (not (fills_any k.serial.0 (map outlet_of i.outlets.items)) && not (is_some (lookup (is_at (nat_cmp k.serial.0)) i.bounds.entries)))
drawn_some all inner is k i e =
    let fills : Bool = not (fills_any k.serial.0 (map outlet_of i.outlets.items)) in
    let noted : Bool = is_some (bound_in_table k.serial.0 (bounds_of i.bounds.entries)) in
    ap (λ (o : Option Linked). is_drawn_in o k) (for_some all inner is k i e)
    ∙ (ap (λ (b : Bool). b && (fills && not noted)) (sym (is_some-lookup (is_at (nat_cmp k.serial.0)) i.spots.entries))
    ∙ ap (λ (b : Bool). is_some (lookup (is_at (nat_cmp k.serial.0)) i.spots.entries) && (fills && not b)) (sym (none_bound k.serial.0 i.bounds.entries)))
