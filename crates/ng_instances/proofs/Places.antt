-- Where the sites of instances are drawn.
use Rattle.std.proofs.Common.{◌≡◌, ℕ, true, false, List, Option, Some, None, ap, ◌∙◌, sym}
use Rattle.std.specs.BTreeMap.{is_at}
use Rattle.std.specs.Map.{lookup}
use Rattle.std.specs.Ordering.{nat_cmp}
use Rattle.std.specs.Prelude.{IsSome, is_some, option_and_then, option_map}
use Rattle.std.proofs.lemmas.Map.Made.{is_some-lookup}
use Rattle.ng_base.specs.declared.path.Key.{Key}
use Rattle.ng_drawing.specs.Named.{Named}
use Rattle.ng_instances.specs.Instances.{Linked, Inners, is_path, linked_at, linked_for, instance_path, is_site_in, is_site}
use Rattle.ng_instances.specs.InstanceOf.{linked_of, instances_of, spot_at}
use Rattle.ng_instances.specs.declared.instances.Linked as code
use Rattle.ng_instances.proofs.Listed.{found-seen}

-- the instance on a path, as it stands in the table
pub linked_seen : (all : List Named) (p : List ℕ) (is : List (List ℕ × code.Linked)) → linked_at p (instances_of all is) ≡ option_map (linked_of all p) (lookup (is_path p) is)
linked_seen all p is = found-seen (linked_of all) p is

-- what has a place is a site
pub spot_site : (all : List Named) (p : List ℕ) (o : Option code.Linked) (k : Key) → IsSome (option_and_then (λ (i : code.Linked). spot_at i k) o) → is_site_in (option_map (linked_of all p) o) k ≡ true
spot_site all p None k h = absurd (cc)
spot_site all p (Some i) k h = sym (is_some-lookup (is_at (nat_cmp k.serial.0)) i.spots.entries) ∙ h

-- whether a key is that of a site, as the code's table says it
module _ (all : List Named) (inner : Inners) (is : List (List ℕ × code.Linked)) (k : Key) where
  abbrev on : List ℕ
  on = instance_path inner k.path

  pub for_none : lookup (is_path on) is ≡ None → linked_for inner k.path (instances_of all is) ≡ None
  for_none e = linked_seen all on is ∙ ap (option_map (linked_of all on)) e

  pub for_some : (i : code.Linked) → lookup (is_path on) is ≡ Some i → linked_for inner k.path (instances_of all is) ≡ Some (linked_of all on i)
  for_some i e = linked_seen all on is ∙ ap (option_map (linked_of all on)) e

  pub site_none : lookup (is_path on) is ≡ None → is_site inner (instances_of all is) k ≡ false
  site_none e = ap (λ (o : Option Linked). is_site_in o k) (for_none e)

  pub site_some : (i : code.Linked) → lookup (is_path on) is ≡ Some i → is_site inner (instances_of all is) k ≡ is_some (lookup (is_at (nat_cmp k.serial.0)) i.spots.entries)
  site_some i e = ap (λ (o : Option Linked). is_site_in o k) (for_some i e) ∙ sym (is_some-lookup (is_at (nat_cmp k.serial.0)) i.spots.entries)
