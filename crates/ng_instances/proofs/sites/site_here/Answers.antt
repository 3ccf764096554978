use Rattle.std.proofs.Common.{◌≡◌, ◌∙◌, ℕ, Bool, List, Option, Some, None, ap, sym, subst}
use Rattle.std.specs.Map.{lookup}
use Rattle.std.specs.Option.{option_copied}
use Rattle.std.specs.Prelude.{IfOk, is_some, option_and_then}
use Rattle.ng_instances.specs.Bindings.{bound_in_table}
use Rattle.ng_instances.specs.BoundOf.{bounds_of}
use Rattle.ng_instances.specs.Due.{all_due}
use Rattle.ng_instances.specs.Instances.{Linked, bound_for, instance_path, is_path, linked_for}
use Rattle.ng_instances.specs.InstanceOf.{instances_of, linked_of, spot_at, spot_in}
use Rattle.ng_instances.specs.SiteHere.{StandsAs}
use Rattle.ng_instances.specs.declared.instances.Linked as code
use Rattle.ng_instances.proofs.Places.{for_some, site_none, site_some}
use Rattle.ng_instances.proofs.sites.site_here.Goals as goal

pub returns-in-None : goal.returns-in-None
returns-in-None c =
    let inner = c.args.inner.now.entries in
    let is = c.args.instances.now.entries in
    let k = c.args.key.now in
    let none : lookup (is_path (instance_path inner k.path)) is ≡ None = ap (λ (p : List ℕ). lookup (is_path p) is) (sym c.instance_path-path.ensures) ∙ (sym c.get.ensures.value ∙ ap option_copied c.in-None.is) in
    λ all. (site_none all inner is k none, ap (option_and_then (λ (i : code.Linked). spot_at i k)) none)

pub returns-in-Some : goal.returns-in-Some
returns-in-Some c =
    let inner = c.args.inner.now.entries in
    let is = c.args.instances.now.entries in
    let k = c.args.key.now in
    let i = c.in-Some.one.now in
    let r = c.site_in.result in
    let at : lookup (is_path (instance_path inner k.path)) is ≡ Some i = ap (λ (p : List ℕ). lookup (is_path p) is) (sym c.instance_path-path.ensures) ∙ (sym c.get.ensures.value ∙ ap option_copied c.in-Some.is) in
    let spot : spot_in inner is k ≡ spot_at i k = ap (option_and_then (λ (j : code.Linked). spot_at j k)) at in
    λ all. subst (λ (b : Bool). IfOk r (StandsAs b (spot_in inner is k) (bound_for inner (instances_of all is) k) (all_due k (linked_for inner k.path (instances_of all is))))) (sym (site_some all inner is k i at))
    (subst (λ (o : Option ℕ). IfOk r (StandsAs (is_some (spot_at i k)) o (bound_for inner (instances_of all is) k) (all_due k (linked_for inner k.path (instances_of all is))))) (sym spot)
    (subst (λ (o : Option Linked). IfOk r (StandsAs (is_some (spot_at i k)) (spot_at i k) (option_and_then (λ (l : Linked). bound_in_table k.serial.0 l.page.bounds) o) (all_due k o))) (sym (for_some all inner is k i at))
    (subst (λ (p : List ℕ). IfOk r (StandsAs (is_some (spot_at i k)) (spot_at i k) (bound_in_table k.serial.0 (bounds_of i.bounds.entries)) (all_due k (Some (linked_of all p i))))) c.instance_path-path.ensures
    (c.site_in.ensures all))))
