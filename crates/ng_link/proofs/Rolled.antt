-- What the instances that the code makes stand for.
use Rattle.std.proofs.Common.{◌≡◌, map}
use Rattle.ng_drawing.specs.Instance.{Instance, Group, instance_with, instances_from, outlets_from}
use Rattle.ng_drawing.specs.InstanceOf.{state_of, Fragments, instance_step, instances_step, instance_of, group_of}
use Rattle.ng_drawing.specs.RolesOf.{role_of}
use Rattle.ng_drawing.specs.declared.instance.Instance as code_instance
use Rattle.ng_drawing.specs.declared.instance.Instance.{roll-Instance}
use Rattle.ng_drawing.specs.declared.instance.Instance.TheOpen.{Instance-F, Instances-F}
use Rattle.ng_drawing.specs.declared.instance.Instance.TheFolds.{fold-roll-Instance, fold-roll-Instances}
use Rattle.ng_drawing.specs.declared.instance.Instances as code_instances
use Rattle.ng_drawing.specs.declared.instance.Instances.{roll-Instances}

pub instance_made : (all : Fragments) (i : Instance-F code_instance.Instance code_instances.Instances)
    → instance_of all (roll-Instance i) ≡ instance_with (all i.origin) i.scope.0 (map state_of i.sites.items) (outlets_from (map (group_of all) i.outlets.items))
instance_made all i = fold-roll-Instance Instance Group (instance_step all) instances_step i

pub group_made : (all : Fragments) (is : Instances-F code_instance.Instance code_instances.Instances) → group_of all (roll-Instances is) ≡ (map role_of is.roles.items, instances_from (map (instance_of all) is.items.items))
group_made all is = fold-roll-Instances Instance Group (instance_step all) instances_step is
