-- What an instance of the code stands for, where it is known of which fragment each is one.
use Rattle.std.specs.Prelude.{List, map, option_map}
use Rattle.ng_value.specs.Snaps.{snap_of}
use Rattle.ng_drawing.specs.Instance.{SiteState, Instance, Instances, Group, instance_with, instances_from, outlets_from}
use Rattle.ng_drawing.specs.Roles.{Role}
use Rattle.ng_drawing.specs.RolesOf.{role_of}
use Rattle.ng_drawing.specs.Template.{Fragment}
use Rattle.ng_drawing.specs.declared.instance.SiteState as code_state
use Rattle.ng_drawing.specs.declared.instance.Instance as code_instance
use Rattle.ng_drawing.specs.declared.instance.Instances as code_instances
use Rattle.ng_drawing.specs.declared.instance.Instance.{fold-Instance}
use Rattle.ng_drawing.specs.declared.instance.Instances.{fold-Instances}
use Rattle.ng_drawing.specs.declared.instance.Instance.TheOpen.{Instance-F, Instances-F}
use Rattle.ng_drawing.specs.declared.origin.Origin.{Origin}

abbrev pub state_of : code_state.SiteState → SiteState
state_of s = record { key = s.key; scope = s.scope.0; kept = option_map snap_of s.kept; rests = s.rests; control = s.control }

-- the fragment that an instance is one of
abbrev pub Fragments : Type 0
Fragments = Origin → Fragment

-- one level, with the bodies inside seen already
abbrev pub instance_step : Fragments → Instance-F Instance Group → Instance
instance_step fragments v = instance_with (fragments v.origin) v.scope.0 (map state_of v.sites.items) (outlets_from v.outlets.items)

abbrev pub instances_step : Instances-F Instance Group → Group
instances_step v = (map role_of v.roles.items, instances_from v.items.items)

abbrev pub instance_of : Fragments → code_instance.Instance → Instance
instance_of fragments = fold-Instance Instance Group (instance_step fragments) instances_step

-- the bodies in an outlet, with what each stands for
abbrev pub group_of : Fragments → code_instances.Instances → Group
group_of fragments = fold-Instances Instance Group (instance_step fragments) instances_step

abbrev pub roles_of : Fragments → code_instances.Instances → List Role
roles_of fragments is = (group_of fragments is).0

abbrev pub instances_of : Fragments → code_instances.Instances → Instances
instances_of fragments is = (group_of fragments is).1
