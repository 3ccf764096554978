-- What is known of what is laid out of an instance, before its nodes are made.
use Rattle.std.specs.Prelude.{ℕ, ◌≡◌, [], List, map}
use Rattle.ng_behaviour.specs.Scopes.{Scope, path_at}
use Rattle.ng_drawing.specs.Template.{Fragment}
use Rattle.ng_drawing.specs.declared.origin.Origin.{Origin}
use Rattle.ng_instances.specs.BoundOf.{inner_of}
use Rattle.ng_instances.specs.Changing.{inner_on, outlets_on}
use Rattle.ng_build.specs.Controls.{controlled}
use Rattle.ng_build.specs.Handlers.{handled, scoped}
use Rattle.ng_instances.specs.MarksOf.{marks_of}
use Rattle.ng_instances.specs.Registering.{Ground, marks_from, keys_on}
use Rattle.ng_build.specs.Shape.{keys_or, anchors}
use Rattle.ng_build.specs.HandledOf.{handled_of, controlled_of}
use Rattle.ng_instances.specs.InstanceOf.{outlet_of}
use Rattle.ng_instances.specs.declared.linking.Laid as code_laid

-- What an instance of a fragment on a scope has beside its nodes and watchers.
pub record IsLaid (scopes : List Scope) (which : Origin) (scope : ℕ) (f : Fragment) (g : Ground) (serials : List ℕ) (node : ℕ) (laid : code_laid.Laid) : Type 0 where
  pub handlers : handled_of laid.handlers.entries ≡ handled node f.parts []
  pub controls : controlled_of laid.controls.entries ≡ controlled (keys_or (path_at scopes scope) (keys_on scopes f g 0 serials)) node f.parts []
  pub outlets : map outlet_of laid.outlets.items ≡ outlets_on which g serials f (anchors node f.parts)
  pub inner : map inner_of laid.inner.items ≡ inner_on scopes g.scopes
  pub marks : marks_of laid.marks.entries ≡ marks_from f 0 serials []
  pub elements : laid.elements.entries ≡ scoped node f.parts []
  pub keys : laid.keys.items ≡ keys_on scopes f g 0 serials
