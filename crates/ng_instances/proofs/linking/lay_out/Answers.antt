use Rattle.std.proofs.Common.{◌≡◌, ℕ, List, [], ap, ◌∙◌, map}
use Rattle.ng_base.specs.declared.path.Key.{Key}
use Rattle.ng_behaviour.specs.Scopes.{path_at}
use Rattle.ng_drawing.specs.Template.{Parts, Fragment, parts_from}
use Rattle.ng_parts.specs.FragmentOf.{fragment_of}
use Rattle.ng_parts.specs.Seen.{part_of}
use Rattle.ng_build.specs.Controls.{controlled}
use Rattle.ng_build.specs.Handlers.{handled, scoped}
use Rattle.ng_build.specs.Shape.{keys_or}
use Rattle.ng_instances.proofs.linking.lay_out.Goals as goal

pub returns : goal.returns
returns c =
    let f : Fragment = fragment_of c.args.fragment.now in
    let n : ℕ = c.args.node in
    let parts : parts_from (map part_of c.as_slice-parts.result.now) ≡ f.parts = c.as_slice-parts.ensures ∙ c.parts.ensures in
    let ps : List ℕ = path_at c.args.core.now.scopes c.args.scope.0 in
    record {
      handlers = c.in_ok-handlers.ensures ∙ ap (λ (x : Parts). handled n x []) parts;
      controls = c.in_ok-controls.ensures
          ∙ (ap (λ (x : Parts). controlled (keys_or c.path-path.result.now c.as_slice.result.now) n x []) parts
          ∙ (ap (λ (p : List ℕ). controlled (keys_or p c.as_slice.result.now) n f.parts []) c.path-path.ensures
          ∙ ap (λ (ks : List Key). controlled (keys_or ps ks) n f.parts []) (c.as_slice.ensures.value ∙ c.in_ok-keys.ensures)));
      outlets = c.in_ok-outlets.ensures;
      inner = c.in_ok-inner.ensures;
      marks = c.in_ok-marks.ensures;
      elements = c.in_ok-elements.ensures ∙ ap (λ (x : Parts). scoped n x []) parts;
      keys = c.in_ok-keys.ensures;
    }
