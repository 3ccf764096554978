use Rattle.std.proofs.Common.{sym, subst}
use Rattle.ng_dom.specs.Document.{next_name}
use Rattle.ng_drawing.specs.Nodes.{nodes}
use Rattle.ng_drawing.specs.Template.{Parts}
use Rattle.ng_build.specs.Building.{parent_name, IsStood}
use Rattle.ng_build.specs.Shape.{keys_by, shape, unfilled}
use Rattle.ng_instances.proofs.linking.link_nodes.Goals as goal

pub returns-clause-stood : goal.returns-clause-stood
returns-clause-stood c =
    let keys = keys_by c.args.keys.now in
    let n = next_name c.args.dom.now in
    let F : Parts → Type 0 = λ ps. IsStood (parent_name c.args.spot.now.parent) c.args.spot.now.at (shape keys n unfilled ps) (nodes ps) c.args.dom.now c.stand_at.new.dom in
    subst F c.as_slice.ensures
    (record {
      apart = c.build_parts.new.dom;
      builds = c.in_ok-group.ensures.builds;
      put = c.in_ok-stand_at.ensures _ (sym c.in_ok-group.ensures.names) c.in_ok-group.ensures.builds.reads;
    })
