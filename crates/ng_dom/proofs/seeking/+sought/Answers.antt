use Rattle.std.proofs.Common.{arith, map, refl, sym, ◌∙◌, [], ◌∷◌}
use Rattle.std.proofs.lemmas.Grind.{common_steps}
use Rattle.ng_dom.specs.Nodes.{named_anchor}
use Rattle.ng_dom.specs.Printed.{level_groups}
use Rattle.ng_dom.specs.Walks.{read, read_groups}
use Rattle.ng_dom.specs.Kept.{rooms_of}
use Rattle.ng_dom.proofs.Levels.{seek_steps, seek-found, seek-passed}
use Rattle.ng_dom.proofs.seeking.+sought.Goals as goal

pub seek_all-loop-n-preserved : goal.seek_all-loop-n-preserved
seek_all-loop-n-preserved t c = grind (arith, common_steps, seek_steps)

pub seek_all-returns-in-Found : goal.seek_all-returns-in-Found
seek_all-returns-in-Found t c = grind (arith, common_steps, seek_steps)

pub seek_groups-loop-group-preserved : goal.seek_groups-loop-group-preserved
seek_groups-loop-group-preserved t c = grind (arith, common_steps, seek_steps)

pub seek_groups-returns-in-Found : goal.seek_groups-returns-in-Found
seek_groups-returns-in-Found t c = grind (arith, common_steps, seek_steps)

pub seek_anchor-returns-in-Found : goal.seek_anchor-returns-in-Found
seek_anchor-returns-in-Found t c =
    let gs = read_groups (read c.args.deep (rooms_of c.args.nodes.now)) (map (λ g. g.items) c.args.groups.now) in
    let x = named_anchor c.args.n gs in
    sym (seek-found c.args.until c.args.left (x ∷ []) (level_groups gs) c.in-Found.m c.in-Found.j (sym (c.seek_one.ensures x refl) ∙ c.in-Found.is))

pub seek_anchor-returns-in-Left : goal.seek_anchor-returns-in-Left
seek_anchor-returns-in-Left t c =
    let gs = read_groups (read c.args.deep (rooms_of c.args.nodes.now)) (map (λ g. g.items) c.args.groups.now) in
    let x = named_anchor c.args.n gs in
    c.seek_groups.ensures ∙ sym (seek-passed c.args.until c.args.left (x ∷ []) (level_groups gs) c.in-Left.j (sym (c.seek_one.ensures x refl) ∙ c.in-Left.is))
