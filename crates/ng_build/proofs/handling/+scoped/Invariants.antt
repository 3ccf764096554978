use Rattle.std.proofs.Common.{◌≡◌, ◌+◌, ◌*◌, drop, map}
use Rattle.ng_drawing.specs.Nodes.{part_nodes, content_nodes, nodes}
use Rattle.ng_drawing.specs.Template.{parts_from}
use Rattle.ng_parts.specs.Seen.{part_of, contents_of}
use Rattle.ng_build.specs.Handlers.{scoped}
use Rattle.ng_build.proofs.handling.+scoped.Given as goal

abbrev pub invariant-enter_scopes-loop-part : goal.invariant-enter_scopes-loop-part
invariant-enter_scopes-loop-part l =
    let left = parts_from (map part_of (drop l.part-index l.parts)) in
    let all = parts_from (map part_of l.parts) in
    record {
      next : l.next + nodes left ≡ l.n + nodes all;
      entered : scoped l.next left l.table.entries ≡ scoped l.n all l.initial.table.entries;
    }

abbrev pub decreases-enter_scope : goal.decreases-enter_scope
decreases-enter_scope l = 3 * part_nodes (part_of l.part.now)

abbrev pub decreases-enter_scopes_in : goal.decreases-enter_scopes_in
decreases-enter_scopes_in l = 3 * content_nodes (contents_of l.contents.now) + 2

abbrev pub decreases-enter_scopes : goal.decreases-enter_scopes
decreases-enter_scopes l = 3 * nodes (parts_from (map part_of l.parts.now)) + 1
