use Rattle.std.proofs.Common.{ap, ◌∙◌}
use Rattle.std.specs.BTreeMap.{insert_entry}
use Rattle.std.specs.Ordering.{nat_cmp}
use Rattle.ng_build.specs.Controls.{ControlHere}
use Rattle.ng_build.specs.HandledOf.{control_of, controlled_of}
use Rattle.ng_build.proofs.Tables.{put-seen}
use Rattle.ng_build.proofs.controls.enter_one.Goals as goal

pub returns : goal.returns
returns c =
    ap controlled_of c.in_ok-insert.ensures.entries
    ∙ (put-seen control_of nat_cmp c.args.n c.in_ok-one.one c.args.table.now.entries
    ∙ ap (λ (h : ControlHere). insert_entry nat_cmp (controlled_of c.args.table.now.entries) c.args.n h) c.in_ok-one.ensures)
