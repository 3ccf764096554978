use Rattle.std.proofs.Common.{map, ap, ◌∙◌}
use Rattle.std.specs.Prelude.{slice_get}
use Rattle.ng_drawing.specs.Instance.{state_control}
use Rattle.ng_drawing.specs.InstanceOf.{state_of}
use Rattle.ng_drawing.specs.Looks.{is_seen_true}
use Rattle.ng_render.proofs.Copied.{seen_is}
use Rattle.ng_render.proofs.seen.is_true_at.Goals as goal

pub returns : goal.returns
returns c =
    c.is_seen_true.ensures
    ∙ ap is_seen_true (seen_is c.as_ref.result c.args.shown.now _ (state_control (slice_get (map state_of c.args.over.now.states.now) c.args.n)) c.as_ref.ensures.value c.control_at.ensures)
