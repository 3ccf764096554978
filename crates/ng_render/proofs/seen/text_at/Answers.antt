use Rattle.std.proofs.Common.{◌≡◌, map, subst}
use Rattle.std.specs.Prelude.{slice_get, IfOk}
use Rattle.ng_drawing.specs.Instance.{state_control}
use Rattle.ng_drawing.specs.InstanceOf.{state_of}
use Rattle.ng_drawing.specs.Looks.{Seen}
use Rattle.ng_render.proofs.Copied.{seen_is}
use Rattle.ng_render.proofs.seen.text_at.Goals as goal

pub returns : goal.returns
returns c =
    subst (λ (s : Seen). IfOk c.seen_text.result (λ t. t ≡ s.text)) (seen_is c.as_ref.result c.args.shown.now _ (state_control (slice_get (map state_of c.args.over.now.states.now) c.args.n)) c.as_ref.ensures.value c.control_at.ensures)
    c.seen_text.ensures
