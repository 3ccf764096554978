use Rattle.std.proofs.Common.{◌∷◌, [], None, ap, sym, ◌∙◌, length, length-append, arith}
use Rattle.ng_drawing.specs.Composing.{padded}
use Rattle.ng_compose.proofs.ComposingTurns.{padded_more, padded_all}
use Rattle.ng_compose.proofs.composed.pad.Goals as goal

pub loop-done-preserved : goal.loop-done-preserved
loop-done-preserved c =
    let h = c.loop-done.invariant in
    let at = h.place in
    let size = ap length c.in_ok-push.ensures.items ∙ length-append c.loop-done.moved.items (None ∷ []) in
    record {
      place = omega (arith, at, size);
      rest = ap (padded c.args.n) c.in_ok-push.ensures.items ∙ (padded_more c.args.n c.loop-done.moved.items (omega (arith, at, c.loop-done-test.true)) ∙ h.rest);
    }

pub returns : goal.returns
returns c =
    let h = c.loop-done.invariant in
    let at = h.place in
    sym (padded_all c.args.n c.loop-done.moved.items (omega (arith, at, c.loop-done-test.false))) ∙ h.rest
