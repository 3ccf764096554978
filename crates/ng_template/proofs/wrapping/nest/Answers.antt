use Rattle.std.proofs.Common.{◌≡◌, ◌∙◌, ◌++◌, ◌∷◌, [], length, length-append, ap, arith}
use Rattle.std.proofs.lemmas.List.{length-map}
use Rattle.ng_parts.specs.FragmentOf.{fragment_of, fragments_of}
use Rattle.ng_template.proofs.Wraps.{nested-turn}
use Rattle.ng_template.proofs.wrapping.nest.Goals as goal

pub loop-head-preserved : goal.loop-head-preserved
loop-head-preserved c =
    let before = c.loop-head.bodies.items in
    let size : c.len.result ≡ length (fragments_of before) = omega (arith, length-map before fragment_of) in
    let more : length c.push.new.self.items ≡ length (before ++ c.in_ok-body.body ∷ []) = ap length c.in_ok-push.ensures.items in
    let fewer : length c.loop-head.left.items ≡ length (c.pop.new.self.items ++ c.in-Some.head ∷ []) = ap length c.in-Some.ensures.items in
    record {
      bodies = nested-turn c.loop-head.left.items c.pop.new.self.items c.in-Some.head before c.push.new.self.items c.in_ok-body.body c.in-Some.ensures.items c.in_ok-push.ensures.items
          (c.in_ok-body.ensures (fragments_of before) size)
          ∙ c.loop-head.invariant.bodies;
      fits = omega (arith, more, fewer, length-append before (c.in_ok-body.body ∷ []), length-append c.pop.new.self.items (c.in-Some.head ∷ []), c.loop-head.invariant.fits);
    }
