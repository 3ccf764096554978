use Rattle.std.proofs.Common.{◌+◌, ap, ◌∙◌, sym}
use Rattle.ng_events.proofs.Quiet.{alone-kept}
use Rattle.ng_events.proofs.listeners.Listeners.drop_scope.Goals as goal

pub invariant_of-self : goal.invariant_of-self
invariant_of-self c =
    let leaves = c.quiet_scope.ensures.leaves in
    record {
      places = λ s n. c.self.invariant.places s n ∙ sym (leaves.places s n);
      alone = alone-kept c.self.inside.stands.items c.quiet_scope.new.stands.items leaves c.self.invariant.alone;
      there = c.quiet_scope.ensures.there;
      known = c.quiet_scope.ensures.known;
      counted = c.self.invariant.counted ∙ ap (λ n. n + c.self.inside.bare) (sym leaves.counted);
      few = c.self.invariant.few;
    }
