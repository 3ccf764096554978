use Rattle.std.proofs.Common.{◌≡◌, [], drop, length}
use Rattle.ng_link.specs.State.{state_of}
use Rattle.ng_page.specs.Dispatched.{told_all}
use Rattle.ng_commands.specs.HandlingOf.{going, happening_seen, MadeBelow}
use Rattle.ng_page.specs.EventSeen.{LastSettled}
use Rattle.ng_commands.specs.BetweenSteps.{PageIs}
use Rattle.ng_commands.specs.declared.handling.Event.TheVariants as events
use Rattle.ng_page.proofs.Bubbling.{BubbledSoFar}
use Rattle.ng_page.proofs.dispatching.bubble.Given as goal

abbrev pub invariant-loop-n : goal.invariant-loop-n
invariant-loop-n l = record {
  page : PageIs l.engine.works;
  below : MadeBelow (length l.engine.works.core.store) l.dispatch.event;
  settled : LastSettled l.dispatch.outcomes (state_of l.engine.works);
  still : l.dispatch.outcomes ≡ [] → l.engine ≡ l.initial.engine;
  bubbled : BubbledSoFar (happening_seen l.happening) l.way (drop l.n-index l.way) (going l.initial.engine.works events.Unmade) (going l.engine.works l.dispatch.event) (told_all l.dispatch.outcomes);
}
