use Rattle.std.proofs.Common.{drop, length, map}
use Rattle.ng_link.specs.State.{state_of}
use Rattle.ng_parse.specs.ProgramOf.{program}
use Rattle.ng_page.specs.Dispatched.{told_all}
use Rattle.ng_commands.specs.HandlingOf.{going, happening_seen, MadeBelow}
use Rattle.ng_page.specs.EventSeen.{IsStill, LastSettled}
use Rattle.ng_commands.specs.BetweenSteps.{PageIs}
use Rattle.ng_page.proofs.Bubbling.{HandledSoFar}
use Rattle.ng_page.proofs.dispatching.handle_all.Given as goal

abbrev pub invariant-loop-p : goal.invariant-loop-p
invariant-loop-p l = record {
  page : PageIs l.engine.works;
  below : MadeBelow (length l.engine.works.core.store) l.dispatch.event;
  settled : LastSettled l.dispatch.outcomes (state_of l.engine.works);
  still : IsStill l.initial.dispatch l.dispatch l.initial.engine l.engine;
  handled : HandledSoFar (happening_seen l.happening) l.n (map program l.list) (map program (drop l.p-index l.list)) (going l.initial.engine.works l.initial.dispatch.event) (going l.engine.works l.dispatch.event) (told_all l.initial.dispatch.outcomes) (told_all l.dispatch.outcomes);
}
