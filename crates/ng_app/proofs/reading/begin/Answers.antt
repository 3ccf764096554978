use Rattle.std.proofs.Common.{◌≡◌, ◌∙◌, ◌≤◌, length, ap, arith, sym}
use Rattle.std.proofs.lemmas.List.{length-map}
use Rattle.ng_core.specs.Frames.{change_of, fun_of, task_of}
use Rattle.ng_events.specs.Stands.{open_of}
use Rattle.ng_core.specs.State.{State}
use Rattle.ng_app.proofs.reading.begin.Goals as goal

pub returns-in-Ok-clause-fresh : goal.returns-in-Ok-clause-fresh
returns-in-Ok-clause-fresh c =
    let core = c.in-Ok.core in
    let begun = c.in-Ok.ensures.state in
    let sound = c.in-Ok.ensures.sound in
    let depth : core.depth ≡ 0 = c.in-Ok.ensures.depth in
    let few : open_of core.listeners ≤ core.depth = sound.room in
    record {
      root = ap (λ (s : State). length s.scopes) begun;
      objects = sound.objects;
      parents = sound.parents;
      locals = ap (λ (s : State). length s.locals) begun;
      funs = sym (length-map core.funs.items fun_of) ∙ ap (λ (s : State). length s.funs) begun;
      tasks = sym (length-map core.tasks.items task_of) ∙ ap (λ (s : State). length s.tasks) begun;
      changes = sym (length-map core.changes.items change_of) ∙ ap (λ (s : State). length s.changes) begun;
      depth = depth;
      room = grind arith;
    }
