use Rattle.std.proofs.Common.{List, length, map, subst, sym}
use Rattle.std.specs.List.{AllByRecursion}
use Rattle.ng_core.specs.Frames.{TaskStands, task_of}
use Rattle.ng_core.specs.declared.pending.Task.{Task}
use Rattle.ng_commands.proofs.Wholes.{all_pushed, queued_page}
use Rattle.ng_commands.proofs.running.queue.Goals as goal

pub returns-clause-page : goal.returns-clause-page
returns-clause-page c =
    let w = c.args.works.now in
    let whole = c.requires.works.whole in
    queued_page w (record w.core { tasks = c.push_back.new.self })
    (subst (λ (ts : List Task). AllByRecursion (TaskStands (length w.core.scopes)) (map task_of ts)) (sym {A = List Task} c.in_ok-push_back.ensures.items) (all_pushed (length w.core.scopes) w.core.tasks.items _ whole.sound.tasks whole.root)) c.requires
