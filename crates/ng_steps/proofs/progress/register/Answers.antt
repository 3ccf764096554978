use Rattle.std.proofs.Common.{◌≡◌, ◌+◌, rules, refl, arith}
use Rattle.ng_core.specs.Frames.{IsSound}
use Rattle.ng_core.specs.declared.core_state.Core.{Core}
use Rattle.ng_changes.proofs.Wholes.{whole_after}
use Rattle.ng_steps.proofs.progress.register.Goals as goal

pub returns-clause-whole : goal.returns-clause-whole
returns-clause-whole c =
    let w = c.args.works.now in
    let h = c.requires.whole.sound in
    let up : c.in-Some.next ≡ w.core.serial.0 + 1 = search rules in
    let core : Core = record w.core { serial = record { 0 = c.in-Some.next } } in
    let sound : IsSound core = record { objects = h.objects; parents = h.parents; locals = h.locals; funs = h.funs; tasks = h.tasks; changes = h.changes; depth = h.depth; room = h.room } in
    whole_after w core c.requires.whole sound c.requires.whole.idle refl (omega arith) (omega (arith, up))
