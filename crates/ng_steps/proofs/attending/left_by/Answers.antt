use Rattle.std.proofs.Common.{◌∙◌, Bor, ap, sym}
use Rattle.std.specs.Prelude.{option_map}
use Rattle.ng_parts.specs.ProgramsOf.{programs_of}
use Rattle.ng_parts.specs.declared.programs.Programs.{Programs}
use Rattle.ng_steps.proofs.attending.left_by.Goals as goal

pub returns-in_ok-copied-in-Some : goal.returns-in_ok-copied-in-Some
returns-in_ok-copied-in-Some c =
    let p = programs_of c.in-Some.programs.now in (
      p,
      (
        sym c.directive.ensures ∙ ap (option_map (λ (q : Bor Programs). programs_of q.now)) c.in-Some.is,
        record { watches = c.in_ok-copied_watches-in-Some.ensures; listeners = c.in_ok-copied_listeners-in-Some.ensures; link = c.in_ok-copied-in-Some.ensures },
      ),
    )
