-- The step that opens a page, as the code has it and as the session has it.
use Rattle.std.proofs.Common.{◌≡◌, Bool, ◌∷◌, refl, sym, subst}
use Rattle.std.specs.Prelude.{codes}
use Rattle.ng_link.specs.State.{rendering}
use Rattle.ng_page.specs.Answered.{WhenOk}
use Rattle.ng_page.specs.OutcomeOf.{outcome_of}
use Rattle.ng_page.specs.PageOf.{state_of}
use Rattle.ng_commands.specs.Settled.{IsSettled}
use Rattle.ng_page.specs.Steps.{Opens, OpensShort}
use Rattle.ng_page.specs.declared.outcome.Outcome.{Outcome}
use Rattle.ng_script.specs.Acts.{entries_of}
use Rattle.ng_inputs.specs.Acts.{AreSound}
use Rattle.ng_inputs.specs.Refusals.{Accepted}
use Rattle.ng_printing.specs.Lines.{told_lines}
use Rattle.ng_printing.specs.StepSeen.{step_seen}
use Rattle.ng_page.specs.Ready.{IsReady, Renders}
use Rattle.ng_run.specs.ReplyOf.{IsPageTo}
use Rattle.ng_run.specs.Session.{within, Runs}
use Rattle.ng_printing.specs.Left.{Left}
use Rattle.ng_printing.specs.StepLines.{step_of}
use Rattle.ng_run.specs.Steps.{left_by, Continues}
use Rattle.ng_printing.specs.declared.reply.Opened.{Opened}
use Rattle.ng_run.proofs.Performing.{when_ok, told_is}

pub opened_page : (trace : Bool) (a : Accepted) (x : Opened) (o : Outcome) → x.flags.trace ≡ trace → entries_of x.commands ≡ a.commands → AreSound a.commands
    → Opens a.facts a.template (outcome_of o) (state_of x.page) → OpensShort a.facts a.template o.digest (state_of x.page) → IsReady x.page → WhenOk o.digest (IsSettled (state_of x.page)) → WhenOk o.digest (Renders x.page)
    → step_seen x.step ≡ step_of (codes "# 0 open\n") (told_lines trace o.digest) (outcome_of o) (rendering (state_of x.page)) → IsPageTo (λ e r. Runs e trace a r) x
opened_page trace a x o flag same sound opens short ready settled renders prints = record {
  left = left;
  page = record { ready = ready; state = refl; settled = when_ok (IsSettled (state_of x.page)) o.digest settled; rendering = when_ok (Renders x.page) o.digest renders };
  sound = subst AreSound (sym same) sound;
  calls = λ e rest end more. (
    step_seen x.step ∷ rest,
    end,
    (
      step_seen x.step,
      left,
      rest,
      record {
        outcome = outcome_of o;
        state = state_of x.page;
        told = told_lines trace o.digest;
        opens = opens;
        took = told_is trace o.digest (λ d. OpensShort a.facts a.template d (state_of x.page)) short;
        prints = prints;
        leaves = refl;
      },
      subst (λ es. Continues trace 1 (within e es) left rest end) same (subst (λ t. Continues t 1 (within e (entries_of x.commands)) left rest end) flag more),
      refl,
    ),
    refl,
  );
}
  where
    left : Left
    left = left_by (outcome_of o) (state_of x.page)
