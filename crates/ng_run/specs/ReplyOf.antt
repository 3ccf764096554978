-- What the values of the code stand for.
use Rattle.std.specs.Prelude.{◌≡◌, IsTrue, List, [], ◌∷◌, Option, None, Some}
use Rattle.ng_drawing.specs.Drawing.{shown_as}
use Rattle.ng_link.specs.State.{shown, rendering}
use Rattle.ng_page.specs.PageOf.{state_of}
use Rattle.ng_commands.specs.Settled.{IsSettled}
use Rattle.ng_page.specs.declared.page.Page.{Page}
use Rattle.ng_script.specs.Acts.{entries_of}
use Rattle.ng_inputs.specs.Acts.{AreSound}
use Rattle.ng_run.specs.Session.{Extent, within, done}
use Rattle.ng_run.specs.Session as session
use Rattle.ng_printing.specs.Left.{Left, Step}
use Rattle.ng_run.specs.Steps.{Continues}
use Rattle.ng_printing.specs.declared.reply.Opened.{Opened}
use Rattle.ng_printing.specs.declared.reply.Reply.{Reply}
use Rattle.ng_printing.specs.declared.reply.Reply.TheVariants as reply
use Rattle.ng_printing.specs.StepSeen.{step_seen}
use Rattle.ng_page.specs.Ready.{IsReady}

-- a page as a step left it: where the last digest of that step answered Ok it is settled, and shows its rendering
pub record LeavesPage (p : Page) (l : Left) : Type 0 where
  pub ready : IsReady p
  pub state : state_of p ≡ l.state
  pub settled : IsTrue l.digested → IsSettled l.state
  pub rendering : IsTrue l.digested → rendering l.state ≡ shown_as (shown l.state)

abbrev pub Leaves : Option Page → Option Left → Type 0
Leaves None None = Unit {0}
Leaves None (Some l) = ⊥
Leaves (Some p) None = ⊥
Leaves (Some p) (Some l) = LeavesPage p l

-- a reply of the code is this one of a single line
abbrev pub IsLine : Reply → session.Reply → Type 0
IsLine (reply.Line status piece) q = q ≡ record { status = status; pieces = piece.items ∷ []; page = None }
IsLine (reply.Page o) q = ⊥

-- a page is opened, and whatever its commands come to is called for
pub record IsPageTo (Calls : Extent → session.Reply → Type 0) (o : Opened) : Type 0 where
  pub left : Left
  pub page : LeavesPage o.page left
  pub sound : AreSound (entries_of o.commands)
  pub calls : (e : Extent) (rest : List Step) (end : Left) → Continues o.flags.trace 1 (within e (entries_of o.commands)) left rest end → Calls e (done (step_seen o.step ∷ rest) end)

-- a reply of the code is one that is called for, however much of a script is done
abbrev pub IsReplyTo : (Extent → session.Reply → Type 0) → Reply → Type 0
IsReplyTo Calls (reply.Line status piece) = (e : Extent) → Calls e (record { status = status; pieces = piece.items ∷ []; page = None })
IsReplyTo Calls (reply.Page o) = IsPageTo Calls o
