-- Replies of the code, as what is called for.
use Rattle.std.proofs.Common.{◌≡◌, subst}
use Rattle.std.specs.Prelude.{ℕ, List, Option, Some, Result, Ok, Err, IfOk}
use Rattle.ng_inputs.specs.Files.{File, Telling, files_of}
use Rattle.ng_words.specs.Words.{Words}
use Rattle.ng_run.specs.ReplyOf.{IsPageTo, IsReplyTo}
use Rattle.ng_run.specs.Session.{Extent, FilesReply, Replies}
use Rattle.ng_run.specs.Session as session
use Rattle.ng_printing.specs.declared.reply.Opened.{Opened}
use Rattle.ng_printing.specs.declared.reply.Reply.{Reply}
use Rattle.ng_printing.specs.declared.reply.Reply.TheVariants as reply

-- what one thing calls for another calls for too
pub page_to : (C D : Extent → session.Reply → Type 0) → ((e : Extent) (q : session.Reply) → C e q → D e q) → (o : Opened) → IsPageTo C o → IsPageTo D o
page_to C D f o h = record { left = h.left; page = h.page; sound = h.sound; calls = λ e rest end more. f e _ (h.calls e rest end more) }

pub reply_to : (C D : Extent → session.Reply → Type 0) → ((e : Extent) (q : session.Reply) → C e q → D e q) → (r : Reply) → IsReplyTo C r → IsReplyTo D r
reply_to C D f (reply.Line status piece) h = λ e. f e _ (h e)
reply_to C D f (reply.Page o) h = page_to C D f o h

-- what the files of words call for the words call for
pub words_reply : (ws : Option Words) (w : Words) (fs : List File) (told : Telling) (before now : List (List ℕ)) → Some w ≡ ws → fs ≡ files_of w → (e : Extent) (q : session.Reply) → FilesReply e w.flags.trace fs told before now q → Replies e ws told before now q
words_reply ws w fs told before now is same e q h = subst (λ o. Replies e o told before now q) is (subst (λ f. FilesReply e w.flags.trace f told before now q) same h)

pub if_ok : {A E : Type 0} (P Q : A → Type 0) (r : Result A E) → ((x : A) → P x → Q x) → IfOk r P → IfOk r Q
if_ok P Q (Ok x) f h = f x h
if_ok P Q (Err e) f h = tt
