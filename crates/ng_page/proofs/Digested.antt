-- What holds of a page after a digest, and the end of a step.
use Rattle.std.proofs.Common.{ℕ, [], Result, Ok, Err}
use Rattle.ng_digest.specs.Causes.{Unless}
use Rattle.ng_digest.specs.Early.{plain_of, plain_answer}
use Rattle.ng_digest.specs.Plain.{PlainDigests}
use Rattle.ng_digest.specs.declared.log.Report.{Report}
use Rattle.ng_digest.specs.declared.rounds.DigestFault.{DigestFault}
use Rattle.ng_digest.specs.declared.rounds.DigestFault.TheVariants as fault
use Rattle.ng_link.specs.State as link
use Rattle.ng_link.specs.declared.works.Works.{Works}
use Rattle.ng_page.specs.PageMachine.{page_machine, readied}
use Rattle.ng_commands.specs.BetweenSteps.{WorksAre, PageIs}
use Rattle.ng_page.specs.PlaceOf.{place_of}
use Rattle.ng_page.specs.declared.engine.Engine.{Engine}
use Rattle.ng_page.proofs.DigestsStay.{AreFitting, untroubled_fitting, digest_fitting}

page_from : (s : link.State) (e : Engine) (a : Result (ℕ × ℕ) DigestFault) → AreFitting [] s → PlainDigests page_machine (readied s) a (plain_of (place_of e)) → WorksAre e.works → PageIs e.works
page_from s e a h d works = let end = digest_fitting s a (plain_of (place_of e)) d (untroubled_fitting s h) in record { works = works; watched = end.watched; fits = end.fits }

pub page_after : (s : link.State) (e : Engine) (r : Result Report DigestFault) → AreFitting [] s → Unless r (PlainDigests page_machine (readied s) (plain_answer r) (plain_of (place_of e))) → Unless r (WorksAre e.works) → Unless r (PageIs e.works)
page_after s e (Ok report) h d works = page_from s e (Ok (report.rounds, report.fires)) h d works
page_after s e (Err fault.Infdig) h d works = page_from s e (Err fault.Infdig) h d works
page_after s e (Err fault.FireLimit) h d works = page_from s e (Err fault.FireLimit) h d works
page_after s e (Err fault.AsyncLimit) h d works = page_from s e (Err fault.AsyncLimit) h d works
page_after s e (Err (fault.Faulted first count)) h d works = page_from s e (Err (fault.Faulted first count)) h d works
page_after s e (Err (fault.Memory m)) h d works = tt

pub page_fitting : (w : Works) → PageIs w → AreFitting [] (link.state_of w)
page_fitting w h = record { watched = h.watched; fits = h.fits }
