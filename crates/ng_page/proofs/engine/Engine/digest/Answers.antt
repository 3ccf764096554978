use Rattle.std.proofs.Common.{subst, ap}
use Rattle.ng_digest.specs.Causes.{Unless}
use Rattle.ng_digest.specs.Early.{plain_of, plain_answer}
use Rattle.ng_digest.specs.Plain.{PlainDigests}
use Rattle.ng_digest.specs.Short.{Digests}
use Rattle.ng_link.specs.State as link
use Rattle.ng_page.specs.PageMachine.{page_machine}
use Rattle.ng_page.specs.PlaceOf.{place_of}
use Rattle.ng_page.proofs.Digested.{page_after, page_fitting}
use Rattle.ng_page.proofs.SettledLaws.{settled_when_ok}
use Rattle.ng_page.proofs.engine.Engine.digest.Goals as goal

pub returns-clause-short : goal.returns-clause-short
returns-clause-short c = subst (λ p. Digests page_machine p c.digest.result (place_of c.digest.new.w)) c.ready.ensures.place c.digest.ensures.short

pub returns-clause-plain : goal.returns-clause-plain
returns-clause-plain c = subst (λ s. Unless c.digest.result (PlainDigests page_machine s (plain_answer c.digest.result) (plain_of (place_of c.digest.new.w)))) (ap (λ p. p.state) c.ready.ensures.place) c.digest.ensures.plain

pub returns-clause-settled : goal.returns-clause-settled
returns-clause-settled c =
    settled_when_ok (link.state_of c.args.self.now.works) (place_of c.digest.new.w) c.digest.result
    (subst (λ p. Digests page_machine p c.digest.result (place_of c.digest.new.w)) c.ready.ensures.place c.digest.ensures.short)
    (subst (λ s. Unless c.digest.result (PlainDigests page_machine s (plain_answer c.digest.result) (plain_of (place_of c.digest.new.w)))) (ap (λ p. p.state) c.ready.ensures.place) c.digest.ensures.plain)

pub returns-clause-page : goal.returns-clause-page
returns-clause-page c =
    page_after (link.state_of c.args.self.now.works) c.digest.new.w c.digest.result (page_fitting c.args.self.now.works c.requires)
    (subst (λ s. Unless c.digest.result (PlainDigests page_machine s (plain_answer c.digest.result) (plain_of (place_of c.digest.new.w)))) (ap (λ p. p.state) c.ready.ensures.place) c.digest.ensures.plain)
    c.digest.ensures.rests
