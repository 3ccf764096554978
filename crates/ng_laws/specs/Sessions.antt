-- What is there: the end of a digest, and the session of the files of a run; and what a page with too many nodes is.
use Rattle.std.specs.Prelude.{◌≡◌, ◌<◌, Bool, Result, Ok}
use Rattle.std.specs.Option.{IfSome}
use Rattle.ng_base.specs.declared.path.Key.{Key}
use Rattle.ng_digest.specs.Early.{plain_answer}
use Rattle.ng_digest.specs.Laws.{InOrder}
use Rattle.ng_digest.specs.Plain.{Plain, PlainDigests}
use Rattle.ng_digest.specs.Place.{Place}
use Rattle.ng_digest.specs.Short.{Digests}
use Rattle.ng_digest.specs.declared.log.Report.{Report}
use Rattle.ng_digest.specs.declared.rounds.DigestFault.{DigestFault}
use Rattle.ng_drawing.specs.Nodes.{nodes, node_limit}
use Rattle.ng_drawing.specs.Template.{Fragment}
use Rattle.ng_link.specs.State as link
use Rattle.ng_link.specs.State.{shown}
use Rattle.ng_markup.specs.Forest.{no_nodes}
use Rattle.ng_drawing.specs.Named.{fragments_in}
use Rattle.ng_page.specs.Answered.{ready_place}
use Rattle.ng_page.specs.Opening.{page_origin, templates_for}
use Rattle.ng_page.specs.PageMachine.{State, page_machine, readied}
use Rattle.ng_inputs.specs.Files.{Inputs}
use Rattle.ng_inputs.specs.Refusals.{Accepted, accepted}
use Rattle.ng_run.specs.Session.{Reply, Session}

-- A digest over the watchers of a page, which stand in key order, comes to an end: the one that stops early, and the plain one
-- with the same answer and in the same state.
abbrev pub DigestEnds : Type 0
DigestEnds = (s : link.State) → InOrder page_machine (readied s) → (answer : Result Report DigestFault) × (short : Place State Key) × (end : Plain State)
    × Digests page_machine (ready_place s) answer short × PlainDigests page_machine (readied s) (plain_answer answer) end × (end.state ≡ short.state)

-- the files of a run have a session, with the trace and without
abbrev pub SessionIsThere : Type 0
SessionIsThere = (trace : Bool) (i : Inputs) → (r : Reply) × Session trace i r

-- what is linked as a page opens: its template, with the templates of directives in it
abbrev pub page_fragment : Accepted → Fragment
page_fragment a = fragments_in (templates_for a.template a.facts) page_origin

-- a page that would have too many nodes is empty, whatever is done on it, and the status is 1
abbrev pub CrowdedPageIsEmpty : Type 0
CrowdedPageIsEmpty =
    (trace : Bool) (i : Inputs) (a : Accepted) (r : Reply) → accepted i ≡ Ok a → node_limit < nodes (page_fragment a).parts → Session trace i r → (r.status ≡ 1) × IfSome r.page (λ l. shown l.state ≡ no_nodes)
