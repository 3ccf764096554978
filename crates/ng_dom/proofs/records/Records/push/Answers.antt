use Rattle.std.proofs.Common.{ap, sym, ◌∙◌, ◌+◌, ◌==◌, Some, cond, subst}
use Rattle.ng_dom.specs.Records.{Runs, IsKept, live_in, node_at}
use Rattle.ng_dom.proofs.Runs.{kept_pushed, node_at-pushed, live_pushed}
use Rattle.ng_dom.proofs.records.Records.push.Goals as goal

pub invariant_of-self-2 : goal.invariant_of-self-2
invariant_of-self-2 c =
    subst (IsKept (c.self.inside.live + 1)) (sym c.in_ok-put_last.ensures.ok)
    (kept_pushed c.args.n c.args.node c.self.inside.live c.self.inside.runs.items c.self.invariant (λ q le. ap (λ (rs : Runs). node_at rs q) c.self.view_is ∙ c.requires q le))

pub returns-clause-node : goal.returns-clause-node
returns-clause-node c q =
    ap (λ (rs : Runs). node_at rs q) c.in_ok-put_last.ensures.ok
    ∙ (node_at-pushed c.args.n c.args.node c.self.inside.live c.self.inside.runs.items c.self.invariant (λ q le. ap (λ (rs : Runs). node_at rs q) c.self.view_is ∙ c.requires q le) q
    ∙ ap (λ (rs : Runs). cond (q == c.args.n) (Some c.args.node) (node_at rs q)) c.self.view_is)

pub returns-clause-live : goal.returns-clause-live
returns-clause-live c = ap live_in c.in_ok-put_last.ensures.ok ∙ (live_pushed c.args.n c.args.node c.self.inside.runs.items ∙ ap (λ (rs : Runs). live_in rs + 1) c.self.view_is)
