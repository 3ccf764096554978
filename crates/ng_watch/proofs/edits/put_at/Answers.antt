use Rattle.std.proofs.Common.{◌≤◌, length, rules, ◌∙◌}
use Rattle.ng_watch.proofs.Chunks.{past_end, on_ok}
use Rattle.ng_watch.proofs.edits.put_at.Goals as goal

pub returns-else-at-len-clause-ok : goal.returns-else-at-len-clause-ok
returns-else-at-len-clause-ok c =
    let l : length c.args.chunks.now.items ≤ c.args.at.chunk = search rules in
    on_ok c.put_last.result (λ e. e ∙ past_end c.args.chunks.now.items c.args.at.chunk c.args.at.row c.args.row l) c.put_last.ensures.ok
