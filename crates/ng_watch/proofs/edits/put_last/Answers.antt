use Rattle.std.proofs.Common.{◌++◌, ap, ◌∙◌}
use Rattle.ng_watch.specs.Chunks.{Rows, joined}
use Rattle.ng_watch.proofs.Chunks.{joined_push}
use Rattle.ng_watch.proofs.edits.put_last.Goals as goal

pub returns-clause-ok : goal.returns-clause-ok
returns-clause-ok c = ap joined c.in_ok-push.ensures.items ∙ joined_push c.args.chunks.now.items c.in_ok-chunk.chunk ∙ ap (λ (xs : Rows). joined c.args.chunks.now.items ++ xs) c.in_ok-chunk.ensures
