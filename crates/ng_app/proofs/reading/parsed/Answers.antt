use Rattle.std.proofs.Common.{IsTrue}
use Rattle.serde_json.specs.View.{view}
use Rattle.ng_app.proofs.Json.{facts_of-read, facts_of-refused}
use Rattle.ng_app.proofs.reading.parsed.Goals as goal

pub returns-in-Ok : goal.returns-in-Ok
returns-in-Ok c = facts_of-read c.args.bytes.now (view c.in-Ok.value) c.in-Ok.ensures.ok.0 c.in-Ok.ensures.ok.1

pub returns-else-is_memory : goal.returns-else-is_memory
returns-else-is_memory c h =
    rw c.fault-else-is_memory.ensures
    (facts_of-refused c.args.bytes.now (c.in-Err.ensures.err (λ m. let t : IsTrue c.is_memory.result = c.is_memory.ensures.1 m in cc)))
