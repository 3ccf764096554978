use Rattle.std.proofs.Common.{◌∙◌, ap, IsTrue}
use Rattle.std.proofs.lemmas.Str.{encodes-chars}
use Rattle.serde_json.specs.Read.{read}
use Rattle.ng_script.specs.Json.{or_bad_argument}
use Rattle.ng_script.proofs.json.read_json.Goals as goal

pub returns-in-Ok : goal.returns-in-Ok
returns-in-Ok c = ap (λ bs. or_bad_argument (read bs)) (encodes-chars c.args.text.now c.utf8.text) ∙ ap or_bad_argument c.in-Ok.ensures.ok

pub returns-else-is_memory : goal.returns-else-is_memory
returns-else-is_memory c h =
    ap (λ bs. or_bad_argument (read bs)) (encodes-chars c.args.text.now c.utf8.text)
    ∙ ap or_bad_argument (c.in-Err.ensures.err (λ m. let t : IsTrue c.is_memory.result = c.is_memory.ensures.1 m in cc))
