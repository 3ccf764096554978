use Rattle.std.proofs.Common.{◌≡◌, ap, sym, ◌∙◌, true}
use Rattle.ng_tags.specs.Tags.{raw_event, started, opens_raw}
use Rattle.ng_tags.proofs.Started.{if_ok_along, started_raw}
use Rattle.ng_tags.proofs.tags.started.Goals as goal

pub returns-then-opens_raw : goal.returns-then-opens_raw
returns-then-opens_raw c =
    let total = c.args.total in
    let tag = c.args.tag in
    let yes : opens_raw tag ≡ true = cc (c.opens_raw.ensures, c.if-opens_raw.true) in
    if_ok_along c.read_raw.result (raw_event total tag c.behind_tag-rest.result) (started total tag c.args.reader)
    (ap (raw_event total tag) c.behind_tag-rest.ensures ∙ sym (started_raw total tag c.args.reader yes)) c.read_raw.ensures
