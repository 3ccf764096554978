use Rattle.std.proofs.Common.{rules, ◌≡◌, ◌+◌, length}
use Rattle.std.specs.List.{splice}
use Rattle.ng_language.specs.Objects.{set_items, items_at}
use Rattle.ng_write.specs.Changing.{number}
use Rattle.ng_write.proofs.Filled.{is_pushed}
use Rattle.ng_write.proofs.changing.push.Goals as goal

pub returns-clause-pushed : goal.returns-clause-pushed
returns-clause-pushed c =
    let before = c.args.store.now in
    let o = c.args.o.0 in
    let many : c.len-count.result ≡ length (items_at before o) = search rules in
    let same : c.splice.new.self ≡ set_items before o (splice (items_at before o) c.len-count.result (c.len-count.result + 0) c.args.args.now) = search rules in
    let counted : c.length.result ≡ number (length (items_at c.splice.new.self o)) = search rules in
    rw counted (is_pushed before c.splice.new.self o c.len-count.result c.args.args.now c.requires.object many same)
