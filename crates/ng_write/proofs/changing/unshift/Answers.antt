use Rattle.std.proofs.Common.{rules, ◌≡◌, ◌+◌, length}
use Rattle.std.specs.List.{splice}
use Rattle.ng_language.specs.Objects.{set_items, items_at}
use Rattle.ng_write.specs.Changing.{number}
use Rattle.ng_write.proofs.Filled.{is_unshifted}
use Rattle.ng_write.proofs.changing.unshift.Goals as goal

pub returns-clause-unshifted : goal.returns-clause-unshifted
returns-clause-unshifted c =
    let before = c.args.store.now in
    let o = c.args.o.0 in
    let same : c.splice.new.self ≡ set_items before o (splice (items_at before o) 0 (0 + 0) c.args.args.now) = search rules in
    let counted : c.length.result ≡ number (length (items_at c.splice.new.self o)) = search rules in
    rw counted (is_unshifted before c.splice.new.self o c.args.args.now c.requires.object same)
