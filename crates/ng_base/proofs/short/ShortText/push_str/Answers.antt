use Rattle.std.proofs.Common.{◌+◌, ◌++◌, length, take, arith, ap, ◌∙◌}
use Rattle.std.proofs.lemmas.Slice.{take-put_mid, drop-put_mid}
use Rattle.ng_base.proofs.Held.{lengthened}
use Rattle.ng_base.proofs.Rooms.{left_over}
use Rattle.ng_base.proofs.short.ShortText.push_str.Goals as goal

pub invariant_of-self-clause-holds : goal.invariant_of-self-clause-holds
invariant_of-self-clause-holds c =
    let text = c.args.self.now in
    let rest = c.args.s.now in
    let same = c.copy_from_slice.ensures.after ∙ c.as_bytes.ensures.value in
    let front = take-put_mid text.len _ text.bytes c.copy_from_slice.new.self (text.len + length rest) (rw same (omega arith)) (omega arith) in
    let behind = drop-put_mid text.len _ text.bytes c.copy_from_slice.new.self (text.len + length rest) (omega arith) (omega arith) (rw same (omega arith)) in
    record {
      spelled = lengthened text _ rest c.utf8.s (front ∙ ap (λ l. take text.len text.bytes ++ l) same);
      rest = behind ∙ left_over text (length rest);
    }
