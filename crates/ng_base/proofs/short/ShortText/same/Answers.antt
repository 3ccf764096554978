use Rattle.std.proofs.Common.{arith}
use Rattle.std.proofs.lemmas.Bool.{eqb-true}
use Rattle.ng_base.proofs.Rooms.{same_len, same_room, same_text}
use Rattle.ng_base.proofs.short.ShortText.same.Goals as goal

pub returns-then-self-other : goal.returns-then-self-other
returns-then-self-other c =
    let a = c.args.self.now in
    let b = c.args.other.now in
    let n = c.if-self-other.true in
    (λ t. same_text a b n (c.same_room.ensures.0 t), λ e. c.same_room.ensures.1 (same_room a b n e))

pub returns-else-self-other : goal.returns-else-self-other
returns-else-self-other c =
    let a = c.args.self.now in
    let b = c.args.other.now in (
      λ t. absurd (c.if-self-other.false (eqb-true a.len b.len t)),
      λ e. absurd (c.if-self-other.false (same_len a b (omega arith) (omega arith) e)),
    )
