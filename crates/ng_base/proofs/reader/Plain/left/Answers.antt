use Rattle.std.proofs.Common.{rules, ap, sym, length}
use Rattle.std.proofs.lemmas.Str.{encodes-chars}
use Rattle.ng_base.proofs.reader.Plain.left.Goals as goal

pub returns : goal.returns
returns c = let e = ap length (sym (encodes-chars c.self.inside.text.now c.self.invariant)) in search rules
