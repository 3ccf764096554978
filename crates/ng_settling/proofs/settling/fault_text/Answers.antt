use Rattle.std.proofs.Common.{subst, sym, List, ℕ}
use Rattle.ng_base.specs.Word.{IsWord}
use Rattle.ng_settling.proofs.Names.{fault_word}
use Rattle.ng_settling.proofs.settling.fault_text.Goals as goal

pub push_word-requires-2 : goal.push_word-requires-2
push_word-requires-2 c = subst (λ (t : List ℕ). IsWord t) (sym c.name.ensures) (fault_word c.args.fault)
