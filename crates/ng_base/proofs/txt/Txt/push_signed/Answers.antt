use Rattle.ng_base.proofs.Ascii.{ascii_IsWord}
use Rattle.ng_base.proofs.txt.Txt.push_signed.Goals as goal

pub push_word-requires : goal.push_word-requires
push_word-requires c = ascii_IsWord c.format.result.now c.format.ensures.ascii
