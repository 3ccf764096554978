use Rattle.ng_base.proofs.Ascii.{ascii_IsWord}
use Rattle.ng_base.proofs.txt.Txt.is_number.Goals as goal

pub is_word-requires : goal.is_word-requires
is_word-requires c = ascii_IsWord c.format.result.now c.format.ensures.ascii
