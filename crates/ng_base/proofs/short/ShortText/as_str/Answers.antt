use Rattle.ng_base.proofs.Held.{IsUtf8-short}
use Rattle.ng_base.proofs.short.ShortText.as_str.Goals as goal

pub from_utf8_unchecked-requires : goal.from_utf8_unchecked-requires
from_utf8_unchecked-requires c = IsUtf8-short c.args.self.now
