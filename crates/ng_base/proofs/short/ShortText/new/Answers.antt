use Rattle.std.proofs.Common.{[], refl}
use Rattle.std.proofs.lemmas.Str.{IsUtf8-nil, is_utf8-from_IsUtf8}
use Rattle.ng_base.proofs.short.ShortText.new.Goals as goal

pub invariant_of-result-clause-holds : goal.invariant_of-result-clause-holds
invariant_of-result-clause-holds c = record { spelled = is_utf8-from_IsUtf8 [] IsUtf8-nil; rest = refl }
