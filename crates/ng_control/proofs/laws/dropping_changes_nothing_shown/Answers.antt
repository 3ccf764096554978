use Rattle.std.proofs.Common.{ap}
use Rattle.ng_base.specs.Meets.{◌>>=◌}
use Rattle.std.specs.Prelude.{Ok}
use Rattle.ng_control.specs.Shown.{typed_or_model, is_empty, is_invalid, state_classes}
use Rattle.ng_control.proofs.Standing.{stands_still}
use Rattle.ng_control.proofs.laws.dropping_changes_nothing_shown.Goals as goal

pub returns-clause-shown : goal.returns-clause-shown
returns-clause-shown g c = ap (typed_or_model g.seen.objects g.seen.model) (stands_still g.seen.model g.seen.control.typed)

pub returns-clause-classes : goal.returns-clause-classes
returns-clause-classes g c =
    ap (λ typed. is_empty g.seen.objects g.seen.control.kind g.seen.model typed >>= λ empty. Ok (state_classes g.seen.control.dirty g.seen.control.touched (is_invalid g.seen.control.kind typed) empty))
    (stands_still g.seen.model g.seen.control.typed)
