use Rattle.ng_control.proofs.Standing.{typed_is_shown}
use Rattle.ng_control.proofs.laws.typed_text_is_shown.Goals as goal

pub returns : goal.returns
returns g c = typed_is_shown g.seen.objects g.seen.control c.args.text.now
