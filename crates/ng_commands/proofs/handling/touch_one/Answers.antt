use Rattle.ng_control.specs.State.{after_touch}
use Rattle.ng_commands.proofs.Ran.{page_controlled}
use Rattle.ng_commands.proofs.Handled.{on_ok_both}
use Rattle.ng_commands.proofs.handling.touch_one.Goals as goal

pub returns-in-Some-clause-page : goal.returns-in-Some-clause-page
returns-in-Some-clause-page c =
    on_ok_both c.touch.result c.touch.ensures.state c.touch.ensures.stands
    (λ state stands. page_controlled after_touch c.in-Some.control.key c.args.works.now c.touch.new.self state c.touch.ensures.core stands c.touch.ensures.templates c.requires)
