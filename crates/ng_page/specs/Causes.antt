-- The cause of want of memory that a call on a page tells.
use Rattle.ng_act.specs.Worn as act
use Rattle.ng_page.specs.PageOf.{state_of}
use Rattle.ng_page.specs.declared.outcome.PageFault.{PageFault}
use Rattle.ng_page.specs.declared.outcome.PageFault.TheVariants.{Idle, Spent, Memory}
use Rattle.ng_page.specs.declared.page.Page.{Page}
use Rattle.ng_steps.specs.Worn.{is_worn}

-- where a call tells that a counter stands at its last value, one of the page does
abbrev pub HasCause : Page → PageFault → Type 0
HasCause p (Memory m) = act.HasCause (is_worn (state_of p)) m
HasCause p Idle = Unit {0}
HasCause p Spent = Unit {0}
