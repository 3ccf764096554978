-- What the text of a repeat makes of its element (API: ngRepeat, "Arguments").
use Rattle.std.specs.Prelude.{◌&&◌, Bool, true, not, ℕ, List, Option, None, Some, Result, Ok, Err, if◌then◌else◌}
use Rattle.ng_base.specs.Meets.{◌>>=◌}
use Rattle.ng_blocks.specs.Repeats.{Says, repeat_read}
use Rattle.ng_blocks.specs.declared.repeats.RepeatFault.{RepeatFault}
use Rattle.ng_blocks.specs.declared.repeats.RepeatFault.TheVariants as faults
use Rattle.ng_drawing.specs.Template.{Site, Repeated}
use Rattle.ng_drawing.specs.declared.kind.SiteKind.TheVariants as kinds
use Rattle.ng_language.specs.Trees.{Trees}
use Rattle.ng_parts.specs.SiteOf.{site_with}
use Rattle.ng_directives.specs.declared.fault.TplKind.{TplKind}
use Rattle.ng_directives.specs.declared.fault.TplKind.TheVariants.{BadRepeat, Expression, UnknownFilter, Impure, Memory}
use Rattle.ng_evaluation.specs.Purity.{are_pure, all_filters_known}

-- why it cannot be read
abbrev pub unread : RepeatFault → TplKind
unread faults.BadRepeat = BadRepeat
unread faults.Expression = Expression
unread (faults.Memory m) = Memory m

-- whether it holds of a track expression, where there is one
abbrev pub if_tracked : (Trees → Bool) → Option Trees → Bool
if_tracked test None = true
if_tracked test (Some p) = test p

-- what is wrong with its expressions: UnknownFilter of both of them, then Impure of both
abbrev pub wrong_repeat : Says → Option TplKind
wrong_repeat s =
    if not (all_filters_known s.source && if_tracked all_filters_known s.track) then Some UnknownFilter
    else if not (are_pure s.source && if_tracked are_pure s.track) then Some Impure
    else None

-- the site of its collection, and what it says beside that
abbrev pub site_for_each : Says → Site
site_for_each s = site_with kinds.Collection s.one_time s.source

abbrev pub repeated_by : Says → Repeated
repeated_by s = record { key = s.key; name = s.name; track = s.track }

abbrev pub said_as : Option TplKind → Says → Result Says TplKind
said_as None s = Ok s
said_as (Some kind) s = Err kind

-- what a repeat says, or what is wrong with it
abbrev pub judged_repeat : Result Says RepeatFault → Result Says TplKind
judged_repeat (Err f) = Err (unread f)
judged_repeat (Ok s) = said_as (wrong_repeat s) s

-- the site of its collection, and what it says beside that
abbrev pub parted : Result Says TplKind → Result (Site × Repeated) TplKind
parted r = r >>= λ s. Ok (site_for_each s, repeated_by s)

-- the site of a text's collection, and what the text says beside that, or what is wrong with it
abbrev pub repeat_in : List ℕ → Result (Site × Repeated) TplKind
repeat_in t = parted (judged_repeat (repeat_read t))
