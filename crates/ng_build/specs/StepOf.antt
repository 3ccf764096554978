-- What a step of linking in the code stands for.
use Rattle.std.specs.Prelude.{◌≡◌, true}
use Rattle.ng_language.specs.Trees.{Trees}
use Rattle.ng_parse.specs.ProgramOf.{program}
use Rattle.ng_parts.specs.ActsOf.{binding_of, outside_of}
use Rattle.ng_evaluation.specs.Purity.{are_pure, all_filters_known}
use Rattle.ng_build.specs.Linking.{Opening, a_child, an_isolate, a_slot, LinkStep, makes, stops, opens, binds, installs, starts, starts_at, registers, leaves}
use Rattle.ng_build.specs.declared.ordering.LinkStep as code
use Rattle.ng_build.specs.declared.ordering.LinkStep.TheVariants as variants
use Rattle.ng_build.specs.declared.ordering.Opening as code_opening
use Rattle.ng_build.specs.declared.ordering.Opening.TheVariants.{Child, Isolate, Slot}

abbrev pub opening_of : code_opening.Opening → Opening
opening_of (Child n) = a_child n
opening_of (Isolate n) = an_isolate n
opening_of (Slot n o) = a_slot n (outside_of o)

abbrev pub step_of : code.LinkStep → LinkStep
step_of variants.Makes = makes
step_of variants.Stops = stops
step_of (variants.Opens o) = opens (opening_of o)
step_of (variants.Binds b i o) = binds (binding_of b) i o
step_of (variants.Installs d s) = installs d s
step_of (variants.Starts s p) = starts s (program p)
step_of (variants.StartsAt o p) = starts_at o (program p)
step_of variants.Registers = registers
step_of (variants.Leaves d s) = leaves d s

-- a program that can be watched
pub record IsWatchable (p : Trees) : Type 0 where
  pub pure : are_pure p ≡ true
  pub known : all_filters_known p ≡ true
