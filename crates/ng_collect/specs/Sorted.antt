-- Picked directives in order, down to the priority of the first terminal one (API: `$compile`, `priority` and `terminal`).
use Rattle.std.specs.Prelude.{ℕ, ◌+◌, Bool, true, false, not, ◌||◌, List, [], ◌∷◌, find, take_while, slice_get, Option, None, Some, if◌then◌else◌}
use Rattle.std.specs.Option.{option_map_or}
use Rattle.std.specs.Ordering.{nat_cmp, int_cmp, on, then_cmp, flip_args, is_lt}
use Rattle.std.specs.declared.cmp.Ordering.{Ordering}
use Rattle.ng_base.specs.Order.{txt_cmp}
use Rattle.ng_collect.specs.declared.definition.DirectiveDef.{DirectiveDef}
use Rattle.ng_collect.specs.declared.pick.Directive.{Directive}
use Rattle.ng_collect.specs.declared.pick.Directive.TheVariants.{Core, Interpolated, User}
use Rattle.ng_collect.specs.declared.pick.Pick.{Pick}
use Rattle.ng_collect.specs.declared.table.CoreDirective.{CoreDirective}
use Rattle.ng_collect.specs.Table.{ends_list}

-- the core's directives are registered before those of the application
abbrev pub registration : Directive → ℕ
registration (Core d) = 0
registration Interpolated = 0
registration (User n) = n + 1

-- the highest priority first, then by name, then by registration
abbrev pub pick_cmp : Pick → Pick → Ordering
pick_cmp = then_cmp (flip_args (on (λ (p : Pick). p.priority) int_cmp)) (then_cmp (on (λ (p : Pick). p.name) txt_cmp) (on (λ (p : Pick). registration p.directive) nat_cmp))

abbrev pub is_before : Pick → Pick → Bool
is_before p q = is_lt (pick_cmp p q)

-- an item put in front of the first of a sorted list that is not before it
abbrev pub put_in : {A : Type 0} → (A → A → Bool) → A → List A → List A
put_in before x [] = x ∷ []
put_in before x (y ∷ ys) = if before y x then y ∷ put_in before x ys else x ∷ (y ∷ ys)

-- a list in order, where items of which neither is before the other keep their places
abbrev pub in_order : {A : Type 0} → (A → A → Bool) → List A → List A
in_order before [] = []
in_order before (x ∷ xs) = put_in before x (in_order before xs)

-- the definition of one of the application's directives
abbrev pub definition_of : List DirectiveDef → Directive → Option DirectiveDef
definition_of defs (Core d) = None
definition_of defs Interpolated = None
definition_of defs (User n) = slice_get defs n

-- a property of one of the core's directives, which no other has
abbrev pub of_core : (CoreDirective → Bool) → Directive → Bool
of_core f (Core d) = f d
of_core f Interpolated = false
of_core f (User n) = false

abbrev pub of_user : (DirectiveDef → Bool) → List DirectiveDef → Directive → Bool
of_user f defs d = option_map_or f (definition_of defs d) false

abbrev pub is_terminal : List DirectiveDef → Pick → Bool
is_terminal defs p = of_core ends_list p.directive || of_user (λ (d : DirectiveDef). d.terminal) defs p.directive

-- nothing ends the list, or this one has no lower priority than what ends it
abbrev pub reaches : Option Pick → Pick → Bool
reaches None p = true
reaches (Some last) p = not (is_lt (int_cmp p.priority last.priority))

-- picked directives in order, down to the priority of the first terminal one
abbrev pub down_to_terminal : List DirectiveDef → List Pick → List Pick
down_to_terminal defs ps = take_while (reaches (find (is_terminal defs) ps)) ps
