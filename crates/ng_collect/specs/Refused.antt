-- Directives that cannot stand on one element, and names that this profile leaves out.
use Rattle.std.specs.Prelude.{ℕ, Bool, true, false, not, ◌&&◌, ◌||◌, nat_lt, List, is_some, count_by, codes}
use Rattle.std.specs.List.{list_any}
use Rattle.std.specs.Ordering.{int_cmp, is_lt}
use Rattle.std.specs.Str.{bytes_eq}
use Rattle.ng_markup.specs.Forest.{Attributes}
use Rattle.ng_collect.specs.declared.definition.DirectiveDef.{DirectiveDef}
use Rattle.ng_collect.specs.declared.pick.Directive.{Directive}
use Rattle.ng_collect.specs.declared.pick.Directive.TheVariants.{Core, Interpolated, User}
use Rattle.ng_collect.specs.declared.pick.Pick.{Pick}
use Rattle.ng_collect.specs.declared.refusing.Claim.{Claim}
use Rattle.ng_collect.specs.declared.refusing.Claim.TheVariants.{Isolate, Child, Contents, Transclusion}
use Rattle.ng_collect.specs.declared.spots.Spot.{Spot}
use Rattle.ng_collect.specs.declared.table.CoreDirective.{CoreDirective}
use Rattle.ng_collect.specs.Controls.{is_control}
use Rattle.ng_collect.specs.Definitions.{is_isolate, is_child}
use Rattle.ng_collect.specs.Sorted.{of_core, of_user}
use Rattle.ng_collect.specs.Spots.{is_left_out_at}
use Rattle.ng_collect.specs.Table.{is_block, gives_contents}

abbrev pub is_model : Spot → Bool
is_model s = bytes_eq s.name (codes "ngModel")

-- a name of the core that is left out, a browser's event with a hole, or `ng-model` on what is no control
abbrev pub is_left_out : List ℕ → Attributes → List Spot → Bool
is_left_out name attributes ss = list_any is_left_out_at ss || (list_any is_model ss && not (is_control name attributes))

abbrev pub is_user : Directive → Bool
is_user (Core d) = false
is_user Interpolated = false
is_user (User n) = true

-- a block whose priority is not above that of a directive
abbrev pub is_block_under : Pick → Pick → Bool
is_block_under p b = of_core is_block b.directive && not (is_lt (int_cmp p.priority b.priority))

-- a directive of the application, and a block that is not above it
abbrev pub is_over_block : List Pick → Pick → Bool
is_over_block ps p = is_user p.directive && list_any (is_block_under p) ps

abbrev pub crowd_blocks : List Pick → Bool
crowd_blocks ps = list_any (is_over_block ps) ps

-- what a definition claims of its element: an isolate scope, a child scope, the contents, or the transclusion
abbrev pub defines : Claim → DirectiveDef → Bool
defines Isolate d = is_isolate d.scope
defines Child d = is_child d.scope
defines Contents d = is_some d.template
defines Transclusion d = d.transclude

-- and one of the core's directives: some give the contents
abbrev pub core_claims : Claim → CoreDirective → Bool
core_claims Isolate d = false
core_claims Child d = false
core_claims Contents d = gives_contents d
core_claims Transclusion d = false

abbrev pub claims : Claim → List DirectiveDef → Pick → Bool
claims claim defs p = of_core (core_claims claim) p.directive || of_user (defines claim) defs p.directive

-- how many do
abbrev pub claimants : Claim → List DirectiveDef → List Pick → ℕ
claimants claim defs ps = count_by (claims claim defs) ps

-- an isolate scope beside another or beside a child scope, or the contents or the transclusion claimed twice
abbrev pub clash : List DirectiveDef → List Pick → Bool
clash defs ps =
    nat_lt 1 (claimants Isolate defs ps)
    || (nat_lt 0 (claimants Isolate defs ps) && nat_lt 0 (claimants Child defs ps))
    || nat_lt 1 (claimants Contents defs ps)
    || nat_lt 1 (claimants Transclusion defs ps)
