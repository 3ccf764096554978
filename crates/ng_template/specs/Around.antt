-- The blocks of an element, from the outside in (guide: HTML Compiler, "How directives are compiled"; API: ngIf, ngSwitch, ngInclude, ngRepeat). A block stands
-- in place of its element, and leaves the directives of lower priority to its body. Of two blocks of one priority the second is in the first.
-- A case of a switch is the outermost, since none has a higher priority.
use Rattle.std.specs.Prelude.{ℕ, zero, suc, ℤ, ◌&&◌, Bool, true, false, not, List, [], ◌∷◌, ◌++◌, map, find, Option, None, Some, option_map, Result, Ok, Err, codes, if◌then◌else◌}
use Rattle.std.specs.List.{list_any}
use Rattle.std.specs.Map.{lookup}
use Rattle.std.specs.Str.{bytes_eq}
use Rattle.ng_base.specs.Meets.{◌>>=◌}
use Rattle.ng_collect.specs.Collected.{collected}
use Rattle.ng_collect.specs.Sorted.{of_core}
use Rattle.ng_collect.specs.Table.{is_block}
use Rattle.ng_collect.specs.declared.definition.DirectiveDef.{DirectiveDef}
use Rattle.ng_collect.specs.declared.fault.CollectFault.{CollectFault}
use Rattle.ng_collect.specs.declared.fault.CollectFault.TheVariants as collect
use Rattle.ng_collect.specs.declared.pick.Directive.{Directive}
use Rattle.ng_collect.specs.declared.pick.Directive.TheVariants.{Core, Interpolated, User}
use Rattle.ng_collect.specs.declared.pick.Pick.{Pick}
use Rattle.ng_collect.specs.declared.table.CoreDirective.{CoreDirective}
use Rattle.ng_collect.specs.declared.table.CoreDirective.TheVariants as dirs
use Rattle.ng_drawing.specs.Cases.{Case}
use Rattle.ng_drawing.specs.Template.{Site, Repeated}
use Rattle.ng_drawing.specs.declared.kind.SiteKind.{SiteKind}
use Rattle.ng_drawing.specs.declared.kind.SiteKind.TheVariants as kinds
use Rattle.ng_language.specs.Trees.{Trees}
use Rattle.ng_evaluation.specs.Purity.{all_filters_known}
use Rattle.ng_markup.specs.Forest.{Attributes, Node, element, text, comment}
use Rattle.ng_tags.specs.declared.attrs.Attr.{Attr}
use Rattle.ng_directives.specs.Directives.{text_on, whole}
use Rattle.ng_directives.specs.Manners.{any_makes_plain, any_makes_slot, picks_read}
use Rattle.ng_directives.specs.Programs.{program_in}
use Rattle.ng_interp.specs.Parts.{Piece}
use Rattle.ng_interp.specs.declared.pieces.InterpFault.{InterpFault}
use Rattle.ng_template.specs.Repeating.{repeat_in}
use Rattle.ng_directives.specs.Texts.{refused, wrong, sites_in}
use Rattle.ng_directives.specs.declared.fault.TplFault.{TplFault}
use Rattle.ng_directives.specs.declared.fault.TplKind.{TplKind}
use Rattle.ng_directives.specs.declared.fault.TplKind.TheVariants.{LeftOut, MultiDir, Orphan, CaseWithoutSwitch, Expression, UnknownFilter, Memory}

abbrev pub unpicked : CollectFault → TplKind
unpicked collect.MultiDir = MultiDir
unpicked collect.LeftOut = LeftOut
unpicked (collect.Memory m) = Memory m

-- The attribute that has the expression of a directive whose own is empty: `on` that of a switch, `src` that of an inclusion (API: ngSwitch,
-- ngInclude, "Usage").
abbrev pub core_source : CoreDirective → Option (List ℕ)
core_source dirs.Switch = Some (codes "on")
core_source dirs.Include = Some (codes "src")
core_source _ = None

abbrev pub source_of : Directive → Option (List ℕ)
source_of (Core d) = core_source d
source_of Interpolated = None
source_of (User n) = None

abbrev pub found_as : List ℕ → Option (List ℕ) → Option Attr → Option Attr
found_as name None own = own
found_as name (Some value) own = Some (record { name = name; value = value })

abbrev pub sourced : Option (List ℕ) → Attributes → Option Attr → Option Attr
sourced None attributes own = own
sourced (Some name) attributes own = found_as name (lookup (λ n. bytes_eq n name) attributes) own

abbrev pub if_empty : List ℕ → Option Attr → Option Attr → Option Attr
if_empty [] other own = other
if_empty (c ∷ cs) other own = own

-- a directive with the attribute that has its text
abbrev pub worded : Attributes → Pick → Pick
worded attributes p = record p { attribute = if_empty (text_on p.attribute) (sourced (source_of p.directive) attributes p.attribute) p.attribute }

abbrev pub attributes_in : Node → Attributes
attributes_in (element name attributes kids) = attributes
attributes_in (text t) = []
attributes_in (comment t) = []

-- the directives of an element that are read, or why they are refused
abbrev pub picks_in : Attributes → Result (List Pick) CollectFault → Result (List Pick) TplKind
picks_in attributes (Err f) = Err (unpicked f)
picks_in attributes (Ok ps) = Ok (map (worded attributes) (picks_read ps))

-- what is refused stands at a place
abbrev pub at_place : {A : Type 0} → ℕ → Result A TplKind → Result A TplFault
at_place place (Ok v) = Ok v
at_place place (Err kind) = Err (refused kind place)

-- the parts of a text, or what is wrong with it
abbrev pub checked_as : Option TplKind → List Piece → Result (List Piece) TplKind
checked_as None ps = Ok ps
checked_as (Some kind) ps = Err kind

abbrev pub checked : Result (List Piece) InterpFault → Result (List Piece) TplKind
checked (Err f) = Err Expression
checked (Ok ps) = checked_as (wrong ps) ps

-- the priority of the blocks among directives down to the first terminal one
abbrev pub block_priority : List Pick → Option ℤ
block_priority ps = option_map (λ (p : Pick). p.priority) (find (λ (p : Pick). of_core is_block p.directive) ps)

-- what is made of the element itself: it is plain, or it has these directives, and its children or a template in their place
pub data Inside : Type 0 where
  is_plain : Inside
  has_picks : List Pick → Inside
  has_template : List Pick → Inside

-- A block round an element: its body stands while the value of its site is true; or there is one for each entry of that; or it has a
-- template in it, which the value names. Programs that stand before that run where its anchor is.
pub data Block : Type 0 where
  block_if : Site → Block
  block_for : Site → Repeated → Block
  block_named : Site → (starts : List Trees) → Block

-- the case that an element is, the blocks round it, from the outside in, and the element itself
pub record Around : Type 0 where
  pub case : Option Case
  pub heads : List Block
  pub inside : Inside

-- the case that a directive with a text makes of its element
abbrev pub core_case : CoreDirective → List ℕ → Option Case
core_case dirs.SwitchWhen t = Some (Some t)
core_case dirs.SwitchDefault t = Some None
core_case _ t = None

abbrev pub case_for : Directive → List ℕ → Option Case
case_for (Core d) t = core_case d t
case_for Interpolated t = None
case_for (User n) t = None

abbrev pub case_at : Pick → Option Case
case_at p = case_for p.directive (text_on p.attribute)

abbrev pub case_then : Option Case → List Case → List Case
case_then None cs = cs
case_then (Some c) cs = c ∷ cs

abbrev pub cases_in : List Pick → List Case
cases_in [] = []
cases_in (p ∷ ps) = case_then (case_at p) (cases_in ps)

-- A case needs a switch round it, without a block between; the second of two would have the first between.
abbrev pub switched : Bool → List Case → Result (Option Case) TplKind
switched has_switch [] = Ok None
switched false (c ∷ cs) = Err CaseWithoutSwitch
switched true (c ∷ []) = Ok (Some c)
switched true (c ∷ d ∷ cs) = Err CaseWithoutSwitch

-- what a directive is that stands before its element's body: a case, a program that runs, a repeat, or a block whose text is an expression as a
-- whole, of which the value names a template or not
pub data Before : Type 0 where
  a_case : Before
  a_start : Before
  a_repeat : Before
  a_block : (named : Bool) → Before

abbrev pub core_before : CoreDirective → Before
core_before dirs.SwitchWhen = a_case
core_before dirs.SwitchDefault = a_case
core_before dirs.Init = a_start
core_before dirs.Repeat = a_repeat
core_before dirs.Include = a_block true
core_before _ = a_block false

abbrev pub before_of : Directive → Before
before_of (Core d) = core_before d
before_of Interpolated = a_block false
before_of (User n) = a_block false

abbrev pub checked_program : Option Trees → Result Trees TplKind
checked_program None = Err Expression
checked_program (Some b) = if all_filters_known b then Ok b else Err UnknownFilter

-- what the site of a block keeps
abbrev pub kind_of_block : Bool → SiteKind
kind_of_block false = kinds.Reference
kind_of_block true = kinds.Deep

abbrev pub block_with : Bool → List Trees → Site → Block
block_with false starts h = block_if h
block_with true starts h = block_named h starts

-- programs that no block has yet, and blocks
abbrev pub Heads : Type 0
Heads = List Trees × List Block

-- a block whose text is an expression as a whole, or what is wrong with it
abbrev pub whole_heads : Bool → List Trees → List ℕ → Result Heads TplKind
whole_heads named starts t = checked (whole t) >>= λ h. Ok ([], map (block_with named starts) (sites_in (kind_of_block named) h))

-- a block whose text is a repeat, or what is wrong with it
abbrev pub for_heads : List ℕ → Result Heads TplKind
for_heads t = repeat_in t >>= λ r. Ok ([], block_for r.0 r.1 ∷ [])

-- a program more, or what is wrong with it
abbrev pub start_heads : List Trees → List ℕ → Result Heads TplKind
start_heads starts t = checked_program (program_in t) >>= λ b. Ok (starts ++ b ∷ [], [])

-- a directive with its text, after programs that no block has yet: the programs that none has after it, and its blocks
abbrev pub head_by : Before → List Trees → List ℕ → Result Heads TplKind
head_by a_case starts t = Ok (starts, [])
head_by a_start starts t = start_heads starts t
head_by a_repeat starts t = for_heads t
head_by (a_block named) starts t = whole_heads named starts t

abbrev pub head_at : List Trees → Pick → Result Heads TplKind
head_at starts p = head_by (before_of p.directive) starts (text_on p.attribute)

abbrev pub heads_from : List Trees → List Pick → Result (List Block) TplKind
heads_from starts [] = Ok []
heads_from starts (p ∷ ps) = head_at starts p >>= λ h. heads_from h.0 ps >>= λ hs. Ok (h.1 ++ hs)

-- the blocks of directives, or what is wrong with the first of them
abbrev pub heads_of : List Pick → Result (List Block) TplKind
heads_of ps = heads_from [] ps

-- blocks after those that were found
abbrev pub heads_onto : List Block → Result (List Block) TplKind → Result (List Block) TplKind
heads_onto before r = r >>= λ hs. Ok (before ++ hs)

-- what one directive adds to them, with the programs that no block has then
abbrev pub head_onto : List Block → Result Heads TplKind → Result Heads TplKind
head_onto before r = r >>= λ h. Ok (h.0, before ++ h.1)

-- the programs that no block has then
abbrev pub starts_in : Result Heads TplKind → Result (List Trees) TplKind
starts_in r = r >>= λ h. Ok h.0

-- what was found so far
abbrev pub Found : Type 0
Found = Option Case × List Block

abbrev pub first_case : Option Case → Option Case → Option Case
first_case None o = o
first_case (Some c) o = Some c

-- and what these directives, of which one is a block, add to that
abbrev pub found_after : Found → Bool → List Pick → Result Found TplKind
found_after f has_switch ps = switched has_switch (cases_in ps) >>= λ c. heads_of ps >>= λ hs. Ok (first_case f.0 c, f.1 ++ hs)

-- an element in a block that names a template has that in place of its children
abbrev pub names_template : Block → Bool
names_template (block_if h) = false
names_template (block_for h r) = false
names_template (block_named h starts) = true

abbrev pub templated : Inside → Inside
templated is_plain = is_plain
templated (has_picks ps) = has_template ps
templated (has_template ps) = has_template ps

abbrev pub inside_in : List Block → Inside → Inside
inside_in bs i = if list_any names_template bs then templated i else i

abbrev pub with_found : Found → Around → Around
with_found f a = record { case = first_case f.0 a.case; heads = f.1 ++ a.heads; inside = inside_in f.1 a.inside }

abbrev pub bare_around : Inside → Around
bare_around i = record { case = None; heads = []; inside = i }

-- what is made of these directives, given what their blocks leave to the body
abbrev pub around_these : Bool → List Pick → Option ℤ → (ℤ → Result Around TplKind) → Result Around TplKind
around_these has_switch ps None below = Ok (bare_around (has_picks ps))
around_these has_switch ps (Some limit) below = found_after (None, []) has_switch ps >>= λ f. below limit >>= λ a. Ok (with_found f a)

-- a slot where none may be
abbrev pub is_orphan : Bool → List Pick → Bool
is_orphan slots ps = not slots && any_makes_slot ps

-- A plain element has no block round it but those that leave it to their body. A slot where none may be comes before what is wrong with other
-- directives.
abbrev pub around_picks : Bool → Bool → List Pick → (ℤ → Result Around TplKind) → Result Around TplKind
around_picks slots has_switch ps below =
    if any_makes_plain ps then Ok (bare_around is_plain)
    else if is_orphan slots ps then Err Orphan
    else around_these has_switch ps (block_priority ps) below

-- The blocks round an element whose directives are those below a limit, or why it is refused. So many priorities are looked at. What is in a
-- block has no switch round it.
abbrev pub around_below : ℕ → List DirectiveDef → Bool → Bool → Option ℤ → Node → Result Around TplKind
around_below zero defs slots has_switch limit n = Ok (bare_around is_plain)
around_below (suc room) defs slots has_switch limit n =
    picks_in (attributes_in n) (collected defs limit n) >>= λ ps. around_picks slots has_switch ps (λ l. around_below room defs slots false (Some l) n)

-- one more than there are priorities of blocks
unfoldable pub block_room : ℕ
block_room = 5

-- an element with its blocks, where slots may stand or not, and where there is a switch round it or not
abbrev pub around_node : List DirectiveDef → Bool → Bool → Node → Result Around TplKind
around_node defs slots has_switch n = around_below block_room defs slots has_switch None n
