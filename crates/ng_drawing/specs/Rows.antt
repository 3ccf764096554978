-- Whether the bodies that stand in an outlet are those that a value calls for (API: ngIf, ngSwitch, ngRepeat, ngInclude).
use Rattle.std.specs.Prelude.{Bool, not, List, Option, None, Some, if◌then◌else◌}
use Rattle.ng_base.specs.Views.{ViewTree}
use Rattle.ng_drawing.specs.Cases.{Case, calls_for}
use Rattle.ng_drawing.specs.Looks.{is_kept_true}
use Rattle.ng_drawing.specs.Roles.{Role, entries_kept, are_rows, has_roles, is_one_named}
use Rattle.ng_language.specs.Texts.{text_of}
use Rattle.ng_drawing.specs.Template.{Filling, body_if, on_case, for_each, by_name}

-- a body stands exactly where one is called for
abbrev pub is_as_called : Bool → List Role → Bool
is_as_called called rs = if called then has_roles rs else not (has_roles rs)

-- a true value calls for the template that its text names, and another for nothing
abbrev pub is_included : Option ViewTree → List Role → Bool
is_included None rs = not (has_roles rs)
is_included (Some v) rs = if is_kept_true (Some v) then is_one_named (text_of v) rs else not (has_roles rs)

-- a repeat has the rows of the entries of the collection, an inclusion the template of a name, and all other outlets a body exactly where
-- the value calls for it, beside the cases of the same switch
abbrev pub is_filled : List Case → Filling → Option ViewTree → List Role → Bool
is_filled cases (body_if b) v rs = is_as_called (calls_for cases (body_if b) v) rs
is_filled cases (on_case c b) v rs = is_as_called (calls_for cases (on_case c b) v) rs
is_filled cases (for_each r b) v rs = are_rows (entries_kept v) rs
is_filled cases (by_name b) v rs = is_included v rs
