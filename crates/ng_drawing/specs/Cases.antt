-- Which bodies a value calls for; and of a switch, which cases: those that have its text, or else the defaults (API: ngIf, ngSwitch, ngInclude).
use Rattle.std.specs.Prelude.{ℕ, ◌==◌, Bool, false, not, List, [], ◌∷◌, ◌++◌, Option, Some, None, if◌then◌else◌}
use Rattle.std.specs.List.{list_any}
use Rattle.ng_base.specs.Views.{ViewTree}
use Rattle.ng_blocks.specs.Switching.{matches}
use Rattle.ng_language.specs.Texts.{text_of}
use Rattle.ng_drawing.specs.Looks.{is_kept_true}
use Rattle.ng_drawing.specs.Template.{Filling, body_if, on_case, for_each, by_name, Outlet}

-- a case has a text, or it is a default
abbrev pub Case : Type 0
Case = Option (List ℕ)

abbrev pub case_in : Filling → List Case
case_in (body_if b) = []
case_in (on_case c b) = c ∷ []
case_in (for_each r b) = []
case_in (by_name b) = []

-- the cases of a switch, by its site, in document order
abbrev pub cases_of : List Outlet → ℕ → List Case
cases_of [] site = []
cases_of (o ∷ os) site = if o.site == site then case_in o.filling ++ cases_of os site else cases_of os site

-- a case is shown where it has the value's text, a default where no case has
abbrev pub is_chosen : List Case → List ℕ → Case → Bool
is_chosen cases value (Some text) = matches value (Some text)
is_chosen cases value None = not (list_any (matches value) cases)

-- nothing is shown for what was kept never; a list's text has those of its items, and a record's is that of any object
abbrev pub is_chosen_by : List Case → Option ViewTree → Case → Bool
is_chosen_by cases None c = false
is_chosen_by cases (Some v) c = is_chosen cases (text_of v) c

-- whether a value of the site calls for the body of an outlet, which may be one of these cases; a repeat has rows in its place
abbrev pub calls_for : List Case → Filling → Option ViewTree → Bool
calls_for cases (body_if b) v = is_kept_true v
calls_for cases (on_case c b) v = is_chosen_by cases v c
calls_for cases (for_each r b) v = false
calls_for cases (by_name b) v = is_kept_true v
