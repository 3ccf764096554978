-- The directives of an application: their entries as they are written, and what these spell (guide: Directives, "Creating Directives").
use Rattle.std.specs.Prelude.{ℕ, ◌+◌, Bool, true, false, List, [], ◌∷◌, ◌++◌, length, map, Option, None, Some, Result, Ok, Err, if◌then◌else◌}
use Rattle.std.specs.List.{flat_map}
use Rattle.ng_base.specs.Meets.{◌>>=◌}
use Rattle.ng_bind.specs.Reading.{spec_in}
use Rattle.ng_collect.specs.Definitions.{is_directive_name, is_restrict, specs_of}
use Rattle.ng_collect.specs.declared.definition.DirectiveDef.{DirectiveDef}
use Rattle.ng_drawing.specs.Template.{Template}
use Rattle.ng_parts.specs.Directing.{Programs}
use Rattle.ng_drawing.specs.Named.{Named}
use Rattle.ng_app.specs.Programs.{Declared, Watched, Heard, function_read, watch_read, listener_read, program_at}
use Rattle.ng_entries.specs.Refused.{fault_at}
use Rattle.ng_app.specs.Templates.{text_template}
use Rattle.ng_entries.specs.declared.entries.FunctionEntry.{FunctionEntry}
use Rattle.ng_entries.specs.declared.entries.ListenerEntry.{ListenerEntry}
use Rattle.ng_entries.specs.declared.entries.WatchEntry.{WatchEntry}
use Rattle.ng_entries.specs.declared.fault.AppFault.{AppFault}
use Rattle.ng_entries.specs.declared.fault.AppKind.{AppKind}
use Rattle.ng_entries.specs.declared.fault.AppKind.TheVariants as kind
use Rattle.ng_entries.specs.declared.fault.Member.TheVariants as the
use Rattle.ng_app.specs.declared.registering.Point.{Point}
use Rattle.ng_app.specs.declared.registering.Point.TheVariants as point
use Rattle.ng_entries.specs.DirectiveEntries.{DirectiveEntry}

-- a directive: its template, if it has one, and what it does on its scope
pub record Directive : Type 0 where
  pub template : Option Template
  pub programs : Programs

-- whether each text is a binding
abbrev pub is_ok : {A E : Type 0} → Result A E → Bool
is_ok (Ok v) = true
is_ok (Err e) = false

abbrev pub are_bindings : List (List ℕ × List ℕ) → Bool
are_bindings [] = true
are_bindings (s ∷ ss) = if is_ok (spec_in s.1) then are_bindings ss else false

-- whether a definition stands on a point that it is judged by
abbrev pub stands : Point → DirectiveDef → Bool
stands point.Name d = is_directive_name d.name
stands point.Restrict d = is_restrict d.restrict
stands point.Binding d = are_bindings (specs_of d.scope)

-- the first entry, counted from i on, that does not
abbrev pub first_failing : Point → ℕ → List DirectiveEntry → Option ℕ
first_failing p i [] = None
first_failing p i (e ∷ es) = if stands p e.def then first_failing p (i + 1) es else Some i

-- it is refused
abbrev pub unless_failing : AppKind → Option ℕ → Result (Unit {0}) AppFault
unless_failing k None = Ok tt
unless_failing k (Some i) = Err (fault_at the.Directives i k)

abbrev pub judged_by : Point → AppKind → List DirectiveEntry → Result (Unit {0}) AppFault
judged_by p k es = unless_failing k (first_failing p 0 es)

-- BadName of all entries first, then BadRestrict of all, then BadBinding of all
abbrev pub judged : List DirectiveEntry → Result (Unit {0}) AppFault
judged es =
    judged_by point.Name kind.BadName es >>= λ u.
    judged_by point.Restrict kind.BadRestrict es >>= λ v.
    judged_by point.Binding kind.BadBinding es

abbrev pub definitions_in : List DirectiveEntry → List DirectiveDef
definitions_in es = map (λ (e : DirectiveEntry). e.def) es

-- the definitions of entries, or why one is refused
abbrev pub definitions : List DirectiveEntry → Result (List DirectiveDef) AppFault
definitions es = judged es >>= λ u. Ok (definitions_in es)

-- the template of a directive, in which slots may stand where it transcludes
abbrev pub template_if : List DirectiveDef → ℕ → Bool → Option (List ℕ) → Result (Option Template) AppFault
template_if defs i slots None = Ok None
template_if defs i slots (Some t) = text_template the.Directives i defs slots t >>= λ u. Ok (Some u)

abbrev pub directive_template : List DirectiveDef → ℕ → DirectiveDef → Result (Option Template) AppFault
directive_template defs i d = template_if defs i d.transclude d.template

abbrev pub templates_from : List DirectiveDef → List (Option Template) → List DirectiveDef → Result (List (Option Template)) AppFault
templates_from defs done [] = Ok done
templates_from defs done (d ∷ ds) = directive_template defs (length done) d >>= λ t. templates_from defs (done ++ t ∷ []) ds

abbrev pub directive_templates : List DirectiveDef → Result (List (Option Template)) AppFault
directive_templates defs = templates_from defs [] defs

-- the programs of an entry, of whose number the refusals tell
abbrev pub functions_at : ℕ → List Declared → List FunctionEntry → Result (List Declared) AppFault
functions_at i done [] = Ok done
functions_at i done (f ∷ fs) = function_read the.Directives i f >>= λ x. functions_at i (done ++ x ∷ []) fs

abbrev pub watches_at : ℕ → List Watched → List WatchEntry → Result (List Watched) AppFault
watches_at i done [] = Ok done
watches_at i done (w ∷ ws) = watch_read the.Directives i w >>= λ x. watches_at i (done ++ x ∷ []) ws

abbrev pub listeners_at : ℕ → List Heard → List ListenerEntry → Result (List Heard) AppFault
listeners_at i done [] = Ok done
listeners_at i done (l ∷ ls) = listener_read the.Directives i l >>= λ x. listeners_at i (done ++ x ∷ []) ls

-- what is left of an entry beside its definition
pub record Rest : Type 0 where
  pub functions : List FunctionEntry
  pub watches : List WatchEntry
  pub listeners : List ListenerEntry
  pub link : List ℕ

abbrev pub rest_in : DirectiveEntry → Rest
rest_in e = record { functions = e.functions; watches = e.watches; listeners = e.listeners; link = e.link }

abbrev pub programs_read : ℕ → Rest → Result Programs AppFault
programs_read i e =
    functions_at i [] e.functions >>= λ fs. watches_at i [] e.watches >>= λ ws. listeners_at i [] e.listeners >>= λ ls. program_at the.Directives i e.link >>= λ p.
    Ok (record { functions = fs; watches = ws; listeners = ls; link = p })

abbrev pub directives_from : List Directive → List (Option Template) → List Rest → Result (List Directive) AppFault
directives_from done ts [] = Ok done
directives_from done [] (e ∷ es) = Ok done
directives_from done (t ∷ ts) (e ∷ es) = programs_read (length done) e >>= λ p. directives_from (done ++ record { template = t; programs = p } ∷ []) ts es

-- their templates come behind the page's own, without a name
abbrev pub unnamed : Option Template → List Named
unnamed None = []
unnamed (Some t) = (None, t) ∷ []

abbrev pub unnamed_of : Directive → List Named
unnamed_of d = unnamed d.template

abbrev pub all_unnamed : List Directive → List Named
all_unnamed ds = flat_map unnamed_of ds

abbrev pub all_programs : List Directive → List Programs
all_programs ds = map (λ (d : Directive). d.programs) ds
