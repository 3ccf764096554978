-- What an application file is: what its page begins with, or the first refusal.
use Rattle.std.specs.Prelude.{ℕ, Bool, true, false, ◌==◌, ◌&&◌, List, [], map, codes, Option, Some, None, is_some, option_and_then, Result, Ok, Err, if◌then◌else◌}
use Rattle.std.specs.Str.{bytes_eq, is_utf8}
use Rattle.serde_json.specs.Data.{Data, object, Members, no_members, member}
use Rattle.serde_json.specs.Read.{read}
use Rattle.serde_json.specs.Find.{as_number, as_u64, as_object, get_member}
use Rattle.ng_collect.specs.declared.definition.DirectiveDef.{DirectiveDef}
use Rattle.ng_core.specs.Beginning.{first_objects, first_state}
use Rattle.ng_core.specs.State as act
use Rattle.ng_base.specs.Meets.{◌>>=◌}
use Rattle.ng_base.specs.Objects.{Object}
use Rattle.ng_language.specs.Trees.{Trees}
use Rattle.ng_store.specs.declared.json.JsonFault.{JsonFault}
use Rattle.ng_store.specs.declared.json.JsonFault.TheVariants as json
use Rattle.ng_entries.specs.DirectiveEntries.{DirectiveEntry, directive_entries}
use Rattle.ng_app.specs.Directives.{Directive, definitions, directive_templates, rest_in, directives_from}
use Rattle.ng_entries.specs.Entries.{template_entries, function_entries, watch_entries, listener_entries, run_entry}
use Rattle.ng_app.specs.Programs.{Declared, Watched, Heard, program_at, functions_read, watches_read, listeners_read}
use Rattle.ng_entries.specs.Refused.{fault}
use Rattle.ng_app.specs.Templates.{Partial, templates_read}
use Rattle.ng_entries.specs.declared.entries.FunctionEntry.{FunctionEntry}
use Rattle.ng_entries.specs.declared.entries.TemplateEntry.{TemplateEntry}
use Rattle.ng_entries.specs.declared.entries.WatchEntry.{WatchEntry}
use Rattle.ng_entries.specs.declared.entries.ListenerEntry.{ListenerEntry}
use Rattle.ng_entries.specs.declared.fault.Member.{Member}
use Rattle.ng_entries.specs.declared.fault.Member.TheVariants as the
use Rattle.ng_entries.specs.declared.fault.AppKind.TheVariants as kind
use Rattle.ng_entries.specs.declared.fault.AppFault.{AppFault}

-- what a page begins with: the data stands in the object of the root scope; the definitions of directives; the templates that may be included; what the
-- directives do; and what is installed and
-- registered on the root scope, and runs there, before the page's template is linked
pub record Facts : Type 0 where
  pub core : act.State
  pub definitions : List DirectiveDef
  pub templates : List Partial
  pub directives : List Directive
  pub functions : List Declared
  pub run : Trees
  pub watches : List Watched
  pub listeners : List Heard

-- the members that an application may have
abbrev pub member_named : List ℕ → Option Member
member_named n =
    if bytes_eq n (codes "format") then Some the.Format
    else if bytes_eq n (codes "data") then Some the.Facts
    else if bytes_eq n (codes "templates") then Some the.Templates
    else if bytes_eq n (codes "directives") then Some the.Directives
    else if bytes_eq n (codes "functions") then Some the.Functions
    else if bytes_eq n (codes "run") then Some the.Run
    else if bytes_eq n (codes "watch") then Some the.Watch
    else if bytes_eq n (codes "on") then Some the.On
    else None

abbrev pub are_known : Members → Bool
are_known no_members = true
are_known (member k d ms) = is_some (member_named k) && are_known ms

-- the one format is the whole number 1, which is meant too where none is named
abbrev pub is_one : Option ℕ → Bool
is_one None = false
is_one (Some n) = n == 1

abbrev pub is_format : Option Data → Bool
is_format None = true
is_format (Some d) = is_one (option_and_then as_u64 (as_number d))

-- data that is given is an object
abbrev pub is_data : Option Data → Bool
is_data None = true
is_data (Some d) = is_some (as_object d)

-- where none is given there are no properties
abbrev pub data_given : Option Data → Data
data_given None = object no_members
data_given (Some d) = d

-- the entries of the members, each of its form
pub record Written : Type 0 where
  pub templates : List TemplateEntry
  pub directives : List DirectiveEntry
  pub functions : List FunctionEntry
  pub run : List ℕ
  pub watches : List WatchEntry
  pub listeners : List ListenerEntry

abbrev pub written : Members → Result Written AppFault
written ms =
    template_entries (get_member (codes "templates") ms) >>= λ ts.
    directive_entries (get_member (codes "directives") ms) >>= λ ds.
    function_entries (get_member (codes "functions") ms) >>= λ fs.
    run_entry (get_member (codes "run") ms) >>= λ r.
    watch_entries (get_member (codes "watch") ms) >>= λ ws.
    listener_entries (get_member (codes "on") ms) >>= λ ls.
    Ok (record { templates = ts; directives = ds; functions = fs; run = r; watches = ws; listeners = ls })

-- why JSON is not read as data
abbrev pub data_fault : JsonFault → AppFault
data_fault json.Number = fault the.Facts kind.Number
data_fault json.Full = fault the.Facts kind.Full
data_fault (json.Memory m) = fault the.File (kind.Memory m)

abbrev pub begun_with : List Object → Result (Unit {0}) JsonFault → Result act.State AppFault
begun_with objects (Ok u) = Ok (first_state objects)
begun_with objects (Err e) = Err (data_fault e)

-- the root's object has the members of the data, but for the names that every scope has of its own
abbrev pub core_with : Data → Result act.State AppFault
core_with d = begun_with (first_objects d).0 (first_objects d).1

-- the data is read, then the definitions of directives, and then the templates and the programs, member by member
abbrev pub facts_with : Data → Written → Result Facts AppFault
facts_with d w =
    core_with d >>= λ c.
    definitions w.directives >>= λ defs.
    templates_read defs [] w.templates >>= λ ts.
    directive_templates defs >>= λ us.
    directives_from [] us (map rest_in w.directives) >>= λ ds.
    functions_read [] w.functions >>= λ fs.
    program_at the.Run 0 w.run >>= λ r.
    watches_read [] w.watches >>= λ ws.
    listeners_read [] w.listeners >>= λ ls.
    Ok (record { core = c; definitions = defs; templates = ts; directives = ds; functions = fs; run = r; watches = ws; listeners = ls })

-- the members are of their kinds, in the order of the table
abbrev pub facts_of_data : Option Data → Members → Result Facts AppFault
facts_of_data d ms = if is_data d then (written ms >>= facts_with (data_given d)) else Err (fault the.Facts kind.Shape)

abbrev pub facts_of_format : Members → Result Facts AppFault
facts_of_format ms = if is_format (get_member (codes "format") ms) then facts_of_data (get_member (codes "data") ms) ms else Err (fault the.Format kind.Shape)

abbrev pub facts_of_object : Option Members → Result Facts AppFault
facts_of_object None = Err (fault the.File kind.Shape)
facts_of_object (Some ms) = if are_known ms then facts_of_format ms else Err (fault the.File kind.Shape)

abbrev pub facts_of_json : Option Data → Result Facts AppFault
facts_of_json None = Err (fault the.File kind.Json)
facts_of_json (Some d) = facts_of_object (as_object d)

-- what an application file begins a page with
abbrev pub facts_of : List ℕ → Result Facts AppFault
facts_of bytes = if is_utf8 bytes then facts_of_json (read bytes) else Err (fault the.File kind.Json)
