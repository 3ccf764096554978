-- The entries of an application's members, as they are written. An entry has no names but those of its form.
use Rattle.std.specs.Prelude.{ℕ, Bool, true, false, ◌&&◌, List, [], ◌∷◌, ◌++◌, length, codes, Option, Some, None, option_map, option_and_then, Result, Ok, Err, if◌then◌else◌}
use Rattle.std.specs.List.{list_all}
use Rattle.std.specs.Str.{bytes_eq, chars}
use Rattle.serde_json.specs.Data.{Data, Items, no_items, item, Members, no_members, member}
use Rattle.serde_json.specs.Find.{as_str, as_array, as_object, get_member}
use Rattle.ng_language.specs.Letters.{begins_name, is_in_name}
use Rattle.ng_language.specs.declared.snapshots.SnapKind.{SnapKind}
use Rattle.ng_language.specs.declared.snapshots.SnapKind.TheVariants as snaps
use Rattle.ng_entries.specs.Refused.{fault, fault_at}
use Rattle.ng_entries.specs.declared.fault.Member.TheVariants as the
use Rattle.ng_entries.specs.declared.fault.AppKind.TheVariants as kind
use Rattle.ng_entries.specs.declared.fault.AppFault.{AppFault}
use Rattle.ng_entries.specs.declared.entries.Form.{Form}
use Rattle.ng_entries.specs.declared.entries.Form.TheVariants as form
use Rattle.ng_entries.specs.declared.entries.FunctionEntry.{FunctionEntry}
use Rattle.ng_entries.specs.declared.entries.TemplateEntry.{TemplateEntry}
use Rattle.ng_entries.specs.declared.entries.WatchEntry.{WatchEntry}
use Rattle.ng_entries.specs.declared.entries.ListenerEntry.{ListenerEntry}

-- the names of a function, of a watch, of a listener
abbrev pub is_function_name : List ℕ → Bool
is_function_name n =
    if bytes_eq n (codes "params") then true
    else if bytes_eq n (codes "do") then true
    else false

abbrev pub is_watch_name : List ℕ → Bool
is_watch_name n =
    if bytes_eq n (codes "expr") then true
    else if bytes_eq n (codes "kind") then true
    else if bytes_eq n (codes "do") then true
    else false

abbrev pub is_listener_name : List ℕ → Bool
is_listener_name n =
    if bytes_eq n (codes "name") then true
    else if bytes_eq n (codes "do") then true
    else false

abbrev pub is_directive_member : List ℕ → Bool
is_directive_member n =
    if bytes_eq n (codes "name") then true
    else if bytes_eq n (codes "restrict") then true
    else if bytes_eq n (codes "priority") then true
    else if bytes_eq n (codes "terminal") then true
    else if bytes_eq n (codes "scope") then true
    else if bytes_eq n (codes "template") then true
    else if bytes_eq n (codes "transclude") then true
    else if bytes_eq n (codes "functions") then true
    else if bytes_eq n (codes "watch") then true
    else if bytes_eq n (codes "on") then true
    else if bytes_eq n (codes "link") then true
    else false

abbrev pub is_name_of : Form → List ℕ → Bool
is_name_of form.Function n = is_function_name n
is_name_of form.Watch n = is_watch_name n
is_name_of form.Listener n = is_listener_name n
is_name_of form.Directive n = is_directive_member n

abbrev pub has_form : Form → Members → Bool
has_form f no_members = true
has_form f (member k d ms) = is_name_of f k && has_form f ms

-- the members of an object that has no names but those of a form
abbrev pub formed : Form → Data → Option Members
formed f d = option_and_then (λ ms. if has_form f ms then Some ms else None) (as_object d)

-- a text
abbrev pub text_of : Option Data → Option (List ℕ)
text_of d = option_map chars (option_and_then as_str d)

abbrev pub text_in : List ℕ → Members → Option (List ℕ)
text_in n ms = text_of (get_member n ms)

-- a name of the expression language: a letter, `_` or `$`, and then these and digits
abbrev pub is_name : List ℕ → Bool
is_name [] = false
is_name (c ∷ cs) = if begins_name c then list_all is_in_name cs else false

-- the name of a parameter
abbrev pub param_of : Data → Option (List ℕ)
param_of d = option_and_then (λ n. if is_name n then Some n else None) (text_of (Some d))

-- parameters after those that are read
abbrev pub params_after : List (List ℕ) → Items → Option (List (List ℕ))
params_after done no_items = Some done
params_after done (item d ds) = option_and_then (λ n. params_after (done ++ n ∷ []) ds) (param_of d)

-- a function may have no parameters
abbrev pub params_of : Option Data → Option (List (List ℕ))
params_of None = Some []
params_of (Some d) = option_and_then (params_after []) (as_array d)

abbrev pub kind_named : List ℕ → Option SnapKind
kind_named n =
    if bytes_eq n (codes "reference") then Some snaps.Reference
    else if bytes_eq n (codes "collection") then Some snaps.Collection
    else if bytes_eq n (codes "value") then Some snaps.Deep
    else None

-- what a watch compares, which is the value itself where nothing is said
abbrev pub kind_of : Option Data → Option SnapKind
kind_of None = Some snaps.Reference
kind_of (Some d) = option_and_then kind_named (as_str d)

abbrev pub function_entry : List ℕ → Data → Option FunctionEntry
function_entry name d =
    option_and_then (λ ms.
    option_and_then (λ ps.
    option_map (λ t. record { name = name; params = ps; body = t })
    (text_in (codes "do") ms)) (params_of (get_member (codes "params") ms))) (formed form.Function d)

abbrev pub watch_entry : Data → Option WatchEntry
watch_entry d =
    option_and_then (λ ms.
    option_and_then (λ k.
    option_and_then (λ e.
    option_map (λ t. record { kind = k; watched = e; body = t })
    (text_in (codes "do") ms)) (text_in (codes "expr") ms)) (kind_of (get_member (codes "kind") ms))) (formed form.Watch d)

abbrev pub listener_entry : Data → Option ListenerEntry
listener_entry d =
    option_and_then (λ ms.
    option_and_then (λ n.
    option_map (λ t. record { name = n; body = t })
    (text_in (codes "do") ms)) (text_in (codes "name") ms)) (formed form.Listener d)

abbrev pub template_entry : List ℕ → Data → Option TemplateEntry
template_entry name d = option_map (λ t. record { name = name; text = t }) (text_of (Some d))

-- an entry is of its form, or it is refused
abbrev pub with_entry : {A B : Type 0} → AppFault → Option A → (A → Result B AppFault) → Result B AppFault
with_entry f None go = Err f
with_entry f (Some x) go = go x

-- the templates in the order of their names, after those that are read
abbrev pub templates_after : List TemplateEntry → Members → Result (List TemplateEntry) AppFault
templates_after done no_members = Ok done
templates_after done (member k d ms) = with_entry (fault_at the.Templates (length done) kind.Shape) (template_entry (chars k) d) (λ t. templates_after (done ++ t ∷ []) ms)

-- the functions in the order of their names, after those that are read
abbrev pub functions_after : List FunctionEntry → Members → Result (List FunctionEntry) AppFault
functions_after done no_members = Ok done
functions_after done (member k d ms) = with_entry (fault_at the.Functions (length done) kind.Shape) (function_entry (chars k) d) (λ f. functions_after (done ++ f ∷ []) ms)

abbrev pub watches_after : List WatchEntry → Items → Result (List WatchEntry) AppFault
watches_after done no_items = Ok done
watches_after done (item d ds) = with_entry (fault_at the.Watch (length done) kind.Shape) (watch_entry d) (λ w. watches_after (done ++ w ∷ []) ds)

abbrev pub listeners_after : List ListenerEntry → Items → Result (List ListenerEntry) AppFault
listeners_after done no_items = Ok done
listeners_after done (item d ds) = with_entry (fault_at the.On (length done) kind.Shape) (listener_entry d) (λ l. listeners_after (done ++ l ∷ []) ds)

-- a member that may be missing
abbrev pub template_entries : Option Data → Result (List TemplateEntry) AppFault
template_entries None = Ok []
template_entries (Some d) = with_entry (fault the.Templates kind.Shape) (as_object d) (templates_after [])

abbrev pub function_entries : Option Data → Result (List FunctionEntry) AppFault
function_entries None = Ok []
function_entries (Some d) = with_entry (fault the.Functions kind.Shape) (as_object d) (functions_after [])

abbrev pub watch_entries : Option Data → Result (List WatchEntry) AppFault
watch_entries None = Ok []
watch_entries (Some d) = with_entry (fault the.Watch kind.Shape) (as_array d) (watches_after [])

abbrev pub listener_entries : Option Data → Result (List ListenerEntry) AppFault
listener_entries None = Ok []
listener_entries (Some d) = with_entry (fault the.On kind.Shape) (as_array d) (listeners_after [])

-- the text of the program that runs first
abbrev pub run_entry : Option Data → Result (List ℕ) AppFault
run_entry None = Ok []
run_entry (Some d) = with_entry (fault the.Run kind.Shape) (text_of (Some d)) Ok
