-- What an entry of a directive says, as it is written.
use Rattle.std.specs.Prelude.{ℕ, ℤ, pos, Bool, true, false, List, [], ◌∷◌, ◌++◌, length, codes, Option, None, Some, option_map, option_and_then, Result, Ok, Err}
use Rattle.std.specs.Str.{chars}
use Rattle.serde_json.specs.Data.{Data, Items, no_items, item, Members, no_members, member, boolean, object}
use Rattle.serde_json.specs.Find.{as_array, as_bool, as_number, as_object, get_member}
use Rattle.ng_collect.specs.declared.definition.DirectiveDef.{DirectiveDef}
use Rattle.ng_collect.specs.declared.definition.ScopeAsk.{ScopeAsk}
use Rattle.ng_collect.specs.declared.definition.ScopeAsk.TheVariants.{Same, Child, Isolate}
use Rattle.ng_store.specs.Json.{whole}
use Rattle.ng_entries.specs.Entries.{formed, text_of, text_in, with_entry, functions_after, watches_after, listeners_after}
use Rattle.ng_entries.specs.Refused.{fault, fault_at}
use Rattle.ng_entries.specs.declared.entries.Form.TheVariants as form
use Rattle.ng_entries.specs.declared.entries.FunctionEntry.{FunctionEntry}
use Rattle.ng_entries.specs.declared.entries.ListenerEntry.{ListenerEntry}
use Rattle.ng_entries.specs.declared.entries.WatchEntry.{WatchEntry}
use Rattle.ng_entries.specs.declared.fault.AppFault.{AppFault}
use Rattle.ng_entries.specs.declared.fault.AppKind.TheVariants as kind
use Rattle.ng_entries.specs.declared.fault.Member.TheVariants as the

-- a directive as it is written
pub record DirectiveEntry : Type 0 where
  pub def : DirectiveDef
  pub functions : List FunctionEntry
  pub watches : List WatchEntry
  pub listeners : List ListenerEntry
  pub link : List ℕ

-- true or false, and false where it is missing
abbrev pub flag_of : Option Data → Option Bool
flag_of None = Some false
flag_of (Some d) = as_bool d

-- a whole number of the language, and 0 where it is missing
abbrev pub priority_of : Option Data → Option ℤ
priority_of None = Some (pos 0)
priority_of (Some d) = option_and_then whole (as_number d)

abbrev pub restrict_of : Option Data → Option (List ℕ)
restrict_of None = Some (codes "EA")
restrict_of (Some d) = text_of (Some d)

-- the properties of an isolate scope, after those that are read
abbrev pub specs_after : List (List ℕ × List ℕ) → Members → Option (List (List ℕ × List ℕ))
specs_after done no_members = Some done
specs_after done (member k d ms) = option_and_then (λ t. specs_after (done ++ (chars k, t) ∷ []) ms) (text_of (Some d))

abbrev pub scope_in : Data → Option ScopeAsk
scope_in (boolean false) = Some Same
scope_in (boolean true) = Some Child
scope_in (object ms) = option_map Isolate (specs_after [] ms)
scope_in d = None

abbrev pub scope_of : Option Data → Option ScopeAsk
scope_of None = Some Same
scope_of (Some d) = scope_in d

abbrev pub optional_text : Option Data → Option (Option (List ℕ))
optional_text None = Some None
optional_text (Some d) = option_map Some (text_of (Some d))

abbrev pub link_of : Option Data → Option (List ℕ)
link_of None = Some []
link_of (Some d) = text_of (Some d)

-- the answer, if there is no refusal
abbrev pub accepted : {A : Type 0} → Result A AppFault → Option A
accepted (Ok v) = Some v
accepted (Err f) = None

abbrev pub functions_in : Option Data → Option (List FunctionEntry)
functions_in None = Some []
functions_in (Some d) = option_and_then (λ ms. accepted (functions_after [] ms)) (as_object d)

abbrev pub watches_in : Option Data → Option (List WatchEntry)
watches_in None = Some []
watches_in (Some d) = option_and_then (λ ds. accepted (watches_after [] ds)) (as_array d)

abbrev pub listeners_in : Option Data → Option (List ListenerEntry)
listeners_in None = Some []
listeners_in (Some d) = option_and_then (λ ds. accepted (listeners_after [] ds)) (as_array d)

abbrev pub definition_of : Members → Option DirectiveDef
definition_of ms =
    option_and_then (λ n. option_and_then (λ r. option_and_then (λ p. option_and_then (λ e. option_and_then (λ s. option_and_then (λ t.
    option_map (λ c. record { name = n; restrict = r; priority = p; terminal = e; scope = s; template = t; transclude = c })
    (flag_of (get_member (codes "transclude") ms))) (optional_text (get_member (codes "template") ms))) (scope_of (get_member (codes "scope") ms)))
    (flag_of (get_member (codes "terminal") ms))) (priority_of (get_member (codes "priority") ms))) (restrict_of (get_member (codes "restrict") ms)))
    (text_in (codes "name") ms)

abbrev pub entry_of_members : Members → Option DirectiveEntry
entry_of_members ms =
    option_and_then (λ d. option_and_then (λ f. option_and_then (λ w. option_and_then (λ l.
    option_map (λ t. record { def = d; functions = f; watches = w; listeners = l; link = t })
    (link_of (get_member (codes "link") ms))) (listeners_in (get_member (codes "on") ms))) (watches_in (get_member (codes "watch") ms)))
    (functions_in (get_member (codes "functions") ms))) (definition_of ms)

abbrev pub directive_entry : Data → Option DirectiveEntry
directive_entry d = option_and_then entry_of_members (formed form.Directive d)

-- entries after those that are read
abbrev pub directives_after : List DirectiveEntry → Items → Result (List DirectiveEntry) AppFault
directives_after done no_items = Ok done
directives_after done (item d ds) = with_entry (fault_at the.Directives (length done) kind.Shape) (directive_entry d) (λ e. directives_after (done ++ e ∷ []) ds)

abbrev pub directive_entries : Option Data → Result (List DirectiveEntry) AppFault
directive_entries None = Ok []
directive_entries (Some d) = with_entry (fault the.Directives kind.Shape) (as_array d) (directives_after [])
