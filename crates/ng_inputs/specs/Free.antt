-- The free answer: memory was refused.
use Rattle.std.specs.Prelude.{Bool, Option, None, Some}
use Rattle.ng_base.specs.declared.fault.Memory.{Memory}
use Rattle.ng_tags.specs.declared.fault.HtmlKind.{HtmlKind}
use Rattle.ng_tags.specs.declared.fault.HtmlKind.TheVariants as html
use Rattle.ng_html.specs.Free.{is_free}
use Rattle.ng_entries.specs.declared.fault.AppKind.{AppKind}
use Rattle.ng_entries.specs.declared.fault.AppKind.TheVariants as app
use Rattle.ng_entries.specs.Free.{is_app_refused}
use Rattle.ng_script.specs.declared.fault.ScriptKind.{ScriptKind}
use Rattle.ng_script.specs.declared.fault.ScriptKind.TheVariants as commands
use Rattle.ng_script.specs.Free as script
use Rattle.ng_directives.specs.declared.fault.TplKind.{TplKind}
use Rattle.ng_directives.specs.declared.fault.TplKind.TheVariants as tpl
use Rattle.ng_directives.specs.Free.{is_tpl_want}
use Rattle.ng_inputs.specs.declared.refusal.Refusal.{Refusal}
use Rattle.ng_inputs.specs.declared.refusal.Refusal.TheVariants.{Document, Application, Template, Script}

abbrev pub is_want : Refusal → Bool
is_want (Document f) = is_free f
is_want (Application f) = is_app_refused f
is_want (Template f) = is_tpl_want f
is_want (Script f) = script.is_free f

-- the want of memory that a kind of refusal names
abbrev pub html_memory : HtmlKind → Option Memory
html_memory (html.Memory m) = Some m
html_memory kind = None

abbrev pub app_memory : AppKind → Option Memory
app_memory (app.Memory m) = Some m
app_memory kind = None

abbrev pub tpl_memory : TplKind → Option Memory
tpl_memory (tpl.Memory m) = Some m
tpl_memory kind = None

abbrev pub script_memory : ScriptKind → Option Memory
script_memory (commands.Memory m) = Some m
script_memory kind = None

-- the want of memory that a refusal names, wherever it stands
abbrev pub memory_in : Refusal → Option Memory
memory_in (Document f) = html_memory f.kind
memory_in (Application f) = app_memory f.kind
memory_in (Template f) = tpl_memory f.kind
memory_in (Script f) = script_memory f.kind
