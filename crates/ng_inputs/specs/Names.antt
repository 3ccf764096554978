-- The names of refusals.
use Rattle.std.specs.Prelude.{ℕ, List, codes}
use Rattle.ng_tags.specs.declared.fault.HtmlKind.{HtmlKind}
use Rattle.ng_tags.specs.declared.fault.HtmlKind.TheVariants as html
use Rattle.ng_entries.specs.declared.fault.Member.{Member}
use Rattle.ng_entries.specs.declared.fault.Member.TheVariants as the
use Rattle.ng_entries.specs.declared.fault.AppKind.{AppKind}
use Rattle.ng_entries.specs.declared.fault.AppKind.TheVariants as app
use Rattle.ng_script.specs.declared.fault.ScriptKind.{ScriptKind}
use Rattle.ng_script.specs.declared.fault.ScriptKind.TheVariants as script
use Rattle.ng_directives.specs.declared.fault.TplKind.{TplKind}
use Rattle.ng_directives.specs.declared.fault.TplKind.TheVariants as tpl

abbrev pub html_name : HtmlKind → List ℕ
html_name html.Utf8 = codes "Utf8"
html_name html.Unclosed = codes "Unclosed"
html_name html.Unmatched = codes "Unmatched"
html_name html.BadTag = codes "BadTag"
html_name html.BadAttr = codes "BadAttr"
html_name html.BadReference = codes "BadReference"
html_name html.TooDeep = codes "TooDeep"
html_name html.SelfClosed = codes "SelfClosed"
html_name (html.Memory m) = codes "Memory"

abbrev pub tpl_name : TplKind → List ℕ
tpl_name tpl.Expression = codes "Expression"
tpl_name tpl.Impure = codes "Impure"
tpl_name tpl.MultiDir = codes "MultiDir"
tpl_name tpl.BadRepeat = codes "BadRepeat"
tpl_name tpl.CaseWithoutSwitch = codes "CaseWithoutSwitch"
tpl_name tpl.UnknownFilter = codes "UnknownFilter"
tpl_name tpl.LeftOut = codes "LeftOut"
tpl_name tpl.Orphan = codes "Orphan"
tpl_name (tpl.Memory m) = codes "Memory"

abbrev pub member_name : Member → List ℕ
member_name the.File = codes "file"
member_name the.Format = codes "format"
member_name the.Facts = codes "data"
member_name the.Templates = codes "templates"
member_name the.Directives = codes "directives"
member_name the.Functions = codes "functions"
member_name the.Run = codes "run"
member_name the.Watch = codes "watch"
member_name the.On = codes "on"

abbrev pub app_name : AppKind → List ℕ
app_name app.Json = codes "Json"
app_name app.Shape = codes "Shape"
app_name app.Number = codes "Number"
app_name app.Full = codes "Full"
app_name app.BadName = codes "BadName"
app_name app.BadRestrict = codes "BadRestrict"
app_name app.BadBinding = codes "BadBinding"
app_name app.Markup = codes "Markup"
app_name app.Template = codes "Template"
app_name app.Expression = codes "Expression"
app_name app.Impure = codes "Impure"
app_name (app.Memory m) = codes "Memory"

abbrev pub script_name : ScriptKind → List ℕ
script_name script.Utf8 = codes "Utf8"
script_name script.UnknownCommand = codes "UnknownCommand"
script_name script.BadTarget = codes "BadTarget"
script_name script.BadExpression = codes "BadExpression"
script_name script.TooMany = codes "TooMany"
script_name script.BadArgument = codes "BadArgument"
script_name (script.Memory m) = codes "Memory"
