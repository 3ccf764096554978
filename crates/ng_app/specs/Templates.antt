-- The templates of an application: what their texts compile to (API: ngInclude, `$templateCache`).
use Rattle.std.specs.Prelude.{ℕ, Bool, false, List, [], ◌∷◌, ◌++◌, length, map, encode_utf8_all, Some, Result, Ok, Err}
use Rattle.ng_base.specs.Meets.{◌>>=◌}
use Rattle.ng_collect.specs.declared.definition.DirectiveDef.{DirectiveDef}
use Rattle.ng_drawing.specs.Template.{Template}
use Rattle.ng_html.specs.Reading.{read_bytes}
use Rattle.ng_markup.specs.Forest.{Forest}
use Rattle.ng_tags.specs.declared.fault.HtmlFault.{HtmlFault}
use Rattle.ng_tags.specs.declared.fault.HtmlKind.{HtmlKind}
use Rattle.ng_tags.specs.declared.fault.HtmlKind.TheVariants as html
use Rattle.ng_template.specs.Compiles.{compiled}
use Rattle.ng_drawing.specs.Named.{Named}
use Rattle.ng_directives.specs.declared.fault.TplFault.{TplFault}
use Rattle.ng_directives.specs.declared.fault.TplKind.{TplKind}
use Rattle.ng_directives.specs.declared.fault.TplKind.TheVariants as tpl
use Rattle.ng_entries.specs.Refused.{fault, fault_at}
use Rattle.ng_entries.specs.declared.entries.TemplateEntry.{TemplateEntry}
use Rattle.ng_entries.specs.declared.fault.AppFault.{AppFault}
use Rattle.ng_entries.specs.declared.fault.AppKind.TheVariants as kind
use Rattle.ng_entries.specs.declared.fault.Member.{Member}
use Rattle.ng_entries.specs.declared.fault.Member.TheVariants as the

-- a template by its name
pub record Partial : Type 0 where
  pub name : List ℕ
  pub template : Template

-- a text that is no document
abbrev pub markup_fault : Member → ℕ → HtmlKind → AppFault
markup_fault e i (html.Memory m) = fault the.File (kind.Memory m)
markup_fault e i k = fault_at e i kind.Markup

abbrev pub as_markup : Member → ℕ → Result (Forest × List ℕ) HtmlFault → Result (Forest × List ℕ) AppFault
as_markup e i (Ok s) = Ok s
as_markup e i (Err f) = Err (markup_fault e i f.kind)

-- a document that is no template
abbrev pub template_fault : Member → ℕ → TplKind → AppFault
template_fault e i (tpl.Memory m) = fault the.File (kind.Memory m)
template_fault e i k = fault_at e i kind.Template

abbrev pub as_template : Member → ℕ → Result Template TplFault → Result Template AppFault
as_template e i (Ok t) = Ok t
as_template e i (Err f) = Err (template_fault e i f.kind)

-- what a text compiles to with these directives, where slots may stand in it or not
abbrev pub text_template : Member → ℕ → List DirectiveDef → Bool → List ℕ → Result Template AppFault
text_template e i defs slots t = as_markup e i (read_bytes (encode_utf8_all t)) >>= λ s. as_template e i (compiled s defs slots)

-- the text of an entry is read, and then compiled
abbrev pub template_read : List DirectiveDef → ℕ → TemplateEntry → Result Partial AppFault
template_read defs i t = text_template the.Templates i defs false t.text >>= λ u. Ok (record { name = t.name; template = u })

-- entries after those that are read
abbrev pub templates_read : List DirectiveDef → List Partial → List TemplateEntry → Result (List Partial) AppFault
templates_read defs done [] = Ok done
templates_read defs done (t ∷ ts) = template_read defs (length done) t >>= λ x. templates_read defs (done ++ x ∷ []) ts

-- what `ng-include` knows them by
abbrev pub named_of : Partial → Named
named_of t = (Some t.name, t.template)

abbrev pub all_named : List Partial → List Named
all_named ts = map named_of ts
