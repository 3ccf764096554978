-- What opens, or the first refusal in the order of work. The session and the causes of the statuses both go by it.
use Rattle.std.specs.Prelude.{ℕ, false, List, ◌++◌, codes, Result, Ok, Err}
use Rattle.std.specs.Fmt.{decimal}
use Rattle.ng_base.specs.Meets.{◌>>=◌}
use Rattle.ng_html.specs.Reading.{read_bytes}
use Rattle.ng_app.specs.App.{Facts, facts_of}
use Rattle.ng_drawing.specs.Template.{Template}
use Rattle.ng_script.specs.Acts.{Entry}
use Rattle.ng_script.specs.Scripts.{script_of}
use Rattle.ng_template.specs.Compiles.{compiled}
use Rattle.ng_inputs.specs.Files.{Inputs}
use Rattle.ng_inputs.specs.Names.{html_name, tpl_name, member_name, app_name, script_name}
use Rattle.ng_inputs.specs.declared.refusal.Refusal.{Refusal}
use Rattle.ng_inputs.specs.declared.refusal.Refusal.TheVariants.{Document, Application, Template as OfTemplate, Script as OfScript}

-- what a page is opened from, and the commands that are done on it
pub record Accepted : Type 0 where
  pub facts : Facts
  pub template : Template
  pub commands : List Entry

abbrev pub refused_as : {A E : Type 0} → (E → Refusal) → Result A E → Result A Refusal
refused_as kind (Ok x) = Ok x
refused_as kind (Err e) = Err (kind e)

-- The template's document is read, then the application, then the template is compiled with the directives of the core and of the
-- application, then the script is read, and the first refusal stands.
abbrev pub accepted : Inputs → Result Accepted Refusal
accepted i =
    refused_as Document (read_bytes i.template)
    >>= λ source. refused_as Application (facts_of i.application)
    >>= λ facts. refused_as OfTemplate (compiled source facts.definitions false)
    >>= λ template. refused_as OfScript (script_of i.script)
    >>= λ commands. Ok (record { facts = facts; template = template; commands = commands })

abbrev pub refusal_status : Refusal → ℕ
refusal_status (Document f) = 3
refusal_status (Application f) = 4
refusal_status (OfTemplate f) = 3
refusal_status (OfScript f) = 5

abbrev pub template_text : ℕ → List ℕ → List ℕ
template_text place name = codes "template: " ++ decimal place ++ codes " " ++ name

abbrev pub refusal_text : Refusal → List ℕ
refusal_text (Document f) = template_text f.place (html_name f.kind)
refusal_text (Application f) = codes "application: " ++ member_name f.member ++ codes " " ++ decimal f.item ++ codes " " ++ app_name f.kind
refusal_text (OfTemplate f) = template_text f.place (tpl_name f.kind)
refusal_text (OfScript f) = codes "script: " ++ decimal f.line ++ codes " " ++ script_name f.kind
