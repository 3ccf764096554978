-- What is opened is refused at the first step that is.
use Rattle.std.proofs.Common.{◌≡◌, ◌∙◌, ap, sym, false, List, ℕ, Result, Ok, Err, IsErrAnd}
use Rattle.ng_app.proofs.Stops.{next, stop}
use Rattle.ng_app.specs.App.{Facts, facts_of}
use Rattle.ng_base.specs.Meets.{Gives}
use Rattle.ng_directives.specs.declared.fault.TplFault.{TplFault}
use Rattle.ng_drawing.specs.Template.{Template}
use Rattle.ng_html.specs.Reading.{read_bytes}
use Rattle.ng_inputs.specs.Files.{Inputs}
use Rattle.ng_inputs.specs.Free.{is_want}
use Rattle.ng_inputs.specs.Refusals.{accepted, refused_as}
use Rattle.ng_inputs.specs.declared.refusal.Refusal.{Refusal}
use Rattle.ng_inputs.specs.declared.refusal.Refusal.TheVariants.{Document, Application, Template as OfTemplate, Script}
use Rattle.ng_markup.specs.Forest.{Forest}
use Rattle.ng_script.specs.Scripts.{script_of}
use Rattle.ng_script.specs.declared.fault.ScriptFault.{ScriptFault}
use Rattle.ng_template.specs.Compiles.{compiled}

pub gives_err : {A B : Type 0} (seen : A → B) (asked : Result B Refusal) (r : Result A Refusal) (e : Refusal) → IsErrAnd r (λ y. y ≡ e) → (is_want e ≡ false → asked ≡ Err e) → Gives is_want seen asked r
gives_err seen asked (Ok v) e is h = absurd is
gives_err seen asked (Err d) e is h = λ (free : is_want d ≡ false). h (ap is_want (sym is) ∙ free) ∙ ap Err (sym is)

module _ (i : Inputs) (source : Forest × List ℕ) (facts : Facts) (reads : read_bytes i.template ≡ Ok source) (known : facts_of i.application ≡ Ok facts) where
  pub template_refused : (e : TplFault) → compiled source facts.definitions false ≡ Err e → accepted i ≡ Err (OfTemplate e)
  template_refused e bad =
      next (refused_as Document (read_bytes i.template)) source _ (Err (OfTemplate e)) (ap (refused_as Document) reads)
      (next (refused_as Application (facts_of i.application)) facts _ (Err (OfTemplate e)) (ap (refused_as Application) known)
      (stop (refused_as OfTemplate (compiled source facts.definitions false)) _ (OfTemplate e) (ap (refused_as OfTemplate) bad)))

  pub script_refused : (t : Template) (e : ScriptFault) → compiled source facts.definitions false ≡ Ok t → script_of i.script ≡ Err e → accepted i ≡ Err (Script e)
  script_refused t e made bad =
      next (refused_as Document (read_bytes i.template)) source _ (Err (Script e)) (ap (refused_as Document) reads)
      (next (refused_as Application (facts_of i.application)) facts _ (Err (Script e)) (ap (refused_as Application) known)
      (next (refused_as OfTemplate (compiled source facts.definitions false)) t _ (Err (Script e)) (ap (refused_as OfTemplate) made)
      (stop (refused_as Script (script_of i.script)) _ (Script e) (ap (refused_as Script) bad))))
