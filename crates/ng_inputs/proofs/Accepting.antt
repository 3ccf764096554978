-- What holds of files that are accepted.
use Rattle.std.proofs.Common.{ℕ, List, false}
use Rattle.std.specs.Prelude.{Result, Ok, Err, IfOk}
use Rattle.ng_base.specs.Meets.{◌>>=◌}
use Rattle.ng_app.specs.App.{Facts, facts_of}
use Rattle.ng_drawing.specs.Template.{Template}
use Rattle.ng_html.specs.Reading.{read_bytes}
use Rattle.ng_markup.specs.Forest.{Forest}
use Rattle.ng_template.specs.Compiles.{compiled}
use Rattle.ng_inputs.specs.Acts.{AreSound}
use Rattle.ng_inputs.specs.Files.{Inputs}
use Rattle.ng_inputs.specs.Refusals.{Accepted, refused_as, accepted}
use Rattle.ng_inputs.specs.declared.refusal.Refusal.{Refusal}
use Rattle.ng_inputs.specs.declared.refusal.Refusal.TheVariants.{Document, Application, Template as OfTemplate, Script as OfScript}
use Rattle.ng_inputs.proofs.Holding.{after, any}
use Rattle.ng_script.specs.Scripts.{script_of}
use Rattle.ng_inputs.proofs.Sound.{commands_sound}

refused : {A E : Type 0} (kind : E → Refusal) (r : Result A E) (P : A → Type 0) → IfOk r P → IfOk (refused_as kind r) P
refused kind (Ok x) P h = h
refused kind (Err e) P h = tt

abbrev of_script : List ℕ → Facts → Template → Result Accepted Refusal
of_script script facts template = refused_as OfScript (script_of script) >>= λ commands. Ok (record { facts = facts; template = template; commands = commands })

abbrev of_template : List ℕ → Facts → Forest × List ℕ → Result Accepted Refusal
of_template script facts source = refused_as OfTemplate (compiled source facts.definitions false) >>= λ template. of_script script facts template

abbrev of_application : List ℕ → List ℕ → Forest × List ℕ → Result Accepted Refusal
of_application application script source = refused_as Application (facts_of application) >>= λ facts. of_template script facts source

abbrev HasSound : Accepted → Type 0
HasSound a = AreSound a.commands

sound : (i : Inputs) → IfOk (accepted i) HasSound
sound i =
    any (refused_as Document (read_bytes i.template)) (λ source. of_application i.application i.script source) HasSound (λ source.
    any (refused_as Application (facts_of i.application)) (λ facts. of_template i.script facts source) HasSound (λ facts.
    any (refused_as OfTemplate (compiled source facts.definitions false)) (λ template. of_script i.script facts template) HasSound (λ template.
    after (refused_as OfScript (script_of i.script)) (λ commands. Ok (record { facts = facts; template = template; commands = commands })) AreSound HasSound (refused OfScript (script_of i.script) AreSound (commands_sound i.script)) (λ commands h. h))))
