use Rattle.std.proofs.Common.{rules, ◌≡◌, ◌∙◌, ap, sym, List, [], ℕ}
use Rattle.std.specs.Prelude.{Err, Result}
use Rattle.std.specs.Str.{chars}
use Rattle.ng_base.specs.Meets.{Gives}
use Rattle.ng_script.specs.Acts.{entries_of}
use Rattle.ng_script.specs.Free.{is_free}
use Rattle.ng_script.specs.Lines.{lines}
use Rattle.ng_script.specs.Scripts.{script_of, commands_from}
use Rattle.ng_script.specs.declared.commands.Commands.{Commands}
use Rattle.ng_script.specs.declared.fault.ScriptFault.{ScriptFault}
use Rattle.ng_script.proofs.ScriptBytes.{ill_formed_read, text_read}
use Rattle.ng_script.proofs.reading.read_bytes.Goals as goal

pub returns-in-Err : goal.returns-in-Err
returns-in-Err c =
    let bs = c.args.bytes.now in
    let e = ill_formed_read bs c.valid_up_to.result c.in-Err.ensures.cases.0 (c.valid_up_to.ensures ∙ c.in-Err.ensures.valid_len) in
    let r : Result Commands ScriptFault = Err c.fault.result in
    let g : Gives is_free entries_of (script_of bs) r = search (rules, e) in
    g

pub returns-in-Ok : goal.returns-in-Ok
returns-in-Ok c =
    let bs = c.args.bytes.now in
    let e : script_of bs ≡ commands_from 0 [] (lines (chars c.in-Ok.text.now)) = text_read bs c.in-Ok.ensures.cases.1 ∙ ap (λ (t : List ℕ). commands_from 0 [] (lines (chars t))) (sym c.in-Ok.ensures.cases.0) in
    let r = c.read_lines.result in
    let g : Gives is_free entries_of (script_of bs) r = search (rules, e) in
    g
