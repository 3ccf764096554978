use Rattle.std.proofs.Common.{◌≡◌, ◌∙◌, ap, sym}
use Rattle.std.specs.Prelude.{encode_utf8_all}
use Rattle.ng_html.specs.Reading.{read_bytes}
use Rattle.ng_app.specs.Templates.{as_markup}
use Rattle.ng_app.proofs.Compiled.{markup_refused}
use Rattle.ng_app.proofs.templates.document_of.Goals as goal

pub returns-in-Ok : goal.returns-in-Ok
returns-in-Ok c =
    let bytes : c.as_bytes.result.now ≡ encode_utf8_all c.args.text.now = c.as_bytes.ensures.value ∙ c.as_str.ensures.bytes in
    ap (λ bs. as_markup c.args.member c.args.item (read_bytes bs)) (sym bytes) ∙ ap (as_markup c.args.member c.args.item) c.in-Ok.ensures.exact

pub returns-in-Err : goal.returns-in-Err
returns-in-Err c free =
    let bytes : c.as_bytes.result.now ≡ encode_utf8_all c.args.text.now = c.as_bytes.ensures.value ∙ c.as_str.ensures.bytes in
    markup_refused c.args.member c.args.item (read_bytes (encode_utf8_all c.args.text.now)) c.in-Err.refused c.markup_fault.result (λ m. ap read_bytes (sym bytes) ∙ c.in-Err.ensures.exact m) c.markup_fault.ensures free
