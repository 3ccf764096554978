use Rattle.std.proofs.Common.{◌≡◌, ◌∙◌, ap, ap₂, codes, true}
use Rattle.std.proofs.lemmas.Result.{IfOk-weaker}
use Rattle.clap.specs.Words.{app_of, with_rule}
use Rattle.clap.specs.Simple.{Shape, app_of_fields, on_top}
use Rattle.ng_words.specs.Words.{command_named}
use Rattle.ng_words.proofs.command.command.Goals as goal

pub returns : goal.returns
returns c =
    let named : app_of c.no_binary_name.result ≡ command_named (codes "ngrun") =
    ap app_of_fields c.no_binary_name.ensures ∙ ap (on_top (λ (s : Shape). record s { no_binary_name = true })) c.new.ensures.app in
    let template = c.in_ok-arg.ensures.shape c.positional.ensures.local ∙ ap₂ with_rule named c.positional.ensures.rule in
    let application = c.in_ok-arg-2.ensures.shape c.positional-2.ensures.local ∙ ap₂ with_rule template c.positional-2.ensures.rule in
    let script = c.in_ok-arg-3.ensures.shape c.positional-3.ensures.local ∙ ap₂ with_rule application c.positional-3.ensures.rule in
    let trace = c.in_ok-arg-4.ensures.shape c.flag.ensures.local ∙ ap₂ with_rule script c.flag.ensures.rule in
    let patches = c.in_ok-arg-5.ensures.shape c.flag-2.ensures.local ∙ ap₂ with_rule trace c.flag-2.ensures.rule in
    let fixed = c.in_ok-arg-6.ensures.shape c.flag-3.ensures.local ∙ ap₂ with_rule patches c.flag-3.ensures.rule in
    IfOk-weaker c.arg-7.result _ _ (λ r h. h.shape c.with_value.ensures.local ∙ ap₂ with_rule fixed c.with_value.ensures.rule) c.arg-7.ensures
