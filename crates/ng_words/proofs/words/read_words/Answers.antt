use Rattle.std.proofs.Common.{◌≡◌, ◌∙◌, ap, map, encode_utf8_all}
use Rattle.clap.specs.Words.{app_of}
use Rattle.clap.specs.Walk.{texts}
use Rattle.ng_words.specs.Words.{parsed, words_of}
use Rattle.ng_words.proofs.Reading.{refused, taken}
use Rattle.ng_words.proofs.words.read_words.Goals as goal

pub returns-in-Ok : goal.returns-in-Ok
unfolding words_of
returns-in-Ok c =
    let are : texts c.as_slice.result.now ≡ map encode_utf8_all c.args.words.now = ap texts c.as_slice.ensures.value ∙ c.in_ok-texts.ensures in
    c.in_ok-together-in-Ok.ensures
    ∙ taken (app_of c.in_ok-command.command) (texts c.as_slice.result.now) c.in-Ok.matches c.in_ok-command.ensures c.in-Ok.ensures.kinds c.in-Ok.ensures.matches
    ∙ ap parsed are

pub returns : goal.returns
unfolding words_of
returns c =
    let are : texts c.as_slice.result.now ≡ map encode_utf8_all c.args.words.now = ap texts c.as_slice.ensures.value ∙ c.in_ok-texts.ensures in
    refused (app_of c.in_ok-command.command) (texts c.as_slice.result.now) c.in-Err.error c.in_ok-command.ensures c.in-Err.ensures.kinds (λ e. c.in_default.not-OutOfMemory (c.kind.ensures ∙ e))
    ∙ ap parsed are
