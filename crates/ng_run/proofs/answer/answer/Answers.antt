use Rattle.std.proofs.Common.{ap, sym, ◌∙◌, map, option_map}
use Rattle.ng_inputs.specs.InputsOf.{file_of}
use Rattle.ng_words.specs.Words.{words_of}
use Rattle.ng_words.specs.WordsOf.{words_seen}
use Rattle.ng_run.specs.ReplyOf.{IsReplyTo}
use Rattle.ng_run.specs.Session.{FilesReply, Replies}
use Rattle.ng_run.proofs.Answering.{if_ok, reply_to, words_reply}
use Rattle.ng_run.proofs.answer.answer.Goals as goal

pub returns-in_ok-files-in-Some : goal.returns-in_ok-files-in-Some
returns-in_ok-files-in-Some g c =
    let told = g.S.Shelf.bytes c.args.shelf.now in
    let before = g.S.Shelf.failed c.args.shelf.now in
    let now = g.S.Shelf.failed c.answer_to_files.new.shelf in
    let w = words_seen c.in-Some.words in
    let files = map file_of c.as_slice.result.now in
    if_ok (λ r. IsReplyTo (λ e q. FilesReply e w.flags.trace files told before now q) r) (λ r. IsReplyTo (λ e q. Replies e (words_of c.args.words.now) told before now q) r) c.answer_to_files.result
    (λ r h. reply_to (λ e q. FilesReply e w.flags.trace files told before now q) (λ e q. Replies e (words_of c.args.words.now) told before now q)
    (words_reply (words_of c.args.words.now) w files told before now (sym (ap (option_map words_seen) c.in-Some.is) ∙ c.in_ok-asked.ensures) (ap (map file_of) c.as_slice.ensures.value ∙ c.in_ok-files-in-Some.ensures)) r h)
    c.answer_to_files.ensures
