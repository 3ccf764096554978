use Rattle.std.proofs.Common.{subst}
use Rattle.ng_words.specs.Words.{words_of}
use Rattle.ng_run.specs.ReplyOf.{IsReplyTo, IsPageTo}
use Rattle.ng_run.specs.Run.{Puts}
use Rattle.ng_run.specs.Session.{whole, Replies}
use Rattle.ng_run.proofs.Causes.{reply_put}
use Rattle.ng_run.proofs.Writing.{line_reply, page_writes, writes_session, writes_causes, line_page}
use Rattle.ng_run.proofs.run.run.Goals as goal

pub write_line-requires : goal.write_line-requires
write_line-requires g c =
    let words = words_of c.args.words.now in
    let told = g.S.Shelf.bytes c.args.shelf.now in
    let before = g.S.Shelf.failed c.args.shelf.now in
    let now = g.S.Shelf.failed c.answer.new.shelf in
    let calls = subst (λ r. IsReplyTo (λ e q. Replies e words told before now q) r) c.in-Ok-Line.field-0-is c.in-Ok-Line.ensures in
    (reply_put whole words told before now (line_reply c.in-Ok-Line.status c.in-Ok-Line.piece.items) (calls whole)).0

pub returns-in-Ok-Line-clause-session : goal.returns-in-Ok-Line-clause-session
returns-in-Ok-Line-clause-session g c =
    let words = words_of c.args.words.now in
    let told = g.S.Shelf.bytes c.args.shelf.now in
    let before = g.S.Shelf.failed c.args.shelf.now in
    let now = g.S.Shelf.failed c.answer.new.shelf in
    let calls = subst (λ r. IsReplyTo (λ e q. Replies e words told before now q) r) c.in-Ok-Line.field-0-is c.in-Ok-Line.ensures in
    let puts = subst (λ b. Puts g.K.Sink.taken g.K.Sink.faults c.args.sink.now c.write_line.new.sink c.write_line.result.status c.write_line.result.page whole (line_reply c.in-Ok-Line.status b)) c.as_slice.ensures.value c.write_line.ensures.put in
    writes_session g.K.Sink.taken g.K.Sink.faults c.args.sink.now c.write_line.new.sink c.write_line.result.status c.write_line.result.page words told before now (whole, line_reply c.in-Ok-Line.status c.in-Ok-Line.piece.items, calls whole, puts)

pub returns-in-Ok-Line-clause-causes : goal.returns-in-Ok-Line-clause-causes
returns-in-Ok-Line-clause-causes g c =
    let words = words_of c.args.words.now in
    let told = g.S.Shelf.bytes c.args.shelf.now in
    let before = g.S.Shelf.failed c.args.shelf.now in
    let now = g.S.Shelf.failed c.answer.new.shelf in
    let calls = subst (λ r. IsReplyTo (λ e q. Replies e words told before now q) r) c.in-Ok-Line.field-0-is c.in-Ok-Line.ensures in
    let puts = subst (λ b. Puts g.K.Sink.taken g.K.Sink.faults c.args.sink.now c.write_line.new.sink c.write_line.result.status c.write_line.result.page whole (line_reply c.in-Ok-Line.status b)) c.as_slice.ensures.value c.write_line.ensures.put in
    writes_causes g.K.Sink.taken g.K.Sink.faults c.args.sink.now c.write_line.new.sink c.write_line.result.status c.write_line.result.page words told before now (whole, line_reply c.in-Ok-Line.status c.in-Ok-Line.piece.items, calls whole, puts)

pub returns-in-Ok-Line-clause-page : goal.returns-in-Ok-Line-clause-page
returns-in-Ok-Line-clause-page g c =
    let words = words_of c.args.words.now in
    let told = g.S.Shelf.bytes c.args.shelf.now in
    let before = g.S.Shelf.failed c.args.shelf.now in
    let now = g.S.Shelf.failed c.answer.new.shelf in
    let calls = subst (λ r. IsReplyTo (λ e q. Replies e words told before now q) r) c.in-Ok-Line.field-0-is c.in-Ok-Line.ensures in
    let puts = subst (λ b. Puts g.K.Sink.taken g.K.Sink.faults c.args.sink.now c.write_line.new.sink c.write_line.result.status c.write_line.result.page whole (line_reply c.in-Ok-Line.status b)) c.as_slice.ensures.value c.write_line.ensures.put in
    line_page g.K.Sink.taken g.K.Sink.faults c.args.sink.now c.write_line.new.sink c.write_line.result.status c.write_line.result.page words told before now c.in-Ok-Line.status c.in-Ok-Line.piece.items (calls whole) puts c.write_line.ensures.page

pub returns-in-Ok-Page-clause-session : goal.returns-in-Ok-Page-clause-session
returns-in-Ok-Page-clause-session g c =
    let words = words_of c.args.words.now in
    let told = g.S.Shelf.bytes c.args.shelf.now in
    let before = g.S.Shelf.failed c.args.shelf.now in
    let now = g.S.Shelf.failed c.answer.new.shelf in
    let to : IsPageTo (λ e q. Replies e words told before now q) c.in-Ok-Page.opened = subst (λ r. IsReplyTo (λ e q. Replies e words told before now q) r) c.in-Ok-Page.field-0-is c.in-Ok-Page.ensures in
    let writes = page_writes g.K.Sink.taken g.K.Sink.faults c.args.sink.now c.write_page.new.sink c.write_page.result.status c.write_page.result.page (λ e q. Replies e words told before now q) c.in-Ok-Page.opened to (c.write_page.ensures.steps to.left to.page) in
    writes_session g.K.Sink.taken g.K.Sink.faults c.args.sink.now c.write_page.new.sink c.write_page.result.status c.write_page.result.page words told before now writes

pub returns-in-Ok-Page-clause-causes : goal.returns-in-Ok-Page-clause-causes
returns-in-Ok-Page-clause-causes g c =
    let words = words_of c.args.words.now in
    let told = g.S.Shelf.bytes c.args.shelf.now in
    let before = g.S.Shelf.failed c.args.shelf.now in
    let now = g.S.Shelf.failed c.answer.new.shelf in
    let to : IsPageTo (λ e q. Replies e words told before now q) c.in-Ok-Page.opened = subst (λ r. IsReplyTo (λ e q. Replies e words told before now q) r) c.in-Ok-Page.field-0-is c.in-Ok-Page.ensures in
    let writes = page_writes g.K.Sink.taken g.K.Sink.faults c.args.sink.now c.write_page.new.sink c.write_page.result.status c.write_page.result.page (λ e q. Replies e words told before now q) c.in-Ok-Page.opened to (c.write_page.ensures.steps to.left to.page) in
    writes_causes g.K.Sink.taken g.K.Sink.faults c.args.sink.now c.write_page.new.sink c.write_page.result.status c.write_page.result.page words told before now writes
