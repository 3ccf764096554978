use Rattle.std.proofs.Common.{rules, arith, ◌∙◌, ◌<◌, ◌≡◌, length}
use Rattle.std.specs.Prelude.{Err, Result}
use Rattle.ng_base.specs.Meets.{Gives}
use Rattle.ng_tags.specs.declared.fault.HtmlFault.{HtmlFault}
use Rattle.ng_html.specs.Free.{is_free}
use Rattle.ng_html.specs.Reading.{before_zero, read_bytes}
use Rattle.ng_html.specs.TreeSeen.{source_of}
use Rattle.ng_html.specs.declared.source.Source.{Source}
use Rattle.ng_html.proofs.Bytes.{ill_formed_read, zero_read, plain_read, before_zero_le}
use Rattle.ng_html.proofs.Answered.{answered}
use Rattle.ng_html.proofs.reading.read.Goals as goal

pub returns-in-Err : goal.returns-in-Err
returns-in-Err c =
    let bs = c.args.bytes.now in
    let e = ill_formed_read bs c.valid_up_to.result c.in-Err.ensures.cases.0 (c.valid_up_to.ensures ∙ c.in-Err.ensures.valid_len) in
    let r : Result Source HtmlFault = Err c.no_text.result in
    let g : Gives is_free source_of (read_bytes bs) r = search (rules, e) in
    let a = answered bs r g in
    record { found = a.found; only = a.only; refused = a.refused; one = a.one; exact = g }

pub returns-then-sound-bytes : goal.returns-then-sound-bytes
returns-then-sound-bytes c =
    let bs = c.args.bytes.now in
    let less : before_zero bs < length bs = omega (arith, c.if-sound-bytes.true, c.before_zero-sound.ensures) in
    let e = zero_read bs c.in-Ok.ensures.cases.1 less in
    let r : Result Source HtmlFault = Err c.no_text-then-sound-bytes.result in
    let g : Gives is_free source_of (read_bytes bs) r = search (rules, e) in
    let a = answered bs r g in
    record { found = a.found; only = a.only; refused = a.refused; one = a.one; exact = g }

pub returns-else-sound-bytes : goal.returns-else-sound-bytes
returns-else-sound-bytes c =
    let bs = c.args.bytes.now in
    let most = before_zero_le bs in
    let all : before_zero bs ≡ length bs = omega (arith, c.if-sound-bytes.false, c.before_zero-sound.ensures, most) in
    let e = plain_read bs (c.in-Ok.ensures.cases.1, all) in
    let r = c.read_text.result in
    let g : Gives is_free source_of (read_bytes bs) r = search (rules, e) in
    let a = answered bs r g in
    record { found = a.found; only = a.only; refused = a.refused; one = a.one; exact = g }
