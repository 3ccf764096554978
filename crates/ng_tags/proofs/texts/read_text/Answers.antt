use Rattle.std.proofs.Common.{◌≡◌, ap, sym, ◌∙◌, List, false}
use Rattle.ng_base.specs.Cells.{Cell}
use Rattle.ng_tags.specs.References.{Read}
use Rattle.ng_tags.specs.Texts.{ends, with_character, text_from}
use Rattle.ng_tags.specs.declared.texts.Decoded.{Decoded}
use Rattle.ng_tags.proofs.TextTurns.{text_on}
use Rattle.ng_tags.proofs.texts.read_text.Goals as goal

pub loop-c-preserved : goal.loop-c-preserved
loop-c-preserved c =
    let u = c.args.until.now in
    let no : ends u c.in-Some.c c.in-Some.rest ≡ false = cc (c.in_ok-ends.ensures, c.if-branch.false) in
    ap (λ (d : Decoded). text_from u d c.in_ok-read.rest) c.in_ok-d.ensures
    ∙ (ap (λ (r : Read). text_from u (with_character c.loop-c.d c.in-Some.place r.0) r.1) c.in_ok-read.ensures
    ∙ (sym (text_on u c.loop-c.d (c.in-Some.c, c.in-Some.place) c.in-Some.rest no)
    ∙ (ap (λ (cs : List Cell). text_from u c.loop-c.d cs) (sym c.in-Some.ensures) ∙ c.loop-c.invariant)))
