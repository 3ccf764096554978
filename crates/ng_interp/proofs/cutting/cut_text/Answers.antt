use Rattle.std.proofs.Common.{rules, ap, ◌∙◌, length, ◌∷◌, [], ◌++◌}
use Rattle.std.specs.Str.{chars}
use Rattle.ng_interp.specs.Cutting.{cut_from}
use Rattle.ng_interp.proofs.CutSteps.{one_more, run_more, pair_more}
use Rattle.ng_interp.proofs.cutting.cut_text.Goals as goal

pub loop-c-preserved-in-None : goal.loop-c-preserved-in-None
loop-c-preserved-in-None c =
    let total = length c.as_str-total.result.now in
    let words = c.loop-c.words ++ c.in-Some.c ∷ [] in
    let first = one_more total c.loop-c.cuts c.loop-c.opened c.loop-c.words c.in-Some.c c.in-Some.rest c.is_some.result c.is_some.ensures c.in-None.ensures in
    let front = ap (λ x. cut_from total c.loop-c.cuts c.loop-c.opened words x) c.run-others.ensures.front in
    let run = run_more total c.loop-c.cuts c.loop-c.opened words (chars c.run-others.result.0.now) c.run-others.result.1 c.run-others.ensures.plain in
    let e = first ∙ (front ∙ run) in
    search (rules, e)

pub loop-c-preserved : goal.loop-c-preserved
loop-c-preserved c =
    let e = pair_more (length c.as_str-total.result.now) c.loop-c.cuts c.loop-c.opened c.loop-c.words c.in-Some.c c.in-Some.rest c.in-Some-behind_pair.behind c.is_some.result c.is_some.ensures c.in-Some-behind_pair.ensures in
    search (rules, e)
