use Rattle.std.proofs.Common.{◌<◌, ◌+◌, ℕ, List, ap, sym, ◌∙◌, drop, get_or, length, arith}
use Rattle.ng_drawing.specs.Template.{SiteScopes}
use Rattle.ng_parts.specs.FragmentOf.{fragment_of}
use Rattle.ng_instances.specs.MarksOf.{marks_of}
use Rattle.ng_instances.specs.Registering.{Marks, with_mark, marks_from}
use Rattle.ng_build.proofs.Loops.{got_or, next_item}
use Rattle.ng_instances.proofs.registering.site_marks.Goals as goal

pub loop-i-preserved : goal.loop-i-preserved
loop-i-preserved c =
    let f = fragment_of c.args.fragment.now in
    let ss = c.args.serials.now in
    let i = c.loop-i.i in
    let lt : i < length ss = omega arith in
    let n : ℕ = get_or ss i 0 in
    let before : Marks = marks_of c.loop-i.marks.entries in
    ap (λ (ms : Marks). marks_from f (i + 1) (drop (i + 1) ss) ms) (c.in_ok-note_mark.ensures ∙ ap (λ (m : SiteScopes). with_mark n m before) c.mark.ensures)
    ∙ (sym (ap (λ (ns : List ℕ). marks_from f i ns before) (next_item ss i n lt (got_or ss i 0 lt))) ∙ c.loop-i.invariant)
