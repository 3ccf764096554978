use Rattle.std.proofs.Common.{length, ap, sym, ◌∙◌, arith, List, ℕ}
use Rattle.ng_base.specs.Cells.{Cell}
use Rattle.ng_html.proofs.Lexed.{lexed_less}
use Rattle.ng_html.specs.Reading.{read_on}
use Rattle.ng_html.specs.TreeSeen.{state_of}
use Rattle.ng_html.proofs.Turns.{read_event_on}
use Rattle.ng_html.proofs.reading.read_all.Goals as goal

pub loop-c-smaller : goal.loop-c-smaller
loop-c-smaller c =
    let less = lexed_less c.args.total (c.in-Some.c, c.in-Some.place) c.in-Some.rest c.in_ok-event.event c.in_ok-event.rest c.in_ok-event.ensures in
    omega (arith, less, ap length c.in-Some.ensures)

pub loop-c-preserved : goal.loop-c-preserved
loop-c-preserved c =
    let step = read_event_on c.args.total (state_of c.loop-c.built) (state_of c.in_ok-built.built) c.loop-c.places (c.in-Some.c, c.in-Some.place) c.in-Some.rest c.in_ok-event.rest c.in_ok-event.event c.in_ok-event.ensures c.in_ok-built.ensures in
    ap (λ (ps : List ℕ). read_on c.args.total (state_of c.in_ok-built.built) ps c.in_ok-event.rest) c.in_ok-note.ensures
    ∙ (sym step ∙ (ap (λ (cs : List Cell). read_on c.args.total (state_of c.loop-c.built) c.loop-c.places cs) (sym c.in-Some.ensures) ∙ c.loop-c.invariant))
