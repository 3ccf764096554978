use Rattle.std.proofs.Common.{◌∙◌, ap, map, slice_get, subst, sym}
use Rattle.ng_base.specs.Faults.{is_memory}
use Rattle.ng_base.specs.Meets.{Gives}
use Rattle.ng_core.specs.Frames as cores
use Rattle.ng_steps.proofs.Binds.{program_on, watchable_at}
use Rattle.ng_steps.proofs.BoundTexts.{nothing_more}
use Rattle.ng_steps.specs.LinkBindings.{and_shown, piece_shown}
use Rattle.ng_build.specs.StepOf.{IsWatchable}
use Rattle.ng_parse.specs.ProgramOf.{program}
use Rattle.ng_parts.specs.PieceOf.{piece_of}
use Rattle.ng_parts.specs.declared.pieces.Piece.{Piece}
use Rattle.ng_steps.proofs.binding_texts.show_piece.Goals as goal

pub show_hole-requires-clause-watchable : goal.show_hole-requires-clause-watchable
show_hole-requires-clause-watchable c = watchable_at IsWatchable (map program c.args.programs.now) _ c.program_at.result c.requires.watchable c.program_at.ensures

pub returns-in-Word : goal.returns-in-Word
returns-in-Word c = λ xs same.
    ap (λ (p : Piece). and_shown c.args.shown.now.items (piece_shown c.args.over.0 (slice_get xs) (piece_of p) (cores.state_of c.args.works.now.core))) c.in-Word.is
    ∙ nothing_more c.args.shown.now.items

pub returns-in-Hole : goal.returns-in-Hole
returns-in-Hole c = λ xs same.
    subst (λ (p : Piece). Gives is_memory (λ u. c.show_hole.new.shown.items) (and_shown c.args.shown.now.items (piece_shown c.args.over.0 (slice_get xs) (piece_of p) (cores.state_of c.args.works.now.core))) c.show_hole.result) (sym c.in-Hole.is)
    (c.show_hole.ensures (slice_get xs c.in-Hole.n) (program_on xs (map program c.args.programs.now) c.in-Hole.n _ same c.program_at.ensures))
