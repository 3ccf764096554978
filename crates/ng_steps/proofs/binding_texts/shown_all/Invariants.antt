use Rattle.std.proofs.Common.{◌≡◌, List, drop, map, slice_get}
use Rattle.ng_core.specs.Frames as cores
use Rattle.ng_drawing.specs.Template.{Site}
use Rattle.ng_steps.specs.LinkBindings.{and_shown, shown_over}
use Rattle.ng_parse.specs.ProgramOf.{program}
use Rattle.ng_parts.specs.PieceOf.{piece_of}
use Rattle.ng_steps.proofs.binding_texts.shown_all.Given as goal

-- what is shown so far comes before what the rest shows
abbrev pub invariant-loop-piece : goal.invariant-loop-piece
invariant-loop-piece l = (xs : List Site) → map program l.programs ≡ map (λ (x : Site). x.program) xs → shown_over l.over.0 (slice_get xs) (map piece_of l.piece-items) (cores.state_of l.works.core)
    ≡ and_shown l.shown.items (shown_over l.over.0 (slice_get xs) (map piece_of (drop l.piece-index l.piece-items)) (cores.state_of l.works.core))
