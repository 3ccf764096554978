-- A board as a world.
use Rattle.std.specs.Prelude.{ℕ, None, []}
use Rattle.std.specs.Ordering.{nat_cmp}
use Rattle.ng_sheets.specs.declared.sheet.Sheet.{Sheet}
use Rattle.ng_digest.specs.Machine.{Machine}
use Rattle.ng_digest.specs.Place.{Place, Moves}
use Rattle.ng_digest.specs.Progress.{place, at_start}
use Rattle.ng_sheets.specs.Board.{State, view, verdict, tested, fired, waits, ran, unset, live_from}

abbrev pub board_machine : Machine State ℕ
board_machine = record {
  order = nat_cmp;
  keys = λ s. live_from 0 s.watches;
  verdict = verdict;
  tested = tested;
  fired = fired;
  adds = λ s k. (fired s k).added;
  waits = waits;
  ran = ran;
  settled = unset;
  failed = unset;
  handed = λ s. s.handed;
}

abbrev pub place_of : Sheet → Place State ℕ
place_of w = place (view w.board) w.progress

-- a sheet has no counter that could stand at its last value
abbrev pub sheet_moves : Moves Sheet
sheet_moves = record { State = State; Key = ℕ; machine = board_machine; at = place_of; Holds = λ w. Unit {0}; Rests = λ w. Unit {0}; IsWorn = λ w. ⊥ }

-- a state before a digest: nothing was handed over
abbrev pub readied : State → State
readied s = record s { told = []; failed = []; handed = None }

-- where a digest begins: nothing was counted or remembered yet
abbrev pub starting : State → Place State ℕ
starting s = place s at_start

abbrev pub ready_place : State → Place State ℕ
ready_place s = starting (readied s)
