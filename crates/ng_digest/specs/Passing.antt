-- Keys that the cursor passes on its way up to a live key.
use Rattle.std.specs.Prelude.{◌≡◌, ◌≢◌, Bool, true, false, is_some}
use Rattle.ng_digest.specs.Laws.{InOrder}
use Rattle.ng_digest.specs.Machine.{Machine, found_dirty, next_key}
use Rattle.ng_digest.specs.Place.{Place, advanced, found, after_test, is_remembered}

-- From the cursor upwards keys are tested and passed, up to some live key, or to the last. None of those that are passed is
-- dirty, or is the remembered key
pub data Passes {S K : Type 0} (m : Machine S K) : Place S K → Bool → Place S K → Type 0 where
  up_to_end : {p : Place S K} → is_some (next_key m p.state p.cursor) ≡ false → InOrder m p.state → Passes m p false (advanced m p)
  up_to_key : {p : Place S K} → is_some (next_key m p.state p.cursor) ≡ true → InOrder m p.state → Passes m p true (advanced m p)
  went_past : {p q : Place S K} {more : Bool} → is_some (next_key m p.state p.cursor) ≡ true → InOrder m p.state → is_remembered m (advanced m p) ≡ false → found m (advanced m p) ≢ found_dirty → Passes m (after_test m (advanced m p)) more q → Passes m p more q
