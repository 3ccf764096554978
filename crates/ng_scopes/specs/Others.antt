-- What a change of one object of a store leaves.
use Rattle.std.specs.Prelude.{ℕ, ◌≡◌, ◌≢◌, List}
use Rattle.ng_base.specs.Objects.{Object, object_at}

-- every other object is as before
pub record LeavesOthers (objects : List Object) (o : ℕ) (new : List Object) : Type 0 where
  pub others : (q : ℕ) → q ≢ o → object_at new q ≡ object_at objects q
