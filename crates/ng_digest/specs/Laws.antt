-- What the early stop rests on: the order of keys, and that a test changes no other test.
use Rattle.std.specs.Prelude.{◌≡◌, ◌≢◌}
use Rattle.std.specs.Cmp.{IsTotalOrder}
use Rattle.std.specs.List.Sorted.{IsStrictlySortedBy}
use Rattle.std.specs.declared.cmp.Ordering.TheVariants.{Equal}
use Rattle.ng_digest.specs.Machine.{Machine, found_dirty}

-- the live keys are listed in their order
abbrev pub InOrder : {S K : Type 0} → Machine S K → S → Type 0
InOrder m s = IsStrictlySortedBy m.order (m.keys s)

-- Keys are totally ordered, and no two keys tie. A test that isn't dirty leaves the live keys and what each test
-- finds; a second one changes nothing, and so does one that changed nothing before another was made. Tasks that wait
-- stay where a digest is given up.
pub record HasLaws {S K : Type 0} (m : Machine S K) : Type 0 where
  pub total : IsTotalOrder m.order
  pub exact : (a b : K) → m.order a b ≡ Equal → a ≡ b
  pub same_keys : (s : S) (k : K) → m.verdict s k ≢ found_dirty → m.keys (m.tested s k) ≡ m.keys s
  pub same_verdict : (s : S) (k j : K) → m.verdict s k ≢ found_dirty → m.verdict (m.tested s k) j ≡ m.verdict s j
  pub told_once : (s : S) (k : K) → m.verdict s k ≢ found_dirty → m.tested (m.tested s k) k ≡ m.tested s k
  pub told_before : (s : S) (k j : K) → m.verdict s k ≢ found_dirty → m.tested s j ≡ s → m.tested (m.tested s k) j ≡ m.tested s k
  pub tasks_stay : (s : S) → m.waits (m.failed s) ≡ m.waits s
