-- The log of a digest: counters, each of which stays at its type's last value once it is there.
use Rattle.std.specs.Prelude.{ℕ, zero, suc, ◌+◌, ◌-◌, ◌^◌, min, Bool, true, false, if◌then◌else◌}
use Rattle.ng_digest.specs.declared.log.Log.{Log}
use Rattle.ng_digest.specs.declared.log.Report.{Report}

abbrev pub more32 : ℕ → ℕ
more32 n = min (n + 1) (2 ^ 32 - 1)

abbrev pub more64 : ℕ → ℕ
more64 n = min (n + 1) (2 ^ 64 - 1)

-- so many more, one after another
abbrev pub many64 : ℕ → ℕ → ℕ
many64 zero n = n
many64 (suc k) n = many64 k (more64 n)

abbrev pub zero_log : Log
zero_log = record { rounds = 0; dirty_rounds = 0; fires = 0; round_fires = 0; tasks = 0; tests = 0; tests_since_fire = 0; round_tests = 0 }

abbrev pub with_round : Log → Log
with_round l = record l { rounds = more32 l.rounds; round_fires = 0; round_tests = 0 }

abbrev pub with_test : Log → Log
with_test l = record l { tests = more64 l.tests; tests_since_fire = more64 l.tests_since_fire; round_tests = more64 l.round_tests }

abbrev pub with_tests : ℕ → Log → Log
with_tests k l = record l { tests = many64 k l.tests; tests_since_fire = many64 k l.tests_since_fire; round_tests = many64 k l.round_tests }

abbrev pub with_fire : Log → Log
with_fire l = record l { fires = more32 l.fires; round_fires = more32 l.round_fires; tests_since_fire = 0 }

abbrev pub with_task : Log → Log
with_task l = record l { tasks = more32 l.tasks }

abbrev pub with_close : Bool → Log → Log
with_close false l = l
with_close true l = record l { dirty_rounds = more32 l.dirty_rounds }

-- what a settled digest reports: after a stop the tests since the last fire, and else those of the last round
abbrev pub report_of : Log → Bool → Report
report_of l stopped = record { rounds = l.rounds; fires = l.fires; tests = l.tests; tests_after_last_fire = if stopped then l.tests_since_fire else l.round_tests }
