-- Which watchers are known to be clean in the middle of a digest (guide: Scopes, "Scope Life Cycle"). A fire that runs no program, and neither
-- makes nor takes away a body, changes nothing that a test reads, but for what its own watcher keeps. After any other those are known that the
-- round passes above its key, and so the next round tests the watchers up to that key. Of a watcher whose test's fault was told in the digest nothing is
-- known, and it is tested each time.
use Rattle.std.specs.Prelude.{◌≡◌, ◌&&◌, ◌||◌, Bool, true, false, not, List, Option, None, Some, Ok, if◌then◌else◌}
use Rattle.std.specs.Option.{ForSome}
use Rattle.ng_base.specs.Objects.{Object}
use Rattle.ng_base.specs.declared.path.Key.{Key}
use Rattle.ng_digest.specs.Machine.{above}
use Rattle.ng_digest.specs.declared.world.Tested.{Tested}
use Rattle.ng_digest.specs.declared.world.Tested.TheVariants as tests
use Rattle.ng_behaviour.specs.Keys.{is_above}
use Rattle.ng_watch.specs.Table.{Table, found}
use Rattle.ng_watch.specs.Verdicts.{clean, verdict}
use Rattle.ng_watch.specs.Walks.{Arrival, behind_all, at_watcher}
use Rattle.ng_page.specs.PageMachine.{is_told, page_machine}
use Rattle.ng_page.specs.declared.known.Known.{Known}
use Rattle.ng_page.specs.declared.known.Passed.{Passed}
use Rattle.ng_page.specs.declared.known.Passed.TheVariants.{Nothing, Below, UpTo}

-- the watcher of a key is clean, if there is one
abbrev pub IsClean : List Object → Table → Key → Type 0
IsClean objects t k = ForSome (found k t) (λ w. verdict objects w ≡ Ok clean)

-- it is so unless its test's fault was told
abbrev pub IsCleanUnlessTold : List Key → List Object → Table → Key → Type 0
IsCleanUnlessTold told objects t k = is_told told k ≡ false → IsClean objects t k

-- a key is below the cursor; before the least key the cursor is none
abbrev pub is_under : Option Key → Key → Bool
is_under None k = false
is_under (Some c) k = is_above k c

-- one key, if there is one, is above the cursor and below another
abbrev pub is_between : Option Key → Option Key → Key → Bool
is_between c None k = false
is_between c (Some last) k = above page_machine c last && is_above last k

-- a key was passed in this round
abbrev pub is_passed : Passed → Option Key → Key → Bool
is_passed Nothing c k = false
is_passed Below c k = is_under c k
is_passed UpTo c k = not (above page_machine c k)

-- a key is known: with all above the bound those are known that were passed, and else those above it that were passed
abbrev pub is_known : Known → Option Key → Key → Bool
is_known known c k = if known.to_end then above page_machine known.from k || is_passed known.passed c k else above page_machine known.from k && is_passed known.passed c k

-- the watchers of which it is known are clean, but for those that were told
abbrev pub AreClean : Known → Option Key → List Key → List Object → Table → Type 0
AreClean known c told objects t = (k : Key) → is_known known c k ≡ true → IsCleanUnlessTold told objects t k

-- nothing is known
abbrev pub nothing_known : Known
nothing_known = record { from = None; to_end = false; passed = Nothing }

-- after a program nothing is known, but those above the cursor may be once they are passed
abbrev pub none_above : Option Key → Known
none_above c = record { from = c; to_end = false; passed = UpTo }

-- a round begins before the least key
abbrev pub known_begun : Known → Known
known_begun known = record known { from = if known.to_end then known.from else None; passed = UpTo }

-- it has passed all: where those above the bound were known before it, those up to the bound are now too
abbrev pub known_ended : Known → Known
known_ended known = record { from = if known.to_end then None else known.from; to_end = true; passed = Nothing }

-- a walk passed watchers that were clean, and came to one or to the end
abbrev pub come_by : Passed → Arrival → Known → Known
come_by UpTo (behind_all c) known = known_ended known
come_by UpTo (at_watcher k r) known = record known { passed = Below }
come_by Nothing a known = record known { passed = Nothing }
come_by Below a known = record known { passed = Nothing }

abbrev pub known_come : Arrival → Known → Known
known_come a known = come_by known.passed a known

-- the watcher at the cursor is clean, or was told
abbrev pub passed_here : Passed → Passed
passed_here Nothing = Nothing
passed_here Below = UpTo
passed_here UpTo = UpTo

abbrev pub known_here : Known → Known
known_here known = record known { passed = passed_here known.passed }

-- it was tested: a fault is told
abbrev pub known_tested : Tested → Known → Known
known_tested tests.Clean known = known_here known
known_tested tests.Dirty known = known
known_tested tests.Faulted known = known_here known
known_tested (tests.Memory e) known = known

-- it fired: after a quiet fire it is clean
abbrev pub known_fired : Bool → Option Key → Known → Known
known_fired true c known = known_here known
known_fired false c known = none_above c
