-- Walks that are open at the same time.
use Rattle.std.specs.Prelude.{◌≡◌}
use Rattle.ng_events.specs.declared.stands.EventWalk.{EventWalk}
use Rattle.ng_events.specs.declared.stands.EventWalk.TheVariants.{Bare, On}
use Rattle.ng_events.specs.Stands.{Table, IsOpen}

-- two walks are not one; two bare ones are not told apart
abbrev pub AreApart : EventWalk → EventWalk → Type 0
AreApart Bare Bare = ⊥
AreApart Bare (On j v) = Unit {0}
AreApart (On i w) Bare = Unit {0}
AreApart (On i w) (On j v) = i ≡ j → w.slot ≡ v.slot → ⊥

-- no walk is ended
abbrev pub StayOpen : Table → Table → Type 0
StayOpen t u = (v : EventWalk) → IsOpen t v → IsOpen u v
