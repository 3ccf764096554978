-- Works stay whole where a scope is told a name.
use Rattle.std.proofs.Common.{◌≡◌, ◌∙◌, ℕ, List, ap, length, arith}
use Rattle.ng_core.specs.Frames as cores
use Rattle.ng_core.specs.Frames.{IsSound}
use Rattle.ng_core.specs.State as act
use Rattle.ng_core.specs.declared.core_state.Core.{Core}
use Rattle.ng_changes.proofs.ScopePaths.{paths_of}
use Rattle.ng_changes.proofs.Wholes.{whole_after}
use Rattle.ng_rows.specs.Chosen.{told_on}
use Rattle.ng_changes.specs.Whole.{IsWhole}
use Rattle.ng_link.specs.declared.works.Works.{Works}
use Rattle.ng_members.specs.Leaves.{Local}

pub whole_told : (w : Works) (core : Core) (scope : ℕ) (names : List Local) → IsWhole w → cores.state_of core ≡ told_on scope names (cores.state_of w.core) → IsSound core → core.scopes ≡ w.core.scopes → core.depth ≡ w.core.depth → length core.store ≡ length w.core.store → IsWhole (record w { core = core })
whole_told w core scope names h told sound scopes depth store =
    let serial = ap (λ (c : act.State). c.serial) told in
    whole_after w core h sound (depth ∙ h.idle) (ap paths_of scopes) (omega (arith, store)) (omega (arith, serial))
