-- What a reader may take from the definitions of actions.
use Rattle.std.proofs.Common.{◌≡◌, ◌∙◌, ℕ, Bool, true, false, if◌then◌else◌, List, [], sym, refl, subst}
use Rattle.std.specs.Prelude.{codes}
use Rattle.ng_behaviour.specs.Scopes.{Scope, begins, path_at, object_at, live_at, without_scope}
use Rattle.ng_behaviour.proofs.Dying.{dead-live, dead-path}
use Rattle.ng_write.specs.Making.{value_in}
use Rattle.ng_write.proofs.Only.{only_name}
use Rattle.ng_core.specs.Burying.{buried}
use Rattle.ng_act.specs.Asked.{a_broadcast}
use Rattle.ng_act.specs.Calls.{destroys}
use Rattle.ng_act.specs.Actions.{does}
use Rattle.ng_act_laws.specs.Laws.{GoneLaw, NameLaw, DestroyLaw}
use Rattle.ng_core.specs.State.{State, handed}
use Rattle.ng_act_laws.proofs.Thinner.{Thinner, does-thinner}

pub gone_law : GoneLaw
gone_law room a s i k h n = let l : Thinner s (does room a s).0 = does-thinner room a s in l.later.gone i k h n

pub name_law : NameLaw
name_law scope name t s = only_name s.objects (object_at s.scopes scope) s.locals name (value_in t)

pub if_true : (b : Bool) (s t : State) → b ≡ true → (if b then s else t) ≡ s
if_true true s t e = refl
if_true false s t e = absurd (cc)

below_dead : (t : List Scope) (scope r : ℕ) → begins (path_at (without_scope t scope) scope) (path_at (without_scope t scope) r) ≡ true → live_at (without_scope t scope) r ≡ false
below_dead t scope r h =
    let u : List ℕ = path_at t scope in
    let k : begins u (path_at t r) ≡ true = rw (dead-path u t scope, dead-path u t r) at h in
    dead-live u t r ∙ rw k refl

pub destroy_law : DestroyLaw
destroy_law room scope r s live h =
    let go = does room in
    let t : State = handed (go (a_broadcast scope (codes "$destroy") []) s) in
    let e : destroys go scope s ≡ buried scope t = if_true (live_at s.scopes scope) (buried scope t) s live in
    let P : State → Type 0 = λ u. begins (path_at u.scopes scope) (path_at u.scopes r) ≡ true → live_at u.scopes r ≡ false in
    subst P (sym e) (λ q. below_dead _ scope r q) h
