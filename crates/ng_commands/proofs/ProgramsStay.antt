-- Programs never take back a fault that was handed over, each scope keeps its object, and no object is lost, whatever they open.
use Rattle.std.proofs.Common.{◌≡◌, ℕ, List, length, Result, Ok, Err, refl, ap, ◌∙◌}
use Rattle.ng_base.specs.Views.{ViewTree}
use Rattle.ng_base.specs.declared.fault.Fault.{Fault}
use Rattle.ng_behaviour.specs.Scopes.{Scope, path_at}
use Rattle.ng_behaviour.proofs.Dying.{dead-length}
use Rattle.ng_language.specs.Trees.{Trees}
use Rattle.ng_core.specs.Keeping.{stores}
use Rattle.ng_act.specs.Asked.{Asked}
use Rattle.ng_act.specs.Calls.{destroys}
use Rattle.ng_act.specs.Expressions.{statements}
use Rattle.ng_act.specs.Actions.{does}
use Rattle.ng_core.specs.State.{State, Run, ◌>>=◌}
use Rattle.ng_core.proofs.Buried.{buried_scopes}
use Rattle.ng_act.proofs.Programs.{Steps, does-kept, statements-kept, destroys-kept, stores-kept}
use Rattle.ng_commands.proofs.EventsStay.{Part, part, Stays, stays_refl, stays_trans, buried_stay}
use Rattle.ng_commands.proofs.ScopesStay.{scopes_refl}

pub bind_stay : {A B : Type 0} (x : Part) (t : State) (o : Result A Fault) (f : A → State → Run B) → Stays x (part t) → ((v : A) (a : State) → Stays (part a) (part (f v a).0)) → Stays x (part ((t, o) >>= f).0)
bind_stay x t (Ok v) f h k = stays_trans x (part t) (part (f v t).0) h (k v t)
bind_stay x t (Err e) f h k = h

-- each step keeps it, and makes no scope
record Kept (s t : State) : Type 0 where
  stays : Stays (part s) (part t)
  count : length t.scopes ≡ length s.scopes

kept : Steps Kept
kept = record {
  same = λ s. record { stays = stays_refl (part s); count = refl };
  on = λ s t u a b. record { stays = stays_trans (part s) (part t) (part u) a.stays b.stays; count = b.count ∙ a.count };
  count = λ s t a. a.count;
  others = λ s t o n f es eh. record { stays = record { some = f; scopes = rw es (scopes_refl s.scopes); serial = n; grown = o; tree = rw es (λ g. g) }; count = ap (λ (x : List Scope). length x) es };
  off = λ s id. record { stays = stays_refl (part s); count = refl };
  listened = λ scope name p s live. record { stays = stays_refl (part s); count = refl };
  buried = λ sc s l. record { stays = buried_stay sc s; count = ap (λ (x : List Scope). length x) (buried_scopes sc s) ∙ dead-length (path_at s.scopes sc) s.scopes };
}

pub stores_stay : (t : ViewTree) (s : State) → Stays (part s) (part (stores t s).0)
stores_stay t s = (stores-kept Kept kept t s).stays

pub does_stay : (room : ℕ) (a : Asked) (s : State) → Stays (part s) (part (does room a s).0)
does_stay room a s = (does-kept Kept kept room a s).stays

pub statements_stay : (room scope : ℕ) (v : ViewTree) (ts : Trees) (s : State) → Stays (part s) (part (statements (does room) scope v ts s).0)
statements_stay room scope v ts s = (statements-kept Kept kept (does room) (does-kept Kept kept room) scope v ts s).stays

pub destroys_stay : (room scope : ℕ) (s : State) → Stays (part s) (part (destroys (does room) scope s))
destroys_stay room scope s = (destroys-kept Kept kept (does room) (does-kept Kept kept room) scope s).stays
