-- Programs only raise the next number of registration, and leave the paths of the scopes as they are, whatever they open.
use Rattle.std.proofs.Common.{ℕ, Result, Ok, Err}
use Rattle.ng_base.specs.Views.{ViewTree}
use Rattle.ng_base.specs.declared.fault.Fault.{Fault}
use Rattle.ng_language.specs.Trees.{Trees}
use Rattle.ng_core.specs.Keeping.{stores}
use Rattle.ng_act.specs.Asked.{Asked}
use Rattle.ng_act.specs.Calls.{destroys}
use Rattle.ng_act.specs.Expressions.{statements}
use Rattle.ng_act.specs.Actions.{does}
use Rattle.ng_core.specs.State.{State, Run, ◌>>=◌}
use Rattle.ng_act.proofs.Programs.{does-kept, statements-kept, destroys-kept, stores-kept}
use Rattle.ng_changes.proofs.Rising.{Mark, mark, Rises, rises-trans, Raised, rising}

pub bind-rises : {A B : Type 0} (xs : Mark) (t : State) (o : Result A Fault) (f : A → State → Run B) → Rises xs (mark t) → ((v : A) (a : State) → Rises (mark a) (mark (f v a).0)) → Rises xs (mark ((t, o) >>= f).0)
bind-rises xs t (Ok v) f h k = rises-trans xs (mark t) (mark (f v t).0) h (k v t)
bind-rises xs t (Err e) f h k = h

pub stores-rises : (t : ViewTree) (s : State) → Rises (mark s) (mark (stores t s).0)
stores-rises t s = stores-kept Raised rising t s

pub does-rises : (room : ℕ) (a : Asked) (s : State) → Rises (mark s) (mark (does room a s).0)
does-rises room a s = does-kept Raised rising room a s

pub statements-rises : (room scope : ℕ) (v : ViewTree) (ts : Trees) (s : State) → Rises (mark s) (mark (statements (does room) scope v ts s).0)
statements-rises room scope v ts s = statements-kept Raised rising (does room) (does-kept Raised rising room) scope v ts s

pub destroys-rises : (room scope : ℕ) (s : State) → Rises (mark s) (mark (destroys (does room) scope s))
destroys-rises room scope s = destroys-kept Raised rising (does room) (does-kept Raised rising room) scope s
