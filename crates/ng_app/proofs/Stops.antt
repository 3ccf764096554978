-- One step after another, up to the first refusal.
use Rattle.std.proofs.Common.{◌≡◌, ◌∙◌, ap, Result, Ok, Err, false, sym, subst, IsErrAnd}
use Rattle.ng_base.specs.Meets.{◌>>=◌, Gives}
use Rattle.ng_entries.specs.Free.{is_app_want}
use Rattle.ng_entries.specs.declared.fault.AppFault.{AppFault}

-- a step that is done leaves what comes next
pub next : {A Z E : Type 0} (r : Result A E) (a : A) (k : A → Result Z E) (z : Result Z E) → r ≡ Ok a → k a ≡ z → (r >>= k) ≡ z
next r a k z done rest = ap (λ x. x >>= k) done ∙ rest

-- a step that is refused ends all
pub stop : {A Z E : Type 0} (r : Result A E) (k : A → Result Z E) (e : E) → r ≡ Err e → (r >>= k) ≡ Err e
stop r k e refused = ap (λ x. x >>= k) refused

pub gives_err : {A B : Type 0} (seen : A → B) (asked : Result B AppFault) (r : Result A AppFault) (e : AppFault) → IsErrAnd r (λ y. y ≡ e) → (is_app_want e ≡ false → asked ≡ Err e) → Gives is_app_want seen asked r
gives_err seen asked (Ok v) e is h = absurd is
gives_err seen asked (Err y) e is h = λ m. subst (λ x. asked ≡ Err x) (sym is) (h (subst (λ x. is_app_want x ≡ false) is m))
