-- What holds of an answer, where it is Ok.
use Rattle.std.proofs.Common.{◌≡◌, Bool, true, false, refl}
use Rattle.std.specs.Prelude.{Result, Ok, Err, IfOk, if◌then◌else◌}
use Rattle.ng_base.specs.Meets.{◌>>=◌}

-- of one step after another
pub after : {A B E : Type 0} (r : Result A E) (f : A → Result B E) (Q : A → Type 0) (P : B → Type 0) → IfOk r Q → ((x : A) → Q x → IfOk (f x) P) → IfOk (r >>= f) P
after (Ok x) f Q P h each = each x h
after (Err e) f Q P h each = tt

-- whatever the first step gives
pub any : {A B E : Type 0} (r : Result A E) (f : A → Result B E) (P : B → Type 0) → ((x : A) → IfOk (f x) P) → IfOk (r >>= f) P
any (Ok x) f P each = each x
any (Err e) f P each = tt

-- of an answer that is tested
pub tested : {A E : Type 0} (b : Bool) (x : A) (e : E) (P : A → Type 0) → (b ≡ true → P x) → IfOk (if b then Ok x else Err e) P
tested true x e P h = h refl
tested false x e P h = tt

pub either : {A E : Type 0} (b : Bool) (r s : Result A E) (P : A → Type 0) → IfOk r P → IfOk s P → IfOk (if b then r else s) P
either true r s P h k = h
either false r s P h k = k
