-- What a call answers against what a definition asks for.
use Rattle.std.specs.Prelude.{◌≡◌, Bool, false, Result, Ok, Err}

infixl 10 ◌>>=◌
-- one step after another: the first refusal ends them
abbrev pub ◌>>=◌ : {A B E : Type 0} → Result A E → (A → Result B E) → Result B E
Ok x >>= f = f x
Err e >>= f = Err e

-- the answer is the one that is asked for, unless it is a free one
abbrev pub Meets : {A E : Type 0} → (E → Bool) → Result A E → Result A E → Type 0
Meets free asked (Ok v) = asked ≡ Ok v
Meets free asked (Err e) = free e ≡ false → asked ≡ Err e

-- the same for an answer that stands for a value of the definition
abbrev pub Gives : {A B E : Type 0} → (E → Bool) → (A → B) → Result B E → Result A E → Type 0
Gives free seen asked (Ok v) = asked ≡ Ok (seen v)
Gives free seen asked (Err e) = free e ≡ false → asked ≡ Err e
