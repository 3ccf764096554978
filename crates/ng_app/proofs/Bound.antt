-- Which texts are bindings, as the registry judges them.
use Rattle.std.proofs.Common.{◌≡◌, ℕ, Bool, true, false, List, [], ◌∷◌, refl}
use Rattle.std.specs.Prelude.{Result, Ok, Err, IfOk, MatchBool, if◌then◌else◌}
use Rattle.ng_base.specs.declared.fault.Memory.{Memory}
use Rattle.ng_bind.proofs.ReadWritten.{written_read, read_written}
use Rattle.ng_bind.specs.Reading.{spec_in}
use Rattle.ng_bind.specs.declared.spec.BindFault.{BindFault}
use Rattle.ng_bind.specs.declared.spec.Spec.{Spec}
use Rattle.ng_collect.specs.Definitions.{AreBindings}
use Rattle.ng_app.specs.Directives.{is_ok, are_bindings}

abbrev Texts : Type 0
Texts = List (List ℕ × List ℕ)

bound : (ss : Texts) → AreBindings ss → are_bindings ss ≡ true
bound [] h = refl
bound (s ∷ ss) h = rw (written_read s.1 h.0.0 h.0.1) (bound ss h.1)

first : (s : List ℕ × List ℕ) (ss : Texts) (r : Result Spec BindFault) → spec_in s.1 ≡ r → (are_bindings ss ≡ true → AreBindings ss) → (if is_ok r then are_bindings ss else false) ≡ true → AreBindings (s ∷ ss)
first s ss (Ok x) is rest t = ((x, read_written s.1 x is), rest t)
first s ss (Err f) is rest t = absurd (cc)

bindings : (ss : Texts) → are_bindings ss ≡ true → AreBindings ss
bindings [] e = tt
bindings (s ∷ ss) e = first s ss (spec_in s.1) refl (λ t. bindings ss t) e

no_true : (b : Bool) → (b ≡ true → ⊥) → b ≡ false
no_true true h = absurd (h refl)
no_true false h = refl

judged : (ss : Texts) (b : Bool) → MatchBool b (AreBindings ss) (¬ AreBindings ss) → b ≡ are_bindings ss
judged ss true h = rw (bound ss h) refl
judged ss false h = rw (no_true (are_bindings ss) (λ e. h (bindings ss e))) refl

pub bound_answer : (ss : Texts) (r : Result Bool Memory) → IfOk r (λ b. MatchBool b (AreBindings ss) (¬ AreBindings ss)) → IfOk r (λ b. b ≡ are_bindings ss)
bound_answer ss (Ok b) h = judged ss b h
bound_answer ss (Err m) h = tt
