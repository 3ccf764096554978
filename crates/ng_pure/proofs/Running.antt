-- A run that follows an evaluation: it leaves all but the objects as it was, and answers with what shows the value.
use Rattle.std.proofs.Common.{◌≡◌, ◌∙◌, ◌≤◌, ℕ, List, length, refl, sym, ap, subst, inl, inr}
use Rattle.std.specs.Prelude.{Result, Ok, Err}
use Rattle.ng_base.specs.Meets.{◌>>=◌ as ◌>>?◌}
use Rattle.ng_base.specs.Objects.{Object}
use Rattle.ng_base.specs.Views.{ViewTree, prim}
use Rattle.ng_base.specs.declared.value.Value.{Value}
use Rattle.ng_base.specs.declared.fault.Fault.{Fault}
use Rattle.ng_base.specs.declared.fault.Fault.TheVariants.{ImpureCall}
use Rattle.ng_core.specs.Keeping.{stores, stores_result}
use Rattle.ng_core.specs.State.{State, Run, ◌>>=◌, with_objects}
use Rattle.ng_write.specs.Reading.{Extends}
use Rattle.ng_write.specs.Storing.{stored}
use Rattle.ng_write.proofs.Extending.{extends_self, extends_on}
use Rattle.ng_pure.specs.Pure.{IsFull}
use Rattle.ng_pure.proofs.Shown.{Seen, ResultBy}
use Rattle.ng_pure.proofs.Methods.{Given, GivenResult}
use Rattle.ng_pure.proofs.Storing.{Answered, ShownAt, stored_given}

-- what is left and answered
pub record Ran {A B : Type 0} (R : List Object → A → B → Type 0) (s : State) (now : List Object) (r : Run A) (x : Result B Fault) : Type 0 where
  pub after : List Object
  pub extends : Extends now after
  pub state : r.0 ≡ with_objects after s
  pub answer : Answered R after r.1 x

-- where evaluation meets a function it gives up, and nothing is said of the run
abbrev pub Follows : {A B : Type 0} → (List Object → A → B → Type 0) → State → List Object → Run A → Result B Fault → Type 0
Follows R s now r x = ¬ (x ≡ Err ImpureCall) → Ran R s now r x

pub full_answer : {A B : Type 0} (R : List Object → A → B → Type 0) (objects : List Object) (d : Fault) (x : Result B Fault) → IsFull objects d → Answered R objects (let r : Result A Fault = Err d in r) x
full_answer R objects d (Ok b) f = f
full_answer R objects d (Err e) f = inr f

-- what comes after a run that went well
ran_then : {A B C D : Type 0} (R : List Object → A → B → Type 0) (Q : List Object → C → D → Type 0) (s : State) (now after : List Object) (st : State) (a : Result A Fault) (b : B) (f : A → State → Run C) (y : Result D Fault)
    → Extends now after → st ≡ with_objects after s → Answered R after a (Ok b) → ((v : A) → R after v b → Ran Q s after (f v (with_objects after s)) y) → Ran Q s now ((let r : Run A = (st, a) in r) >>= f) y
ran_then R Q s now after st (Ok v) b f y e same answer h =
    let rest = h v answer in
    record {
      after = rest.after;
      extends = extends_on now after rest.after e rest.extends;
      state = ap (λ z. (f v z).0) same ∙ rest.state;
      answer = subst (λ z. Answered Q rest.after (f v z).1 y) (sym same) rest.answer;
    }
ran_then R Q s now after st (Err d) b f y e same answer h = record { after = after; extends = e; state = same; answer = full_answer Q after d y answer }

faulted_then : {A B C D : Type 0} (R : List Object → A → B → Type 0) (Q : List Object → C → D → Type 0) (s : State) (now after : List Object) (st : State) (a : Result A Fault) (d : Fault) (f : A → State → Run C)
    → Extends now after → st ≡ with_objects after s → Answered R after a (Err d) → Ran Q s now ((let r : Run A = (st, a) in r) >>= f) (Err d)
faulted_then R Q s now after st (Ok v) d f e same answer = absurd answer
faulted_then R Q s now after st (Err c) d f e same answer = record { after = after; extends = e; state = same; answer = answer }

-- what follows may know what evaluation gave
pub follows_then_is : {A B C D : Type 0} (R : List Object → A → B → Type 0) (Q : List Object → C → D → Type 0) (s : State) (now : List Object) (r : Run A) (x : Result B Fault) (f : A → State → Run C) (g : B → Result D Fault)
    → Follows R s now r x → ((after : List Object) (v : A) (w : B) → x ≡ Ok w → Extends now after → R after v w → Follows Q s after (f v (with_objects after s)) (g w)) → Follows Q s now (r >>= f) (x >>? g)
follows_then_is R Q s now r (Ok b) f g h k n =
    let first = h (λ e. cc) in
    ran_then R Q s now first.after r.0 r.1 b f (g b) first.extends first.state first.answer (λ v q. k first.after v b refl first.extends q n)
follows_then_is R Q s now r (Err d) f g h k n =
    let first = h (λ e. n (let same : d ≡ ImpureCall = cc in ap (λ c. Err c) same)) in
    faulted_then R Q s now first.after r.0 r.1 d f first.extends first.state first.answer

pub follows_then : {A B C D : Type 0} (R : List Object → A → B → Type 0) (Q : List Object → C → D → Type 0) (s : State) (now : List Object) (r : Run A) (x : Result B Fault) (f : A → State → Run C) (g : B → Result D Fault)
    → Follows R s now r x → ((after : List Object) (v : A) (w : B) → Extends now after → R after v w → Follows Q s after (f v (with_objects after s)) (g w)) → Follows Q s now (r >>= f) (x >>? g)
follows_then R Q s now r x f g h k = follows_then_is R Q s now r x f g h (λ after v w is e q. k after v w e q)

weaker : {A B : Type 0} (R Q : List Object → A → B → Type 0) (objects : List Object) (a : Result A Fault) (x : Result B Fault) → ((v : A) (w : B) → R objects v w → Q objects v w) → Answered R objects a x → Answered Q objects a x
weaker R Q objects (Ok v) (Ok w) h s = h v w s
weaker R Q objects (Ok v) (Err e) h s = s
weaker R Q objects (Err d) (Ok w) h s = s
weaker R Q objects (Err d) (Err e) h s = s

pub follows_weaker : {A B : Type 0} (R Q : List Object → A → B → Type 0) (s : State) (now : List Object) (r : Run A) (x : Result B Fault) → ((objects : List Object) (v : A) (w : B) → Extends now objects → R objects v w → Q objects v w) → Follows R s now r x → Follows Q s now r x
follows_weaker R Q s now r x h f n =
    let first = f n in
    record { after = first.after; extends = first.extends; state = first.state; answer = weaker R Q first.after r.1 x (λ v w q. h first.after v w first.extends q) first.answer }

-- an answer that changes nothing
pub follows_ok : {A B : Type 0} (R : List Object → A → B → Type 0) (s : State) (now : List Object) (v : A) (w : B) → R now v w → Follows R s now (with_objects now s, Ok v) (Ok w)
follows_ok R s now v w h n = record { after = now; extends = extends_self now; state = refl; answer = h }

answered : {A B : Type 0} (R : List Object → A → B → Type 0) (now : List Object) (x : Result A Fault) (y : Result B Fault) → ResultBy (R now) x y → Answered R now x y
answered R now (Ok a) (Ok b) s = s
answered R now (Ok a) (Err e) s = s
answered R now (Err d) (Ok b) s = absurd s
answered R now (Err d) (Err e) s = inl s

pub follows_result : {A B : Type 0} (R : List Object → A → B → Type 0) (s : State) (now : List Object) (x : Result A Fault) (y : Result B Fault) → ResultBy (R now) x y → Follows R s now (with_objects now s, x) y
follows_result R s now x y h n = record { after = now; extends = extends_self now; state = refl; answer = answered R now x y h }

pub follows_fault : {A B : Type 0} (R : List Object → A → B → Type 0) (s : State) (now : List Object) (d : Fault) → Follows R s now (with_objects now s, (let r : Result A Fault = Err d in r)) (let r : Result B Fault = Err d in r)
follows_fault R s now d n = record { after = now; extends = extends_self now; state = refl; answer = inl refl }

abbrev pub SeenAt : ℕ → ℕ → List Object → ViewTree → ViewTree → Type 0
SeenAt n from objects u t = Seen n from objects u t

-- a value that was written is a view
written_answer : (n from : ℕ) (s : State) (now after : List Object) (a : Result Value Fault) (t : ViewTree) → Extends now after → Answered (ShownAt n from) after a (Ok t)
    → Ran (SeenAt n from) s now ((let r : Run Value = (with_objects after s, a) in r) >>= λ v z. (z, Ok (prim v))) (Ok t)
written_answer n from s now after (Ok v) t e h = record { after = after; extends = e; state = refl; answer = h }
written_answer n from s now after (Err d) t e h = record { after = after; extends = e; state = refl; answer = h }

-- what is fresh becomes an object
pub follows_stored : (n from : ℕ) (s : State) (now : List Object) → from ≤ length now → (u t : ViewTree) → Given n from now u t → Follows (SeenAt n from) s now (stores u (with_objects now s)) (Ok t)
follows_stored n from s now h u t g _ =
    let w = stored_given n from now h u t g in
    written_answer n from s now (stored now u).0 (stored now u).1 t w.extends w.answer

pub follows_stored_result : (n from : ℕ) (s : State) (now : List Object) → from ≤ length now → (x y : Result ViewTree Fault) → GivenResult n from now x y → Follows (SeenAt n from) s now (stores_result x (with_objects now s)) y
follows_stored_result n from s now h (Ok u) (Ok t) g = follows_stored n from s now h u t g
follows_stored_result n from s now h (Ok u) (Err e) g = absurd g
follows_stored_result n from s now h (Err d) (Ok t) g = absurd g
follows_stored_result n from s now h (Err d) (Err e) g = λ _. record { after = now; extends = extends_self now; state = refl; answer = inl g }
