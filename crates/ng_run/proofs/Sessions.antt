-- The files of a run have one session, and over the first commands of a script its first bytes.
use Rattle.std.proofs.Common.{◌≡◌, ℕ, Bool, List, [], ◌∷◌, ◌++◌, length, take, ap, sym, ◌∙◌, subst, arith, append-nil, length-append}
use Rattle.std.specs.Prelude.{Option, Result, Ok, Err}
use Rattle.std.specs.Io.KnownBytes.{Appends}
use Rattle.std.proofs.lemmas.List.{take-append-le}
use Rattle.ng_base.specs.Outside.{TookAll}
use Rattle.ng_inputs.specs.Files.{Inputs}
use Rattle.ng_inputs.specs.Refusals.{Accepted, accepted}
use Rattle.ng_inputs.specs.declared.refusal.Refusal.{Refusal}
use Rattle.ng_run.specs.Doing.{steps_bytes}
use Rattle.ng_run.specs.Laws.{SessionIsOne}
use Rattle.ng_run.specs.Session.{Reply, reply_bytes, done, Extent, whole, within, Runs, SessionOf, SessionWithin, Session}
use Rattle.ng_printing.specs.Left.{Left, Step}
use Rattle.ng_run.specs.Steps.{Continues, RunsSteps}
use Rattle.ng_run.proofs.Continuing.{continues_one, within_first, bytes_after}
use Rattle.ng_run.proofs.OneStep.{opened_one}

pub steps_one : (trace : Bool) (a : Accepted) (xs ys : List Step) (l m : Left) → RunsSteps trace a xs l → RunsSteps trace a ys m → (xs ≡ ys) × (l ≡ m)
steps_one trace a xs ys l m (x, left, rest, opens, more, is) (y, after, others, opened, further, same) =
    let one = opened_one trace a a.commands a.commands x y left after opens opened in
    let two = continues_one trace 1 a.commands left rest others l m more (subst (λ n. Continues trace 1 a.commands n others m) (sym one.1) further) in
    (is ∙ (ap (λ s. s ∷ rest) one.0 ∙ (ap (λ r. y ∷ r) two.0 ∙ sym same)), two.1)

runs_one : (trace : Bool) (a : Accepted) (r q : Reply) → Runs whole trace a r → Runs whole trace a q → r ≡ q
runs_one trace a r q (xs, l, h, e) (ys, m, k, f) =
    let one = steps_one trace a xs ys l m h k in
    e ∙ (ap (λ s. done s l) one.0 ∙ (ap (done ys) one.1 ∙ sym f))

session_of_one : (trace : Bool) (c : Result Accepted Refusal) (r q : Reply) → SessionOf whole trace c r → SessionOf whole trace c q → r ≡ q
session_of_one trace (Ok a) r q h k = runs_one trace a r q h k
session_of_one trace (Err f) r q e k = e ∙ sym k

pub session_one : SessionIsOne
session_one trace i r q h k = session_of_one trace (accepted i) r q h k

-- ---- the first commands

abbrev Begins : Reply → Reply → Type 0
Begins r q = (b : List ℕ) × (reply_bytes q ≡ reply_bytes r ++ b)

runs_first : (e : Extent) (trace : Bool) (a : Accepted) (r q : Reply) → Runs e trace a r → Runs whole trace a q → Begins r q
runs_first e trace a r q (xs, l, (x, left, rest, opens, more, is), h) (ys, m, (y, after, others, opened, further, same), k) =
    let one = opened_one trace a (within e a.commands) a.commands x y left after opens opened in
    let two = within_first e trace 1 a.commands left rest others l m more (subst (λ n. Continues trace 1 a.commands n others m) (sym one.1) further) in
    let all : ys ≡ xs ++ two.0 = same ∙ (ap (λ s. s ∷ others) (sym one.0) ∙ (ap (λ z. x ∷ z) two.1 ∙ ap (λ s. s ++ two.0) (sym is))) in
    (steps_bytes two.0, ap reply_bytes k ∙ (ap steps_bytes all ∙ (bytes_after xs two.0 ∙ ap (λ (z : Reply). reply_bytes z ++ steps_bytes two.0) (sym h))))

session_of_first : (e : Extent) (trace : Bool) (c : Result Accepted Refusal) (r q : Reply) → SessionOf e trace c r → SessionOf whole trace c q → Begins r q
session_of_first e trace (Ok a) r q h k = runs_first e trace a r q h k
session_of_first e trace (Err f) r q h k = ([], ap reply_bytes (k ∙ sym h) ∙ sym (append-nil (reply_bytes r)))

took_more : (old new : Option (List ℕ)) (b c z : List ℕ) → c ≡ b ++ z → TookAll old new b → TookAll old new c
took_more old new b c z e (n, l, h) =
    let more = ap length e ∙ length-append b z in
    (n, omega arith, subst (λ x. Appends old new x) (sym (ap (take n) e ∙ take-append-le n b z l)) h)

-- what was taken of the session over the first commands was taken of the whole
pub session_took : (e : Extent) (trace : Bool) (i : Inputs) (r q : Reply) (old new : Option (List ℕ)) → SessionWithin e trace i r → Session trace i q → TookAll old new (reply_bytes r) → TookAll old new (reply_bytes q)
session_took e trace i r q old new h k t = let more = session_of_first e trace (accepted i) r q h k in took_more old new (reply_bytes r) (reply_bytes q) more.0 more.1 t
