-- Steps of commands that are done one after another.
use Rattle.std.proofs.Common.{◌≡◌, ◌+◌, ℕ, zero, suc, Bool, List, [], ◌∷◌, ◌++◌, length, take, refl, ap, sym, ◌∙◌, subst, arith, append-nil, append_assoc}
use Rattle.std.specs.Prelude.{◌&&◌, true, false}
use Rattle.ng_script.specs.Acts.{Entry}
use Rattle.ng_run.specs.Doing.{steps_bytes}
use Rattle.ng_run.specs.Session.{Extent, whole, first, within, all_well}
use Rattle.ng_printing.specs.Left.{Left, Step}
use Rattle.ng_run.specs.Steps.{Does, Continues}
use Rattle.ng_run.proofs.OneStep.{does_one}

-- they are done in one way
pub continues_one : (trace : Bool) (k : ℕ) (es : List Entry) (left : Left) (xs ys : List Step) (l m : Left) → Continues trace k es left xs l → Continues trace k es left ys m → (xs ≡ ys) × (l ≡ m)
continues_one trace k [] left xs ys l m h j = (h.0 ∙ sym j.0, h.1 ∙ sym j.1)
continues_one trace k (e ∷ es) left xs ys l m (x, next, rest, does, more, is) (y, after, others, did, further, same) =
    let one = does_one trace k e left.state x y next after does did in
    let two = continues_one trace (k + 1) es next rest others l m more (subst (λ n. Continues trace (k + 1) es n others m) (sym one.1) further) in
    (is ∙ (ap (λ s. s ∷ rest) one.0 ∙ (ap (λ r. y ∷ r) two.0 ∙ sym same)), two.1)

-- the steps of the first commands are the first steps
abbrev IsFirst : List Step → List Step → Type 0
IsFirst xs ys = (zs : List Step) × (ys ≡ xs ++ zs)

continues_first : (trace : Bool) (n k : ℕ) (es : List Entry) (left : Left) (xs ys : List Step) (l m : Left) → Continues trace k (take n es) left xs l → Continues trace k es left ys m → IsFirst xs ys
continues_first trace zero k es left xs ys l m h j = (ys, ap (λ s. s ++ ys) (sym h.0))
continues_first trace (suc n) k [] left xs ys l m h j = (ys, ap (λ s. s ++ ys) (sym h.0))
continues_first trace (suc n) k (e ∷ es) left xs ys l m (x, next, rest, does, more, is) (y, after, others, did, further, same) =
    let one = does_one trace k e left.state x y next after does did in
    let two = continues_first trace n (k + 1) es next rest others l m more (subst (λ n. Continues trace (k + 1) es n others m) (sym one.1) further) in
    (two.0, same ∙ (ap (λ s. s ∷ others) (sym one.0) ∙ (ap (λ r. x ∷ r) two.1 ∙ ap (λ s. s ++ two.0) (sym is))))

pub within_first : (e : Extent) (trace : Bool) (k : ℕ) (es : List Entry) (left : Left) (xs ys : List Step) (l m : Left) → Continues trace k (within e es) left xs l → Continues trace k es left ys m → IsFirst xs ys
within_first whole trace k es left xs ys l m h j = ([], sym (continues_one trace k es left xs ys l m h j).0 ∙ sym (append-nil xs))
within_first (first n) trace k es left xs ys l m h j = continues_first trace n k es left xs ys l m h j

-- one command more
pub continues_more : (trace : Bool) (k n : ℕ) (es : List Entry) (e : Entry) (left : Left) (xs : List Step) (mid : Left) (x : Step) (end : Left) → n ≡ k + length es → Continues trace k es left xs mid → Does trace n e mid.state x end
    → Continues trace k (es ++ e ∷ []) left (xs ++ x ∷ []) end
continues_more trace k n [] e left xs mid x end num h d =
    let at : n ≡ k = omega arith in
    (x, end, [], subst (λ (s : Left). Does trace k e s.state x end) h.1 (subst (λ j. Does trace j e mid.state x end) at d), (refl, refl), ap (λ s. s ++ x ∷ []) h.0)
continues_more trace k n (f ∷ es) e left xs mid x end num (y, next, rest, does, more, is) d =
    (y, next, rest ++ x ∷ [], does, continues_more trace (k + 1) n es e next rest mid x end (omega arith) more d, ap (λ s. s ++ x ∷ []) is)

pub bytes_after : (xs zs : List Step) → steps_bytes (xs ++ zs) ≡ steps_bytes xs ++ steps_bytes zs
bytes_after [] zs = refl
bytes_after (x ∷ xs) zs = ap (λ b. x.lines ++ b) (bytes_after xs zs) ∙ sym (append_assoc x.lines (steps_bytes xs) (steps_bytes zs))

pub bytes_more : (xs : List Step) (x : Step) → steps_bytes (xs ++ x ∷ []) ≡ steps_bytes xs ++ x.lines
bytes_more xs x = bytes_after xs (x ∷ []) ∙ ap (λ b. steps_bytes xs ++ b) (append-nil x.lines)

and_assoc : (a b c : Bool) → (a && (b && c)) ≡ ((a && b) && c)
and_assoc true b c = refl
and_assoc false b c = refl

and_true : (b : Bool) → (b && true) ≡ b
and_true true = refl
and_true false = refl

pub well_more : (xs : List Step) (x : Step) → all_well (xs ++ x ∷ []) ≡ (all_well xs && x.well)
well_more [] x = and_true x.well
well_more (y ∷ xs) x = ap (λ b. y.well && b) (well_more xs x) ∙ and_assoc y.well (all_well xs) x.well
