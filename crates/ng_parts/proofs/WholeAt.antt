-- Each fragment of a template that is regular is whole.
use Rattle.std.proofs.Common.{◌≡◌, ℕ, zero, suc, Bool, true, List, [], ◌∷◌, length, Option, None, Some, ap, sym, ◌∙◌}
use Rattle.std.proofs.lemmas.Bool.{and_parts}
use Rattle.std.specs.List.{list_all}
use Rattle.std.specs.Prelude.{option_map, slice_get, IfSome}
use Rattle.ng_drawing.specs.Template.{Fragment, Template, fragment_at}
use Rattle.ng_drawing.specs.Numbering.{is_whole, is_regular}

-- each fragment of a template is numbered
let_in : {X : Type 0} (test : X → Bool) (xs : List X) (i : ℕ) (x : X) → list_all test xs ≡ true → slice_get xs i ≡ Some x → test x ≡ true
let_in test [] i x all at = absurd (cc)
let_in test (y ∷ ys) zero x all at = let same : y ≡ x = cc in ap test (sym same) ∙ (and_parts (test y) (list_all test ys) all).0
let_in test (y ∷ ys) (suc i) x all at = let_in test ys i x (and_parts (test y) (list_all test ys) all).1 at

pub whole_at : (t : Template) (n : ℕ) (f : Fragment) → is_regular t ≡ true → fragment_at t n ≡ Some f → is_whole (length t.bodies) f ≡ true
whole_at t n f regular at = let_in (is_whole (length t.bodies)) (t.own ∷ t.bodies) n f regular at

-- and so is what is seen of one in the code
pub seen_whole : {X : Type 0} (seen : X → Fragment) (t : Template) (n : ℕ) (o : Option X) → option_map seen o ≡ fragment_at t n → is_regular t ≡ true → IfSome o (λ x. is_whole (length t.bodies) (seen x) ≡ true)
seen_whole seen t n None e regular = tt
seen_whole seen t n (Some x) e regular = whole_at t n (seen x) regular (sym e)
