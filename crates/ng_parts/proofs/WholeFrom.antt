-- A fragment is whole by what holds of its parts, outlets and sites.
use Rattle.std.proofs.Common.{◌≡◌, ℕ, true, length, Option, Some, refl, ap, ◌∙◌}
use Rattle.std.proofs.lemmas.Bool.{and_from, eq-eqb}
use Rattle.std.specs.Prelude.{◌&&◌}
use Rattle.ng_drawing.specs.Template.{Fragment}
use Rattle.ng_drawing.specs.Numbering.{after_parts, after_outlets, is_number, are_outlets, are_undrawn, is_numbered, is_whole}

pub number_is : (n : ℕ) (o : Option ℕ) → o ≡ Some n → is_number n o ≡ true
number_is n o e = ap (is_number n) e ∙ eq-eqb n n refl

-- a fragment that is numbered, whose outlets are there, and from whose sites nothing is drawn
pub whole_from : (n : ℕ) (f : Fragment) → after_parts 0 f.parts ≡ Some (length f.sites) → after_outlets 0 f.parts ≡ Some (length f.outlets) → are_outlets n f ≡ true → are_undrawn f ≡ true → is_whole n f ≡ true
whole_from n f sites outlets e undrawn =
    let first : is_number (length f.sites) (after_parts 0 f.parts) ≡ true = number_is (length f.sites) (after_parts 0 f.parts) sites in
    let second : is_number (length f.outlets) (after_outlets 0 f.parts) ≡ true = number_is (length f.outlets) (after_outlets 0 f.parts) outlets in
    and_from (is_numbered f) (are_outlets n f && are_undrawn f) (and_from (is_number (length f.sites) (after_parts 0 f.parts)) (is_number (length f.outlets) (after_outlets 0 f.parts)) first second)
    (and_from (are_outlets n f) (are_undrawn f) e undrawn)
