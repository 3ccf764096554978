-- Attributes in a map.
use Rattle.std.proofs.Common.{◌≡◌, ℕ, Bool, true, false, ◌||◌, List, [], ◌∷◌, refl, ap, ◌∙◌, sym}
use Rattle.std.specs.Prelude.{Option, Some, is_some, cond}
use Rattle.std.specs.Str.{bytes_eq}
use Rattle.std.specs.Map.{lookup}
use Rattle.std.specs.Ordering.{is_eq}
use Rattle.std.specs.BTreeMap.{is_at}
use Rattle.ng_base.specs.Order.{txt_cmp, txt_cmp-eq}
use Rattle.ng_markup.specs.Forest.{Attributes}
use Rattle.ng_tags.specs.Attributes.{has_attribute}

picked : (b d : Bool) (x : List ℕ) (o : Option (List ℕ)) → b ≡ d → is_some (cond b (Some x) o) ≡ (d || is_some o)
picked true true x o h = refl
picked true false x o h = absurd (cc)
picked false true x o h = absurd (cc)
picked false false x o h = refl

-- the attribute of a name, as a map finds it
pub found_attribute : (done : Attributes) (n : List ℕ) → is_some (lookup (is_at (txt_cmp n)) done) ≡ has_attribute done n
found_attribute [] n = refl
found_attribute (a ∷ done) n =
    picked (is_eq (txt_cmp n a.0)) (bytes_eq n a.0) a.1 (lookup (is_at (txt_cmp n)) done) (sym (txt_cmp-eq n a.0))
    ∙ ap (λ b. bytes_eq n a.0 || b) (found_attribute done n)

pub ruleset map_steps = (found_attribute)
