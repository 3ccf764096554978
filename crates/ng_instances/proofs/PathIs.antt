-- Paths that compare alike are one.
use Rattle.std.proofs.Common.{◌≡◌, ℕ, true, List, ◌∙◌}
use Rattle.std.proofs.lemmas.Slice.Eq.{bytes_eq-Decides}
use Rattle.ng_base.specs.Order.{path_cmp-eq}
use Rattle.ng_instances.specs.Instances.{is_path}

-- paths that compare alike are one
pub path_is : (p q : List ℕ) → is_path p q ≡ true → p ≡ q
path_is p q e = (bytes_eq-Decides p q).0 (path_cmp-eq p q ∙ e)
