-- Where the first path from a bound on does not begin with another, none does.
use Rattle.std.proofs.Common.{◌≡◌, ℕ, List, true, false, Option, Some, None, IsSome, refl, ap}
use Rattle.std.specs.Ordering.{is_gt}
use Rattle.std.specs.declared.cmp.Ordering.TheVariants.{Less}
use Rattle.std.proofs.lemmas.Cmp.{upto}
use Rattle.ng_base.specs.Order.{path_cmp, path_cmp_total}
use Rattle.ng_behaviour.specs.Scopes.{begins}
use Rattle.ng_behaviour.proofs.Paths.{begins-between}

pub none-behind : (u v e q : List ℕ) (o : Option ℕ) → begins u e ≡ false → is_gt (path_cmp u v) ≡ false → is_gt (path_cmp v e) ≡ false → (IsSome o → is_gt (path_cmp e q) ≡ false) → begins u q ≡ true → o ≡ None
none-behind u v e q None b l m h c = refl
none-behind u v e q (Some s) b l m h c = absurd (let z = begins-between u e q c (upto path_cmp_total u v e l m) (h refl) in cc)

pub less-above : (u v : List ℕ) → path_cmp u v ≡ Less → is_gt (path_cmp u v) ≡ false
less-above u v h = ap is_gt h
