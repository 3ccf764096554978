-- What an option holds is changed twice.
use Rattle.std.proofs.Common.{◌≡◌, refl, Option, Some, None, option_map}

pub option_map-map : {A B C : Type 0} (f : A → B) (g : B → C) (o : Option A) → option_map (λ x. g (f x)) o ≡ option_map g (option_map f o)
option_map-map f g None = refl
option_map-map f g (Some x) = refl
