-- The fragments that instances are of.
use Rattle.std.proofs.Common.{◌≡◌, ◌≤◌, List, Option, Some, None, refl, ap, subst, length}
use Rattle.std.specs.Prelude.{IsSome, IfSome, option_map, option_and_then, unwrap_or}
use Rattle.std.proofs.lemmas.Option.{slice_get_past}
use Rattle.ng_drawing.specs.Template.{Fragment, no_fragment, fragment_at}
use Rattle.ng_drawing.specs.declared.origin.Origin.{Origin}
use Rattle.ng_drawing.specs.Named.{Named, including, composing, fragment_for, fragments_in}

pub fragment_or : (all : List Named) (o : Origin) (f : Fragment) → fragment_for all o ≡ Some f → fragments_in all o ≡ f
fragment_or all o f at = ap (λ (x : Option Fragment). unwrap_or x no_fragment) at

-- no template has a number that is past all
pub fragment_past : (all : List Named) (o : Origin) → length all ≤ o.home.template.0 → fragments_in all o ≡ no_fragment
fragment_past all o le =
    ap (λ (x : Option Named). unwrap_or (option_map (composing all o) (option_and_then (including all o.included) (option_and_then (λ (k : Named). fragment_at k.1 o.fragment) x))) no_fragment) (slice_get_past all o.home.template.0 le)

-- a fragment that is there
pub fragment_found : (o : Option Fragment) → IsSome o → (f : Fragment) × (o ≡ Some f)
fragment_found None h = absurd (cc)
fragment_found (Some f) h = (f, refl)

-- what is said of what there is, said of one of that
pub said_of : {X : Type 0} (P : X → Type 0) (o : Option X) (x : X) → o ≡ Some x → IfSome o P → P x
said_of P None x e h = absurd (cc)
said_of P (Some y) x e h = let same : y ≡ x = cc in subst P same h
