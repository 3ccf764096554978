-- The body of an outlet is a fragment that can be linked, also with the template of a name in it.
use Rattle.std.proofs.Common.{◌≡◌, ◌<◌, ℕ, zero, suc, List, [], ◌∷◌, length, Option, None, Some, refl, sym, subst, arith}
use Rattle.std.specs.Prelude.{IsSome, option_and_then, option_map, slice_get}
use Rattle.ng_drawing.specs.Included.{included}
use Rattle.ng_drawing.specs.Origins.{plain_origin}
use Rattle.ng_drawing.specs.Template.{Filling, body_if, on_case, for_each, by_name, Fragment, fragment_at}
use Rattle.ng_drawing.specs.declared.origin.Home.{Home}
use Rattle.ng_drawing.specs.declared.origin.Origin.{Origin}
use Rattle.ng_rows.specs.Chosen.{body_of}
use Rattle.ng_fire.specs.SiteFires.{including_origin}
use Rattle.ng_changes.specs.Whole.{HasBody}
use Rattle.ng_drawing.specs.Named.{Named, composing, fragment_in, including, fragment_for}
use Rattle.ng_changes.proofs.Answered.{there}

kept_there : (all : List Named) (t : ℕ) → t < length all → (k : Named) × (slice_get all t ≡ Some k)
kept_there [] t l = absurd (omega (arith, l))
kept_there (k ∷ ks) zero l = (k, refl)
kept_there (k ∷ ks) (suc t) l = kept_there ks t (omega (arith, l))

-- each template has a fragment of its own
own_there : (all : List Named) (t : ℕ) → t < length all → IsSome (fragment_in all t 0)
own_there all t l =
    let k = kept_there all t l in
    subst (λ (o : Option Named). IsSome (option_and_then (λ (y : Named). fragment_at y.1 0) o)) (sym k.1) refl

-- with the templates of directives in it a fragment is one
pub composed_there : (all : List Named) (o : Origin) → IsSome (option_and_then (including all o.included) (fragment_in all o.home.template.0 o.fragment)) → IsSome (fragment_for all o)
composed_there all o h =
    let f = there (option_and_then (including all o.included) (fragment_in all o.home.template.0 o.fragment)) h in
    subst (λ (x : Option Fragment). IsSome (option_map (composing all o) x)) (sym f.1) refl

pub named_there : (all : List Named) (h : Home) (b t : ℕ) → IsSome (fragment_in all h.template.0 b) → t < length all → IsSome (fragment_for all (including_origin h b t))
named_there all h b t body l =
    let f = there (fragment_in all h.template.0 b) body in
    let g = there (fragment_in all t 0) (own_there all t l) in
    composed_there all (including_origin h b t)
    (subst (λ (o : Option Fragment). IsSome (option_and_then (including all (Some (record { 0 = t }))) o)) (sym f.1)
    (subst (λ (o : Option Fragment). IsSome (option_map (included f.0) o)) (sym g.1) refl))

-- and so is the body of an outlet
pub body_there : (all : List Named) (t : ℕ) (f : Filling) → HasBody all t f → IsSome (fragment_in all t (body_of f))
body_there all t (body_if b) h = h
body_there all t (on_case c b) h = h
body_there all t (for_each r b) h = h
body_there all t (by_name b) h = h

pub plain_there : (all : List Named) (h : Home) (b : ℕ) → IsSome (fragment_in all h.template.0 b) → IsSome (fragment_for all (plain_origin h b))
plain_there all h b body =
    let f = there (fragment_in all h.template.0 b) body in
    composed_there all (plain_origin h b) (subst (λ (o : Option Fragment). IsSome (option_and_then (including all None) o)) (sym f.1) refl)
