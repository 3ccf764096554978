-- Each outlet of a fragment that an instance is one of has its body in the home that its bodies come from.
use Rattle.std.proofs.Common.{◌≡◌, ◌+◌, ℕ, zero, suc, Bool, true, false, cond, List, [], ◌∷◌, ◌++◌, append_assoc, length, length-append, map, Option, Some, None, refl, ap, sym, subst, arith}
use Rattle.std.specs.List.{AllByRecursion, list_all}
use Rattle.std.specs.Prelude.{◌==◌, option_and_then, option_map, slice_get}
use Rattle.std.proofs.lemmas.Bool.{and_parts, eqb-true}
use Rattle.ng_base.specs.declared.name.TplId.{TplId}
use Rattle.ng_drawing.specs.Included.{Opened, included, included_in, opened}
use Rattle.ng_drawing.specs.Origins.{inner_home}
use Rattle.ng_drawing.specs.Template.{Filling, Fragment, Outlet, OutletScope, fragment_at}
use Rattle.ng_drawing.specs.declared.origin.Home.{Home}
use Rattle.ng_drawing.specs.declared.origin.Origin.{Origin}
use Rattle.ng_steps.proofs.Placed.{AreRegular, HaveHomes, fragment_bodies}
use Rattle.ng_changes.specs.Whole.{HasBody}
use Rattle.ng_link.specs.State.{templates_of}
use Rattle.ng_link.specs.declared.works.Works.{Works}
use Rattle.ng_compose.proofs.ComposedSpots.{ArePaired, composed_spots}
use Rattle.ng_compose.proofs.KeptWhole.{whole_for}
use Rattle.ng_drawing.specs.Composing.{composed, composed_in, fragment_by, fuel_for, is_directed, nothing_composed, region_of}
use Rattle.ng_drawing.specs.Named.{Named, composing, fragment_for, fragment_in, fragments_at, including}
use Rattle.ng_compose.specs.Kept.{named_of}
use Rattle.ng_drawing.specs.Numbering.{is_bare}
use Rattle.ng_compose.specs.declared.templates.Kept.{Kept}

-- ---- the fragments of a template that is kept stand on one scope

abbrev pub AreBare : List Named → Type 0
AreBare all = (t n : ℕ) (f : Fragment) → fragment_in all t n ≡ Some f → f.spots ≡ []

none_long : {A : Type 0} (xs : List A) → length xs ≡ 0 → xs ≡ []
none_long [] e = refl
none_long (x ∷ xs) e = absurd (omega (arith, e))

bare_in : (fs : List Fragment) (n : ℕ) (f : Fragment) → list_all is_bare fs ≡ true → slice_get fs n ≡ Some f → f.spots ≡ []
bare_in [] n f all at = absurd (cc)
bare_in (x ∷ fs) zero f all at =
    let same : x ≡ f = cc in
    let first : is_bare x ≡ true = (and_parts (is_bare x) (list_all is_bare fs) all).0 in
    let none : x.spots ≡ [] = none_long x.spots (eqb-true (length x.spots) 0 (and_parts (length x.marks == 0) (length x.spots == 0) first).1) in
    subst (λ (y : Fragment). y.spots ≡ []) same none
bare_in (x ∷ fs) (suc n) f all at = bare_in fs n f (and_parts (is_bare x) (list_all is_bare fs) all).1 at

kept_bare : (ks : List Kept) (t n : ℕ) (f : Fragment) → option_and_then (λ (k : Named). fragment_at k.1 n) (slice_get (map named_of ks) t) ≡ Some f → f.spots ≡ []
kept_bare [] t n f at = absurd (cc)
kept_bare (x ∷ ks) zero n f at = bare_in ((named_of x).1.own ∷ (named_of x).1.bodies) n f x.template.bare at
kept_bare (x ∷ ks) (suc t) n f at = kept_bare ks t n f at

pub templates_bare : (w : Works) → AreBare (templates_of w)
templates_bare w t n f at = kept_bare w.templates.items.items t n f at

-- ---- outlets and the homes of their bodies

module _ (all : List Named) (which : Origin) where
  abbrev Has : TplId → Filling → Type 0
  Has t x = HasBody all t.0 x

  -- one without scopes of outlets has all in its own
  no_spots : (i : ℕ) (os : List Outlet) → AllByRecursion (λ (x : Outlet). HasBody all (inner_home which).template.0 x.filling) os → HaveHomes all which [] i os
  no_spots i [] h = tt
  no_spots i (o ∷ os) h = (h.0, no_spots (i + 1) os h.1)

  spot_there : (before : List OutletScope) (s : OutletScope) (ss : List OutletScope) → slice_get (before ++ s ∷ ss) (length before) ≡ Some s
  spot_there [] s ss = refl
  spot_there (b ∷ before) s ss = spot_there before s ss

  paired_homes : (before ss : List OutletScope) (os : List Outlet) → ArePaired Has os ss → HaveHomes all which (before ++ ss) (length before) os
  paired_homes before ss [] h = tt
  paired_homes before [] (o ∷ os) h = absurd h
  paired_homes before (s ∷ ss) (o ∷ os) h =
      let count : length (before ++ s ∷ []) ≡ length before + 1 = length-append before (s ∷ []) in (
        subst (λ (x : Option OutletScope). HasBody all (spot_of x).template.0 o.filling) (sym (spot_there before s ss)) h.0,
        subst (λ (n : ℕ). HaveHomes all which (before ++ s ∷ ss) n os) count
            (subst (λ (xs : List OutletScope). HaveHomes all which xs (length (before ++ s ∷ [])) os) (append_assoc before (s ∷ []) ss) (paired_homes (before ++ s ∷ []) ss os h.1)),
      )
    where
      spot_of : Option OutletScope → Home
      spot_of None = inner_home which
      spot_of (Some x) = x.home

-- ---- a fragment of a template, with what is included in it

bare_included : (o : Option Opened) (f g : Fragment) → g.spots ≡ [] → (included_in o f g).spots ≡ []
bare_included None f g none = none
bare_included (Some e) f g none = refl

bare_including : (all : List Named) → AreBare all → (o : Option TplId) (g f : Fragment) → g.spots ≡ [] → including all o g ≡ Some f → f.spots ≡ []
bare_including all bare None g f none e = let same : g ≡ f = cc in subst (λ (x : Fragment). x.spots ≡ []) same none
bare_including all bare (Some t) g f none e = by (fragment_in all t.0 0) refl e
  where
    by : (x : Option Fragment) → fragment_in all t.0 0 ≡ x → option_map (included g) x ≡ Some f → f.spots ≡ []
    by None is e = absurd (cc)
    by (Some other) is e =
        let same : included g other ≡ f = cc in
        subst (λ (x : Fragment). x.spots ≡ []) same (bare_included (opened g.parts) g other (bare t.0 0 other is))

bare_for : (all : List Named) → AreBare all → (which : Origin) (f : Fragment) → option_and_then (including all which.included) (fragment_in all which.home.template.0 which.fragment) ≡ Some f → f.spots ≡ []
bare_for all bare which f at = by (fragment_in all which.home.template.0 which.fragment) refl at
  where
    by : (x : Option Fragment) → fragment_in all which.home.template.0 which.fragment ≡ x → option_and_then (including all which.included) x ≡ Some f → f.spots ≡ []
    by None is e = absurd (cc)
    by (Some g) is e = bare_including all bare which.included g f (bare which.home.template.0 which.fragment g is) e

-- ---- the fragment of an instance

module _ (all : List Named) (regular : AreRegular all) (bare : AreBare all) where
  kept_filled : (t : TplId) (n : ℕ) (f : Fragment) → fragments_at all t n ≡ Some f → AllByRecursion (λ (x : Outlet). HasBody all t.0 x.filling) f.outlets
  kept_filled t n f at =
      let own : Home = record { template = t; room = 0; given = [] } in
      let alone : Origin = record { home = own; fragment = n; included = None } in
      fragment_bodies all regular t.0 f (whole_for all regular alone f (ap (option_and_then (including all None)) at))

  module _ (which : Origin) (g : Fragment) (at : option_and_then (including all which.included) (fragment_in all which.home.template.0 which.fragment) ≡ Some g) where
    own_filled : AllByRecursion (λ (x : Outlet). HasBody all (inner_home which).template.0 x.filling) g.outlets
    own_filled = fragment_bodies all regular (inner_home which).template.0 g (whole_for all regular which g at)

    abbrev Homes : Fragment → Type 0
    Homes f = HaveHomes all which f.spots 0 f.outlets

    by_directed : (b : Bool) → is_directed g.parts ≡ b → Homes (composing all which g)
    by_directed true e =
        paired_homes all which [] (composing all which g).spots (composing all which g).outlets
        (composed_spots (fragments_at all) (Has all which) kept_filled (inner_home which) g own_filled e)
    by_directed false e =
        let plain : composed (fragments_at all) (inner_home which) g ≡ g = ap (λ (b : Bool). cond b (fragment_by (composed_in (fragments_at all) (fuel_for (inner_home which)) (region_of g (inner_home which)) nothing_composed)) g) e in
        let none : g.spots ≡ [] = bare_for all bare which g at in
        subst Homes (sym plain) (subst (λ (ss : List OutletScope). HaveHomes all which ss 0 g.outlets) (sym none) (no_spots all which 0 g.outlets own_filled))

    composed_homes : Homes (composing all which g)
    composed_homes = by_directed (is_directed g.parts) refl

  pub fragment_homes : (which : Origin) (f : Fragment) → fragment_for all which ≡ Some f → HaveHomes all which f.spots 0 f.outlets
  fragment_homes which f at = by (option_and_then (including all which.included) (fragment_in all which.home.template.0 which.fragment)) refl at
    where
      by : (x : Option Fragment) → option_and_then (including all which.included) (fragment_in all which.home.template.0 which.fragment) ≡ x → option_map (composing all which) x ≡ Some f → HaveHomes all which f.spots 0 f.outlets
      by None is e = absurd (cc)
      by (Some g) is e =
          let same : composing all which g ≡ f = cc in
          subst (λ (y : Fragment). HaveHomes all which y.spots 0 y.outlets) same (composed_homes which g is)
