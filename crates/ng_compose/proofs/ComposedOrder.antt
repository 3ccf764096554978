-- A fragment with the templates of its directives in it: its sites and outlets are numbered in document order, and nothing is drawn from the sites of
-- its outlets.
use Rattle.std.proofs.Common.{◌≡◌, ◌<◌, ◌≤◌, ◌+◌, ℕ, Bool, true, false, cond, List, [], ◌∷◌, length, Option, Some, refl, ap, sym, ◌∙◌, arith}
use Rattle.std.proofs.lemmas.Bool.{and_parts, and_from, lt-ltb, ltb-true, le-leb, true≢false}
use Rattle.std.specs.List.{list_all}
use Rattle.std.specs.Prelude.{◌&&◌, not, nat_le, nat_lt}
use Rattle.ng_base.specs.declared.name.TplId.{TplId}
use Rattle.ng_drawing.specs.Template.{Site, Parts, Filling, body_if, on_case, for_each, by_name, Outlet, Fragment}
use Rattle.ng_drawing.specs.declared.origin.Home.{Home}
use Rattle.ng_drawing.specs.Composing.{Composed, composed_in, fuel_for, region_of, nothing_composed, fragment_by, is_directed, composed}
use Rattle.ng_drawing.specs.Numbering.{is_apart, parts_draw, is_body, is_outlet, is_undrawn, HasOrder}
use Rattle.ng_compose.proofs.Composable.{drawable, drawable_below, is_filled, is_sound}
use Rattle.ng_compose.proofs.ComposedLeaves.{Made}
use Rattle.ng_compose.proofs.ComposedParts.{composed_made}
use Rattle.ng_parts.proofs.Within.{apart_make}
use Rattle.ng_parts.proofs.More.{parts_more}
use Rattle.ng_parts.proofs.WholeFrom.{whole_from}

-- there are so many bodies
abbrev body_of : Filling → ℕ
body_of (body_if b) = b
body_of (on_case c b) = b
body_of (for_each r b) = b
body_of (by_name b) = b

abbrev most : List Outlet → ℕ
most [] = 0
most (o ∷ os) = body_of o.filling + most os

body_there : (bodies : ℕ) (x : Filling) → body_of x ≤ bodies → is_filled x ≡ true → is_body bodies x ≡ true
body_there bodies (body_if b) l e = and_from (nat_lt 0 b) (nat_le b bodies) e (le-leb b bodies l)
body_there bodies (on_case c b) l e = and_from (nat_lt 0 b) (nat_le b bodies) e (le-leb b bodies l)
body_there bodies (for_each r b) l e = and_from (nat_lt 0 b) (nat_le b bodies) e (le-leb b bodies l)
body_there bodies (by_name b) l e = and_from (nat_lt 0 b) (nat_le b bodies) e (le-leb b bodies l)

module _ (ds : List Bool) (xs : List Site) (size : length ds ≡ length xs) (ps : Parts) (draws : parts_draw (drawable ds) ps ≡ true) where
  outlet_there : (bodies : ℕ) (o : Outlet) → body_of o.filling ≤ bodies → is_sound ds o ≡ true → is_outlet (length xs) bodies o ≡ true
  outlet_there bodies o l e =
      let h = and_parts (nat_lt o.site (length ds)) (not (drawable ds o.site) && is_filled o.filling) e in
      let g = and_parts (not (drawable ds o.site)) (is_filled o.filling) h.1 in
      let low : o.site < length ds = ltb-true o.site (length ds) h.0 in
      and_from (nat_lt o.site (length xs)) (is_body bodies o.filling) (lt-ltb o.site (length xs) (omega (arith, low, size))) (body_there bodies o.filling l g.1)

  outlets_there : (bodies : ℕ) (os : List Outlet) → most os ≤ bodies → list_all (is_sound ds) os ≡ true → list_all (is_outlet (length xs) bodies) os ≡ true
  outlets_there bodies [] l e = refl
  outlets_there bodies (o ∷ os) l e =
      let h = and_parts (is_sound ds o) (list_all (is_sound ds) os) e in
      and_from (is_outlet (length xs) bodies o) (list_all (is_outlet (length xs) bodies) os) (outlet_there bodies o (omega (arith, l)) h.0) (outlets_there bodies os (omega (arith, l)) h.1)

  outlet_undrawn : (o : Outlet) → is_sound ds o ≡ true → is_undrawn (length xs) ps o ≡ true
  outlet_undrawn o e =
      let h = and_parts (nat_lt o.site (length ds)) (not (drawable ds o.site) && is_filled o.filling) e in
      let g = and_parts (not (drawable ds o.site)) (is_filled o.filling) h.1 in
      parts_more (drawable ds) (is_apart o.site 0 (length xs))
      (λ k d.
      let low = drawable_below ds k d in
      apart_make 0 (length xs) o.site k (omega arith) (omega (arith, low, size)) (λ same. let is : not (drawable ds o.site) ≡ false = ap (λ (j : ℕ). not (drawable ds j)) (sym same) ∙ ap not d in true≢false (sym g.0 ∙ is)))
      ps draws

  outlets_undrawn : (os : List Outlet) → list_all (is_sound ds) os ≡ true → list_all (is_undrawn (length xs) ps) os ≡ true
  outlets_undrawn [] e = refl
  outlets_undrawn (o ∷ os) e =
      let h = and_parts (is_sound ds o) (list_all (is_sound ds) os) e in
      and_from (is_undrawn (length xs) ps o) (list_all (is_undrawn (length xs) ps) os) (outlet_undrawn o h.0) (outlets_undrawn os h.1)

made_whole : (ps : Parts) (d : Composed) → Made [] 0 0 ps d → HasOrder (fragment_by (ps, d))
made_whole ps d m = (
  most d.outlets,
  whole_from (most d.outlets) (fragment_by (ps, d)) m.sites m.outlets (outlets_there m.after d.sites m.well.size ps m.draws (most d.outlets) d.outlets (omega arith) m.well.outlets)
      (outlets_undrawn m.after d.sites m.well.size ps m.draws d.outlets m.well.outlets),
)

module _ (fragment : TplId → ℕ → Option Fragment) (ordered : (t : TplId) (i : ℕ) (g : Fragment) → fragment t i ≡ Some g → HasOrder g) where
  -- so what is composed of fragments that are numbered so is numbered so
  pub directed_order : (h : Home) (f : Fragment) → HasOrder f → HasOrder (fragment_by (composed_in fragment (fuel_for h) (region_of f h) nothing_composed))
  directed_order h f order =
      let q : Parts × Composed = composed_in fragment (fuel_for h) (region_of f h) nothing_composed in
      made_whole q.0 q.1 (composed_made fragment ordered (fuel_for h) (region_of f h) order [] nothing_composed (record { size = refl; outlets = refl }) refl refl)

  pub composed_order : (h : Home) (f : Fragment) → HasOrder f → HasOrder (composed fragment h f)
  composed_order h f order = by (is_directed f.parts)
    where
      by : (b : Bool) → HasOrder (cond b (fragment_by (composed_in fragment (fuel_for h) (region_of f h) nothing_composed)) f)
      by true = directed_order h f order
      by false = order
