-- A fresh instance shows its rendering.
use Rattle.std.proofs.Common.{◌≡◌, ℕ, zero, suc, Bool, true, false, cond, List, [], ◌∷◌, Ok, Option, None, refl, ap, ◌∙◌, slice_index_or}
use Rattle.ng_base.specs.Objects.{Object}
use Rattle.ng_base.specs.Views.{ViewTree}
use Rattle.ng_behaviour.specs.Scopes.{Scope}
use Rattle.ng_markup.specs.Forest.{Forest, no_nodes}
use Rattle.ng_drawing.specs.Drawing.{Rendered, ◌>>-◌, shown_as}
use Rattle.ng_drawing.specs.Cases.{cases_of}
use Rattle.ng_drawing.specs.Instance.{SiteState, KeptNow, CasesAt, Instance, Instances, Outlets, instance_with, no_instances, instance_then, no_outlets, outlet_then, kept_by, seen_at, seen_in, seen_now, shown, shown_all, shown_in, instance_now, rests_in, outlet_now, rendering, rendering_all, rendering_in, IsFilled, IsFresh, AllFresh, AreFilled}
use Rattle.ng_drawing.specs.Roles.{Role}
use Rattle.ng_drawing.specs.Rows.{is_filled}
use Rattle.ng_drawing.specs.Template.{Outlet}
use Rattle.ng_drawing.proofs.Fresh.{on, fresh_parts}

-- an outlet that has its bodies shows them
module _ (now : KeptNow) (states : List SiteState) (fresh : (n : ℕ) → now n ≡ shown_as (kept_by states n)) (cases : CasesAt) (o : Outlet) (rs : List Role) (r : Rendered Forest) where
  abbrev called_for : Option ViewTree → Rendered Forest
  called_for v = cond (is_filled (cases o.site) o.filling v rs) r (Ok None)

  kept_outlet : (b : Bool) → rests_in states o.site ≡ b → IsFilled states cases o rs → outlet_now now states cases o rs r ≡ r
  kept_outlet true e h = ap (λ c. cond c r (now o.site >>- called_for)) e
  kept_outlet false e h = ap (λ c. cond c r (now o.site >>- called_for)) e ∙ on called_for (fresh o.site) (ap (λ c. cond c r (Ok None)) (h e))

-- where each site has now what it has kept, what is seen of it is what was seen
seen_fresh : (now : KeptNow) (states : List SiteState) → ((n : ℕ) → now n ≡ shown_as (kept_by states n)) → (n : ℕ) → seen_now now states n ≡ shown_as (seen_in states n)
seen_fresh now states fresh n = on (λ v. shown_as (seen_at states n v)) (fresh n) refl

module _ (objects : List Object) (scopes : List Scope) where
  mutual
    pub fresh_instance : (i : Instance) → IsFresh objects scopes i → rendering objects scopes i ≡ shown_as (shown i)
    fresh_instance (instance_with f scope states outlets) h =
        fresh_parts (seen_in states) (seen_now (instance_now objects scopes f.sites states) states) (seen_fresh (instance_now objects scopes f.sites states) states h.0) (λ o. slice_index_or (shown_in outlets) o no_nodes)
        (λ o. slice_index_or (rendering_in objects scopes (instance_now objects scopes f.sites states) states (cases_of f.outlets) f.outlets outlets) o (shown_as no_nodes))
        (λ o. fresh_outlets (instance_now objects scopes f.sites states) states h.0 (cases_of f.outlets) f.outlets outlets h.1 o) f.parts

    fresh_all : (is : Instances) → AllFresh objects scopes is → rendering_all objects scopes is ≡ shown_as (shown_all is)
    fresh_all no_instances h = refl
    fresh_all (instance_then i is) h = on _ (fresh_instance i h.0) (on _ (fresh_all is h.1) refl)

    fresh_outlets : (now : KeptNow) (states : List SiteState) → ((n : ℕ) → now n ≡ shown_as (kept_by states n)) → (cases : CasesAt) (os : List Outlet) (outlets : Outlets) → AreFilled objects scopes states cases os outlets → (k : ℕ)
        → slice_index_or (rendering_in objects scopes now states cases os outlets) k (shown_as no_nodes) ≡ shown_as (slice_index_or (shown_in outlets) k no_nodes)
    fresh_outlets now states fresh cases os no_outlets h k = refl
    fresh_outlets now states fresh cases [] (outlet_then rs is rest) h zero = fresh_all is h.0
    fresh_outlets now states fresh cases [] (outlet_then rs is rest) h (suc k) = fresh_outlets now states fresh cases [] rest h.1 k
    fresh_outlets now states fresh cases (o ∷ os) (outlet_then rs is rest) h zero = kept_outlet now states fresh cases o rs (rendering_all objects scopes is) (rests_in states o.site) refl h.0 ∙ fresh_all is h.1
    fresh_outlets now states fresh cases (o ∷ os) (outlet_then rs is rest) h (suc k) = fresh_outlets now states fresh cases os rest h.2 k
