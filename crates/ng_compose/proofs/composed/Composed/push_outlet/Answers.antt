use Rattle.std.proofs.Common.{◌≡◌, ◌∷◌, ◌++◌, [], List, ap, sym, refl, ◌∙◌, map}
use Rattle.std.proofs.lemmas.List.{map-append, length-map}
use Rattle.ng_drawing.specs.Template as template
use Rattle.ng_drawing.specs.declared.origin.Home.{Home}
use Rattle.ng_parts.specs.ActsOf.{outside_of}
use Rattle.ng_compose.specs.ComposedOf.{region_of, composed_of}
use Rattle.ng_drawing.specs.Moved.{moved_by}
use Rattle.ng_parts.specs.FragmentOf.{filling_of, outlet_of, spot_of}
use Rattle.ng_compose.proofs.ComposingTurns.{outlet_is}
use Rattle.ng_compose.proofs.composed.Composed.push_outlet.Goals as goal

pub returns-clause-number : goal.returns-clause-number
returns-clause-number c = c.len-count.ensures ∙ (c.args.self.now.outlets.ok.0 ∙ sym (length-map c.args.self.now.outlets.items outlet_of))

pub returns-clause-outlet : goal.returns-clause-outlet
returns-clause-outlet c =
    let old = c.args.self.now in
    let r = region_of c.args.region.now in
    let site = c.number-site.ensures ∙ ap (λ ns. moved_by ns c.args.outlet.now.site) c.as_slice.ensures.value in
    let outsides = ap (map outside_of) (c.in_ok-outsides.ensures ∙ c.as_slice-2.ensures.value) in
    let new : outlet_of (record { site = c.number-site.result; filling = c.in_ok-filling.filling }) ≡ record (outlet_of c.args.outlet.now) { site = moved_by old.moved.items c.args.outlet.now.site }
    = ap (λ n. record { site = n; filling = filling_of c.in_ok-filling.filling }) site ∙ ap (λ f. record { site = moved_by old.moved.items c.args.outlet.now.site; filling = f }) c.in_ok-filling.ensures in
    let spot : spot_of (record { home = c.in_ok-home.home; scope = c.args.region.now.scope; outsides = c.in_ok-outsides.outsides }) ≡ record { home = r.home; scope = r.scope; outsides = r.outsides }
    = ap (λ (h : Home). record { home = h; scope = r.scope; outsides = map outside_of c.in_ok-outsides.outsides.items }) c.in_ok-home.ensures ∙ ap (λ (os : List template.Outside). record { home = r.home; scope = r.scope; outsides = os }) outsides in
    outlet_is r (outlet_of c.args.outlet.now) (composed_of old) _
    (ap (map outlet_of) c.in_ok-push.ensures.items ∙ (map-append outlet_of old.outlets.items _ ∙ ap (λ (x : template.Outlet). map outlet_of old.outlets.items ++ x ∷ []) new))
    (ap (map spot_of) c.in_ok-push-2.ensures.items ∙ (map-append spot_of old.spots.items _ ∙ ap (λ (x : template.OutletScope). map spot_of old.spots.items ++ x ∷ []) spot)) refl refl refl refl refl refl
