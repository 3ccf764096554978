use Rattle.std.proofs.Common.{◌≡◌, ◌<◌, ◌+◌, ◌++◌, [], ◌∷◌, ℕ, List, ap, refl, sym, ◌∙◌, drop, map, length, slice_get, arith, append-nil}
use Rattle.ng_drawing.specs.Template.{Outlet, Fragment}
use Rattle.ng_drawing.specs.declared.origin.Origin.{Origin}
use Rattle.ng_parts.specs.FragmentOf.{outlet_of as template_outlet, fragment_of}
use Rattle.ng_instances.specs.BoundOf.{ground_of}
use Rattle.ng_instances.specs.Changing.{round_by, outlet_on, outlets_from}
use Rattle.ng_instances.specs.Instances.{OutletState}
use Rattle.ng_instances.specs.Registering.{Ground, Round}
use Rattle.ng_instances.specs.InstanceOf.{outlet_of}
use Rattle.ng_instances.specs.declared.instances.OutletState as code
use Rattle.ng_build.proofs.Loops.{dropped, pushed}
use Rattle.ng_instances.proofs.outlets.outlets_at.Goals as goal

-- without anchors there are no outlets
no_anchor : (which : Origin) (g : Ground) (serials : List ℕ) (f : Fragment) (i : ℕ) (os : List Outlet) (names : List ℕ) → length names ≡ 0 → outlets_from which g serials f i os names ≡ []
no_anchor which g serials f i [] names e = refl
no_anchor which g serials f i (o ∷ os) [] e = refl
no_anchor which g serials f i (o ∷ os) (a ∷ names) e = absurd (omega (arith, e))

pub returns-in-None : goal.returns-in-None
returns-in-None c =
    let made : List OutletState = map outlet_of c.loop-i.made.items in
    let f = fragment_of c.args.fragment.now in
    let none = no_anchor c.args.origin.now (ground_of c.args.ground.now) c.args.serials.now f c.loop-i.i (drop c.loop-i.i f.outlets) c.loop-i.left.now c.in-None.ensures.cases in
    sym (append-nil made) ∙ (ap (λ (os : List OutletState). made ++ os) (sym none) ∙ c.loop-i.invariant)

pub loop-i-preserved : goal.loop-i-preserved
loop-i-preserved c =
    let f = fragment_of c.args.fragment.now in
    let which = c.args.origin.now in
    let g = ground_of c.args.ground.now in
    let ss = c.args.serials.now in
    let os = c.outlets-outlets.result.now in
    let i = c.loop-i.i in
    let lt : i < length os = omega arith in
    let x = c.index-outlets-i.result in
    let o : Outlet = template_outlet x in
    let a = c.in-Some.name.now in
    let others = c.in-Some.others.now in
    let before : List code.OutletState = c.loop-i.made.items in
    let here : OutletState = outlet_on (round_by which g (slice_get f.spots i)) ss o a in
    let listed : map template_outlet os ≡ f.outlets = c.outlets-outlets.ensures in
    let rest : List OutletState = outlets_from which g ss f (i + 1) (drop (i + 1) f.outlets) others in
    let next : drop i f.outlets ≡ o ∷ drop (i + 1) f.outlets =
    ap (drop i) (sym listed) ∙ (dropped template_outlet os i x lt c.index-outlets-i.is ∙ ap (λ (xs : List Outlet). o ∷ drop (i + 1) xs) listed) in
    let is : outlet_of c.in_ok-outlet_at-in-Some.field-0 ≡ here = c.in_ok-outlet_at-in-Some.ensures ∙ ap (λ (r : Round). outlet_on r ss o a) c.in_ok-round-in-Some.ensures in
    ap (λ (xs : List code.OutletState). map outlet_of xs ++ rest) c.in_ok-push-in-Some.ensures.items
    ∙ (pushed outlet_of before c.in_ok-outlet_at-in-Some.field-0 here rest is
    ∙ (sym (ap (λ (xs : List Outlet). map outlet_of before ++ outlets_from which g ss f i xs (a ∷ others)) next)
    ∙ (sym (ap (λ (ns : List ℕ). map outlet_of before ++ outlets_from which g ss f i (drop i f.outlets) ns) c.in-Some.ensures.cases.0) ∙ c.loop-i.invariant)))
