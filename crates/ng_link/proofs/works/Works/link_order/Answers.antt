use Rattle.std.proofs.Common.{◌≡◌, ◌∙◌, ℕ, zero, suc, List, [], ◌∷◌, None, Some, refl, ap, sym, map, slice_get, slice_index_or}
use Rattle.std.specs.List.{list_any}
use Rattle.std.specs.Option.{option_map_or}
use Rattle.std.specs.Prelude.{option_map}
use Rattle.ng_drawing.specs.Template.{Site, OutletScope, Fragment}
use Rattle.ng_parts.specs.FragmentOf.{fragment_of}
use Rattle.ng_copies.specs.WholeOf.{whole_of}
use Rattle.ng_build.specs.Linking.{is_binds, steps}
use Rattle.ng_build.specs.StepOf.{step_of}
use Rattle.ng_build.specs.declared.ordering.LinkStep.{LinkStep}
use Rattle.ng_link.proofs.works.Works.link_order.Goals as goal

-- the scope of an outlet by its number
spot_scope : (ss : List OutletScope) (i : ℕ) → slice_index_or (map (λ (s : OutletScope). s.scope) ss) i 0 ≡ option_map_or (λ (s : OutletScope). s.scope) (slice_get ss i) 0
spot_scope [] i = refl
spot_scope (s ∷ ss) zero = refl
spot_scope (s ∷ ss) (suc i) = spot_scope ss i

pub returns-in-None : goal.returns-in-None
returns-in-None c = λ f asked. absurd (let two : Some f ≡ None = sym asked ∙ (sym c.in_ok-whole.ensures.fragment ∙ ap (option_map whole_of) c.in-None.is) in cc)

pub returns-in_ok-outlets-in-Some : goal.returns-in_ok-outlets-in-Some
returns-in_ok-outlets-in-Some c = λ f asked.
    let same : whole_of c.in-Some.whole ≡ f = let two : Some (whole_of c.in-Some.whole) ≡ Some f = sym (ap (option_map whole_of) c.in-Some.is) ∙ (c.in_ok-whole.ensures.fragment ∙ asked) in cc in
    let is : fragment_of c.fragment-fragment.result.now ≡ f = c.fragment-fragment.ensures ∙ same in
    let stepped = c.in_ok-steps-in-Some.ensures ∙ ap steps (c.parts.ensures ∙ ap (λ (h : Fragment). h.parts) is) in
    let coded = ap (λ (xs : List LinkStep). list_any is_binds (map step_of xs)) c.as_slice.ensures.value ∙ ap (list_any is_binds) stepped in
    record {
      steps = stepped;
      programs = λ bound. c.in_ok-programs-in-Some.ensures.programs (coded ∙ bound) ∙ ap (λ (h : Fragment). map (λ (x : Site). x.program) h.sites) is;
      pure = c.in_ok-programs-in-Some.ensures.pure;
      outlets = λ i. ap (λ (ns : List ℕ). slice_index_or ns i 0) (c.in_ok-outlets-in-Some.ensures ∙ ap (map (λ (s : OutletScope). s.scope)) (c.spots.ensures ∙ ap (λ (h : Fragment). h.spots) is)) ∙ spot_scope f.spots i;
    }
