-- The fragment of an instance is whole, where kept templates are regular.
use Rattle.std.proofs.Common.{◌≡◌, ℕ, true, List, length, Option, None, Some, refl, ap, sym, ◌∙◌}
use Rattle.std.specs.Prelude.{option_map, option_and_then, slice_get}
use Rattle.ng_base.specs.declared.name.TplId.{TplId}
use Rattle.ng_drawing.specs.Included.{included}
use Rattle.ng_drawing.specs.Origins.{home_in, inner_home}
use Rattle.ng_drawing.specs.Template.{Fragment, fragment_at}
use Rattle.ng_drawing.specs.declared.origin.Origin.{Origin}
use Rattle.ng_drawing.specs.Named.{Named, fragment_in, including}
use Rattle.ng_drawing.specs.Numbering.{is_whole, is_regular}
use Rattle.ng_parts.proofs.WholeAt.{whole_at}
use Rattle.ng_copies.proofs.Inclusion.{had_then, included_whole}

-- The fragment that an instance is one of, before the templates of directives are in it, where templates are as the compiler makes them: the
-- bodies of its outlets are those of the template that is included in it, or of its own.
module _ (all : List Named) (regular : (t : ℕ) (k : Named) → slice_get all t ≡ Some k → is_regular k.1 ≡ true) where
  abbrev pub HasBodies : ℕ → Fragment → Type 0
  HasBodies t f = (k : Named) × (slice_get all t ≡ Some k) × (is_whole (length k.1.bodies) f ≡ true)

  kept_whole : (t n : ℕ) (f : Fragment) → fragment_in all t n ≡ Some f → HasBodies t f
  kept_whole t n f at = by_kept (slice_get all t) refl at
    where
      by_kept : (o : Option Named) → slice_get all t ≡ o → option_and_then (λ (k : Named). fragment_at k.1 n) o ≡ Some f → HasBodies t f
      by_kept None e is = absurd (cc)
      by_kept (Some k) e is = (k, e, whole_at k.1 n f (regular t k e) is)

  pub whole_for : (o : Origin) (f : Fragment) → option_and_then (including all o.included) (fragment_in all o.home.template.0 o.fragment) ≡ Some f → HasBodies (inner_home o).template.0 f
  whole_for o f at =
      let h = had_then (fragment_in all o.home.template.0 o.fragment) (including all o.included) f at in
      by_included h.0 (kept_whole o.home.template.0 o.fragment h.0 h.1) o.included h.2
    where
      by_included : (g : Fragment) → HasBodies o.home.template.0 g → (i : Option TplId) → including all i g ≡ Some f → HasBodies (home_in o.home i).template.0 f
      by_included g w None e = let same : g ≡ f = cc in (w.0, w.1, ap (is_whole (length w.0.1.bodies)) (sym same) ∙ w.2)
      by_included g w (Some t) e = by_other (fragment_in all t.0 0) refl e
        where
          by_other : (x : Option Fragment) → fragment_in all t.0 0 ≡ x → option_map (included g) x ≡ Some f → HasBodies t.0 f
          by_other None is e = absurd (cc)
          by_other (Some other) is e =
              let same : included g other ≡ f = cc in
              let v = kept_whole t.0 0 other is in
              (v.0, v.1, ap (is_whole (length v.0.1.bodies)) (sym same) ∙ included_whole (length w.0.1.bodies) (length v.0.1.bodies) g other w.2 v.2)
