-- Each fragment of a kept template is numbered in document order.
use Rattle.std.proofs.Common.{◌≡◌, ℕ, zero, suc, List, [], ◌∷◌, Some, length, map, sym, subst, ◌∙◌, ap, cond, true, false}
use Rattle.ng_base.specs.declared.name.TplId.{TplId}
use Rattle.ng_drawing.specs.Template.{Fragment}
use Rattle.ng_drawing.specs.declared.origin.Home.{Home}
use Rattle.ng_drawing.specs.Composing.{composed_in, fuel_for, region_of, nothing_composed, fragment_by, is_directed, composed}
use Rattle.ng_drawing.specs.Named.{fragment_in, fragments_at}
use Rattle.ng_compose.specs.Kept.{named_of, templates_of}
use Rattle.ng_drawing.specs.Numbering.{HasOrder}
use Rattle.ng_parts.specs.TemplateOf.{template_of}
use Rattle.ng_compose.specs.declared.templates.Kept.{Kept}
use Rattle.ng_compose.specs.declared.templates.Templates.{Templates}
use Rattle.ng_compose.proofs.ComposedOrder.{composed_order}
use Rattle.ng_parts.proofs.WholeAt.{whole_at}

kept_ordered : (ks : List Kept) (t n : ℕ) (f : Fragment) → fragment_in (map named_of ks) t n ≡ Some f → HasOrder f
kept_ordered [] t n f e = absurd (cc)
kept_ordered (k ∷ ks) zero n f e = (length (template_of k.template).bodies, whole_at (template_of k.template) n f k.template.regular e)
kept_ordered (k ∷ ks) (suc t) n f e = kept_ordered ks t n f e

pub templates_ordered : (all : Templates) (t : TplId) (n : ℕ) (f : Fragment) → fragments_at (templates_of all) t n ≡ Some f → HasOrder f
templates_ordered all t n f e = kept_ordered all.items.items t.0 n f e

-- so is what is composed of them
pub kept_order : (all : Templates) (h : Home) (f g : Fragment) → g ≡ composed (fragments_at (templates_of all)) h f → HasOrder f → HasOrder g
kept_order all h f g e order = subst HasOrder (sym e) (composed_order (fragments_at (templates_of all)) (templates_ordered all) h f order)

-- a fragment with directives, and one without
module _ (all : Templates) (h : Home) (f : Fragment) where
  abbrev with_directives : Fragment
  with_directives = fragment_by (composed_in (fragments_at (templates_of all)) (fuel_for h) (region_of f h) nothing_composed)

  pub directed_is : (g : Fragment) → is_directed f.parts ≡ true → g ≡ with_directives → g ≡ composed (fragments_at (templates_of all)) h f
  directed_is g e made = made ∙ sym (ap (λ b. cond b with_directives f) e)

  pub plain_is : is_directed f.parts ≡ false → f ≡ composed (fragments_at (templates_of all)) h f
  plain_is e = sym (ap (λ b. cond b with_directives f) e)
