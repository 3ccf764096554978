use Rattle.std.proofs.Common.{◌≡◌, ◌∙◌, true, ap, sym}
use Rattle.ng_drawing.specs.Composing.{composed_in, fuel_for, region_of, nothing_composed, fragment_by, is_directed}
use Rattle.ng_drawing.specs.Named.{fragments_at}
use Rattle.ng_compose.specs.Kept.{templates_of}
use Rattle.ng_parts.specs.FragmentOf.{fragment_of}
use Rattle.ng_copies.specs.WholeOf.{whole_of}
use Rattle.ng_drawing.specs.Template.{Fragment}
use Rattle.ng_compose.proofs.KeptOrder.{kept_order, directed_is}
use Rattle.ng_compose.proofs.composing.compose.Goals as goal

pub returns-then-is_directed-clause-order : goal.returns-then-is_directed-clause-order
returns-then-is_directed-clause-order c =
    let f : Fragment = whole_of c.args.whole in
    let parts = c.parts.ensures ∙ ap (λ (g : Fragment). g.parts) c.fragment.ensures in
    let on : is_directed f.parts ≡ true = ap is_directed (sym parts) ∙ (sym c.is_directed.ensures ∙ c.if-is_directed.true) in
    let made = directed_is c.args.all.now c.args.home f (fragment_of c.in_ok-made.made) on (c.in_ok-made.ensures ∙ ap (λ (g : Fragment). fragment_by (composed_in (fragments_at (templates_of c.args.all.now)) (fuel_for c.args.home) (region_of g c.args.home) nothing_composed)) c.fragment-then-is_directed.ensures) in
    kept_order c.args.all.now c.args.home f (fragment_of c.in_ok-made.made) made c.requires.order
