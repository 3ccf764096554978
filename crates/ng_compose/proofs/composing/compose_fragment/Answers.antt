use Rattle.std.proofs.Common.{◌≡◌, ◌∙◌, ℕ, suc, List, ap, arith}
use Rattle.ng_drawing.specs.Template.{Outside, Parts, Fragment}
use Rattle.ng_drawing.specs.Composing.{Region, Composed, parts_composed, composed_in, fuel_for, region_of, nothing_composed, fragment_by}
use Rattle.ng_parts.specs.FragmentOf.{fragment_of}
use Rattle.ng_drawing.specs.Named.{fragments_at}
use Rattle.ng_compose.specs.Kept.{templates_of}
use Rattle.ng_parts.specs.Seen.{parts_of}
use Rattle.ng_compose.specs.ComposedOf.{composed_of}
use Rattle.ng_compose.proofs.composing.compose_fragment.Goals as goal

pub returns : goal.returns
returns c =
    let f = fragments_at (templates_of c.args.all.now) in
    let g : Fragment = fragment_of c.args.source.now in
    let h = c.args.home in
    let n : ℕ = c.in_ok-fuel.fuel in
    let first : Region = region_of g h in
    let more : suc n ≡ fuel_for h = let e = c.in_ok-fuel.ensures in omega (arith, e) in
    let region = ap (λ (os : List Outside). parts_composed f (composed_in f n) (record { source = g; home = h; outsides = os; scope = 0 }) (parts_of c.parts.result.now) (composed_of c.new-made.result)) c.in_ok-outsides.ensures in
    let parts = ap (λ (ps : Parts). parts_composed f (composed_in f n) first ps (composed_of c.new-made.result)) c.parts.ensures in
    let start = ap (λ (d : Composed). parts_composed f (composed_in f n) first g.parts d) c.new-made.ensures in
    c.fragment.ensures ∙ ap fragment_by (c.in_ok-parts.ensures ∙ (region ∙ (parts ∙ (start ∙ ap (λ k. composed_in f k first nothing_composed) more))))
