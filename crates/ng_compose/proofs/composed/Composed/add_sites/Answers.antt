use Rattle.std.proofs.Common.{◌∙◌, List, ℕ, ap, sym}
use Rattle.std.proofs.lemmas.List.{drop_all}
use Rattle.ng_compose.specs.ComposedOf.{region_of, composed_of}
use Rattle.ng_drawing.specs.Composing.{sites_on}
use Rattle.ng_parts.specs.FragmentOf.{mark_of}
use Rattle.ng_compose.proofs.ComposingTurns.{sites_turn}
use Rattle.ng_compose.proofs.composed.Composed.add_sites.Goals as goal

pub loop-n-preserved : goal.loop-n-preserved
loop-n-preserved c =
    sites_turn (region_of c.args.region.now) (mark_of c.args.mark) c.args.numbers.now c.loop-n.n-index (composed_of c.loop-n.self) (composed_of c.add_site.new.self) c.loop-n-test.true c.in_ok-add_site.ensures ∙ c.loop-n.invariant

pub returns : goal.returns
returns c =
    sym (ap (λ (ns : List ℕ). (sites_on (region_of c.args.region.now) (mark_of c.args.mark) ns (composed_of c.loop-n.self)).1) (drop_all c.loop-n.n-index c.args.numbers.now c.loop-n-test.false)) ∙ c.loop-n.invariant
