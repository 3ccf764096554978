use Rattle.std.proofs.Common.{ℕ, List, Some, reverse, ap, sym, ◌∙◌}
use Rattle.ng_dom.specs.Paths.{way, downwards}
use Rattle.ng_dom.proofs.WithId.{read_document}
use Rattle.ng_dom.proofs.Ways.{path_leads, none_stands}
use Rattle.ng_dom.proofs.dom.Dom.path.Goals as goal

pub unreachable-requires : goal.unreachable-requires
unreachable-requires c =
    let d = c.args.self.now in
    let n = c.args.n.made.0 in
    let s = c.requires.stands in
    let whole = read_document d.nodes d.next c.as_slice.result.now s.forest d.fresh (c.as_slice.ensures.value ∙ s.shows.0) s.shows.1 in
    none_stands n s.forest c.in-Passed.field-0 (ap (way n 0) (sym whole) ∙ (sym c.in_ok-way.ensures ∙ c.in-Passed.is)) s.inside

pub returns-clause-path : goal.returns-clause-path
returns-clause-path c = λ f shown.
    let d = c.args.self.now in
    let n = c.args.n.made.0 in
    let whole = read_document d.nodes d.next c.as_slice.result.now f d.fresh (c.as_slice.ensures.value ∙ shown.0) shown.1 in
    ap downwards (ap (way n 0) (sym whole) ∙ (sym c.in_ok-way.ensures ∙ c.in-Reached.is))
    ∙ (ap (λ (q : List ℕ). Some (reverse q)) (sym c.as_slice-in-Reached.ensures) ∙ ap (λ (q : List ℕ). Some q) (sym c.in_ok-reversed-in-Reached.ensures))

pub returns-clause-stands : goal.returns-clause-stands
returns-clause-stands c = λ f shown. path_leads c.args.n.made.0 f c.in_ok-reversed-in-Reached.field-0 (returns-clause-path c f shown)
