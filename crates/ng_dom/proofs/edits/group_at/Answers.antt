use Rattle.std.proofs.Common.{◌≡◌, map, ap, ◌∙◌}
use Rattle.std.proofs.lemmas.Result.{IfOk-weaker}
use Rattle.ng_dom.specs.Lists.{list_at}
use Rattle.ng_dom.proofs.Places.{list-past, list-or}
use Rattle.ng_dom.proofs.edits.group_at.Goals as goal

pub returns-in-None : goal.returns-in-None
returns-in-None c = c.new.ensures.items ∙ list-past (λ g. g.items) c.args.i c.args.groups.now c.in-None.ensures.lookup.3

pub returns-in-Some : goal.returns-in-Some
returns-in-Some c =
    let h = c.in-Some.ensures.lookup in
    let e = ap (λ g. g.items) h.1 ∙ list-or (λ g. g.items) c.args.i c.args.groups.now c.in-Some.group.now h.3.0 in
    IfOk-weaker c.copied.result (λ g. g.items ≡ c.in-Some.group.now.items) (λ g. g.items ≡ list_at c.args.i (map (λ g. g.items) c.args.groups.now)) (λ g is. is ∙ e) c.copied.ensures
