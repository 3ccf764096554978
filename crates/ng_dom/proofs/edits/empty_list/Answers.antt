use Rattle.std.proofs.Common.{rules, ap, ◌∙◌}
use Rattle.ng_dom.proofs.Places.{list-past, list-or, emptied_set, emptied_past}
use Rattle.ng_dom.proofs.edits.empty_list.Goals as goal

pub returns-then-i-len-clause-list : goal.returns-then-i-len-clause-list
returns-then-i-len-clause-list c =
    ap (λ g. g.items) c.replace.ensures.value
    ∙ (ap (λ g. g.items) c.index_mut.ensures.value ∙ list-or (λ g. g.items) c.args.i c.args.groups.now.items c.index_mut.result.now (search rules))

pub returns-then-i-len-clause-lists : goal.returns-then-i-len-clause-lists
returns-then-i-len-clause-lists c =
    emptied_set (λ g. g.items) c.args.i c.replace.new.dest c.args.groups.now.items (search rules) (ap (λ g. g.items) c.replace.ensures.after ∙ c.new.ensures.items)

pub returns-else-i-len-clause-list : goal.returns-else-i-len-clause-list
returns-else-i-len-clause-list c = c.new-else-i-len.ensures.items ∙ list-past (λ g. g.items) c.args.i c.args.groups.now.items (search rules)

pub returns-else-i-len-clause-lists : goal.returns-else-i-len-clause-lists
returns-else-i-len-clause-lists c = emptied_past (λ g. g.items) c.args.i c.args.groups.now.items (search rules)
