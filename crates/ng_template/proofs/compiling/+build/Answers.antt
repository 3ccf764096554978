use Rattle.std.proofs.Common.{◌≡◌, ◌+◌, None, Some, false, cond, arith, ap, sym, subst, ◌∙◌, rules, map, drop, Ok, Err, Result}
use Rattle.std.specs.Prelude.{is_some, option_map, unwrap_or}
use Rattle.ng_base.specs.Meets.{◌>>=◌, Gives}
use Rattle.ng_drawing.specs.Template.{Part, Parts}
use Rattle.ng_markup.specs.Forest.{Node, Forest, element, forest_from}
use Rattle.ng_html.specs.Seen.{node_of, forest_of}
use Rattle.ng_html.proofs.Forests.{forest_of-items}
use Rattle.ng_template.specs.Around.{Inside, has_picks, Around, at_place, around_node}
use Rattle.ng_template.specs.AroundOf.{inside_of, blocks_of, around_of, outermost_of}
use Rattle.ng_directives.specs.Places.{first_place}
use Rattle.ng_directives.specs.Directives.{Head}
use Rattle.ng_directives.specs.Texts.{refused}
use Rattle.ng_elements.specs.Elements.{Made, Switch, opened_made, any_templates}
use Rattle.ng_template.specs.Compiles.{Outermost, begun_body, inside_made, emptied_inside, closed_made, rounds, element_made, compiled_node, compiled_forest}
use Rattle.ng_directives.specs.Free.{is_tpl_want}
use Rattle.ng_directives.specs.declared.fault.TplFault.{TplFault}
use Rattle.ng_directives.specs.declared.fault.TplKind.TheVariants.{MultiDir}
use Rattle.ng_parts.specs.declared.parts.Part as parts
use Rattle.ng_parts.specs.declared.tpl.Making.{Making}
use Rattle.ng_template.proofs.Blocks.{alone_is, wrapped_is, wrapped_wrong, gives_err}
use Rattle.ng_parts.specs.Seen.{part_of, parts_of}
use Rattle.ng_elements.specs.HeadOf.{made_of}
use Rattle.ng_template.proofs.NodeLists.{node_element, onto, compiled_list, compiled-turn, compiled-end}
use Rattle.ng_template.proofs.compiling.+build.Goals as goal

pub parts_at-loop-node-preserved : goal.parts_at-loop-node-preserved
parts_at-loop-node-preserved t c =
    ap (λ ps. onto ps (compiled_list c.args.r.now c.args.slots c.args.near (map node_of (drop (c.loop-node.node-index + 1) c.deref-node-items.result.now)) (made_of c.in_ok-part.after))) c.in_ok-push.ensures.ok
    ∙ (compiled-turn c.args.r.now c.args.slots c.args.near c.deref-node-items.result.now c.loop-node.node-index c.node-item.result (parts_of c.loop-node.parts) (made_of c.loop-node.now) (made_of c.in_ok-part.after) (part_of c.in_ok-part.part) (omega arith) c.node-item.is
    c.in_ok-part.ensures
    ∙ c.loop-node.invariant)

pub parts_at-returns : goal.parts_at-returns
parts_at-returns t c =
    ap (λ f. compiled_forest c.args.r.now c.args.slots c.args.near f (made_of c.args.made)) (forest_of-items c.args.forest.now ∙ ap (λ xs. forest_from (map node_of xs)) (sym c.deref-node-items.ensures.value))
    ∙ (sym c.loop-node.invariant
    ∙ compiled-end c.args.r.now c.args.slots c.args.near c.deref-node-items.result.now c.loop-node.node-index (parts_of c.loop-node.parts) (made_of c.loop-node.now) c.loop-node-test.false)

pub part_at-returns-in-None : goal.part_at-returns-in-None
part_at-returns-in-None t c =
    let defs = c.args.r.now in
    let o : Switch = c.args.outer in
    let m = made_of c.args.made in
    let kids : Forest = forest_of c.in-Element.kids in
    let n : Node = element c.in-Element.name c.in-Element.attrs kids in
    let is : node_of c.args.node.now ≡ n = ap node_of c.in-Element.is ∙ node_element c.in-Element.name c.in-Element.attrs c.in-Element.kids in
    let made : Inside → Switch → Made → Result (Part × Made) TplFault = λ i s k. element_made defs n c.in-Element.name c.in-Element.attrs kids i (λ u j. compiled_forest defs c.args.slots u kids j) s k in
    let a : Around = around_of c.in_ok-found-in-Element.field-0 in
    let found = ap (λ x. at_place (first_place m.places) (around_node defs c.args.slots (is_some o) x)) (sym is)
    ∙ (ap (λ p. at_place p (around_node defs c.args.slots (is_some o) (node_of c.args.node.now))) (sym c.first_of-place.ensures.first)
    ∙ (ap (λ b. at_place c.first_of-place.result.0 (around_node defs c.args.slots b (node_of c.args.node.now))) (sym c.is_some.ensures) ∙ c.in_ok-found-in-Element.ensures)) in
    let none : rounds (unwrap_or o 0) a.case a.heads ≡ None = sym c.rounds.ensures ∙ ap (option_map (λ r. (outermost_of r.0, blocks_of r.1.items))) c.in-None.is in
    let asked = ap (λ x. compiled_node defs c.args.slots o x m) is
    ∙ (alone_is (first_place m.places) (around_node defs c.args.slots (is_some o) n) made o m a found none
    ∙ ap (λ x. element_made defs x c.in-Element.name c.in-Element.attrs kids a.inside (λ u j. compiled_forest defs c.args.slots u kids j) o m) (sym is)) in
    rw asked (search rules)

pub part_at-returns-in_ok-part-in-Some : goal.part_at-returns-in_ok-part-in-Some
part_at-returns-in_ok-part-in-Some t c =
    let defs = c.args.r.now in
    let o : Switch = c.args.outer in
    let m = made_of c.args.made in
    let kids : Forest = forest_of c.in-Element.kids in
    let n : Node = element c.in-Element.name c.in-Element.attrs kids in
    let is : node_of c.args.node.now ≡ n = ap node_of c.in-Element.is ∙ node_element c.in-Element.name c.in-Element.attrs c.in-Element.kids in
    let made : Inside → Switch → Made → Result (Part × Made) TplFault = λ i s k. element_made defs n c.in-Element.name c.in-Element.attrs kids i (λ u j. compiled_forest defs c.args.slots u kids j) s k in
    let a : Around = around_of c.in_ok-found-in-Element.field-0 in
    let found = ap (λ x. at_place (first_place m.places) (around_node defs c.args.slots (is_some o) x)) (sym is)
    ∙ (ap (λ p. at_place p (around_node defs c.args.slots (is_some o) (node_of c.args.node.now))) (sym c.first_of-place.ensures.first)
    ∙ (ap (λ b. at_place c.first_of-place.result.0 (around_node defs c.args.slots b (node_of c.args.node.now))) (sym c.is_some.ensures) ∙ c.in_ok-found-in-Element.ensures)) in
    let around : Outermost = outermost_of c.in-Some.outermost in
    let some : rounds (unwrap_or o 0) a.case a.heads ≡ Some (around, blocks_of c.in-Some.others.items)
    = sym c.rounds.ensures ∙ ap (option_map (λ r. (outermost_of r.0, blocks_of r.1.items))) c.in-Some.is in
    let inner : element_made defs (node_of c.args.node.now) c.in-Element.name c.in-Element.attrs kids a.inside (λ u j. compiled_forest defs c.args.slots u kids j) None (made_of c.begun_body-body.result) ≡ Ok (part_of c.in_ok-part-in-Some.part, made_of c.in_ok-part-in-Some.after)
    = search rules in
    let begun = ap (λ x. element_made defs x c.in-Element.name c.in-Element.attrs kids a.inside (λ u j. compiled_forest defs c.args.slots u kids j) None (begun_body m)) (sym is)
    ∙ (ap (λ k. element_made defs (node_of c.args.node.now) c.in-Element.name c.in-Element.attrs kids a.inside (λ u j. compiled_forest defs c.args.slots u kids j) None k) (sym c.begun_body-body.ensures) ∙ inner) in
    let asked = ap (λ x. compiled_node defs c.args.slots o x m) is
    ∙ wrapped_is (first_place m.places) (around_node defs c.args.slots (is_some o) n) made o m a found around (blocks_of c.in-Some.others.items) (part_of c.in_ok-part-in-Some.part, made_of c.in_ok-part-in-Some.after) some begun in
    subst (λ r. Gives is_tpl_want (λ (q : parts.Part × Making). (part_of q.0, made_of q.1)) r c.wrap.result) (sym asked) c.wrap.ensures

pub part_at-returns-in_err-part-in-Some : goal.part_at-returns-in_err-part-in-Some
part_at-returns-in_err-part-in-Some t c =
    let defs = c.args.r.now in
    let o : Switch = c.args.outer in
    let m = made_of c.args.made in
    let kids : Forest = forest_of c.in-Element.kids in
    let n : Node = element c.in-Element.name c.in-Element.attrs kids in
    let is : node_of c.args.node.now ≡ n = ap node_of c.in-Element.is ∙ node_element c.in-Element.name c.in-Element.attrs c.in-Element.kids in
    let made : Inside → Switch → Made → Result (Part × Made) TplFault = λ i s k. element_made defs n c.in-Element.name c.in-Element.attrs kids i (λ u j. compiled_forest defs c.args.slots u kids j) s k in
    let a : Around = around_of c.in_ok-found-in-Element.field-0 in
    let found = ap (λ x. at_place (first_place m.places) (around_node defs c.args.slots (is_some o) x)) (sym is)
    ∙ (ap (λ p. at_place p (around_node defs c.args.slots (is_some o) (node_of c.args.node.now))) (sym c.first_of-place.ensures.first)
    ∙ (ap (λ b. at_place c.first_of-place.result.0 (around_node defs c.args.slots b (node_of c.args.node.now))) (sym c.is_some.ensures) ∙ c.in_ok-found-in-Element.ensures)) in
    let around : Outermost = outermost_of c.in-Some.outermost in
    let some : rounds (unwrap_or o 0) a.case a.heads ≡ Some (around, blocks_of c.in-Some.others.items)
    = sym c.rounds.ensures ∙ ap (option_map (λ r. (outermost_of r.0, blocks_of r.1.items))) c.in-Some.is in
    let e : TplFault = c.in_err-part-in-Some.field-0.0 in
    gives_err (λ (q : parts.Part × Making). (part_of q.0, made_of q.1)) (compiled_node defs c.args.slots o (node_of c.args.node.now) m) c.from_residual-in_err-part-in-Some.result e c.from_residual-in_err-part-in-Some.ensures.1
    (λ (free : is_tpl_want e ≡ false).
    let inner : element_made defs (node_of c.args.node.now) c.in-Element.name c.in-Element.attrs kids a.inside (λ u j. compiled_forest defs c.args.slots u kids j) None (made_of c.begun_body-body.result) ≡ Err e
    = search (rules, c.in_err-part-in-Some.ensures free) in
    let begun = ap (λ x. element_made defs x c.in-Element.name c.in-Element.attrs kids a.inside (λ u j. compiled_forest defs c.args.slots u kids j) None (begun_body m)) (sym is)
    ∙ (ap (λ k. element_made defs (node_of c.args.node.now) c.in-Element.name c.in-Element.attrs kids a.inside (λ u j. compiled_forest defs c.args.slots u kids j) None k) (sym c.begun_body-body.ensures) ∙ inner) in
    ap (λ x. compiled_node defs c.args.slots o x m) is
    ∙ wrapped_wrong (first_place m.places) (around_node defs c.args.slots (is_some o) n) made o m a found around (blocks_of c.in-Some.others.items) e some begun)

pub element_at-returns-in_ok-e-in-Picks : goal.element_at-returns-in_ok-e-in-Picks
element_at-returns-in_ok-e-in-Picks t c =
    let defs = c.args.r.now in
    let kids : Forest = forest_of c.args.kids.now in
    let m = made_of c.args.made in
    let go : Switch → Made → Result (Parts × Made) TplFault = λ u j. compiled_forest defs c.args.slots u kids j in
    let made : Inside → Result (Part × Made) TplFault = λ i. element_made defs (node_of c.args.node.now) c.args.name.now c.args.attrs.now kids i go c.args.outer m in
    let asked = ap (λ i. made (inside_of i)) c.in-Picks.is
    ∙ (ap (λ ps. made (has_picks ps)) (sym c.as_slice.ensures.value)
    ∙ ap (λ (r : Result (Head × Made) TplFault). r >>= λ o. closed_made c.args.name.now (inside_made defs kids go c.args.outer o.0 o.1)) c.in_ok-e-in-Picks.ensures) in
    subst (λ r. Gives is_tpl_want (λ (q : parts.Part × Making). (part_of q.0, made_of q.1)) r c.filled_with.result) (sym asked) c.filled_with.ensures

pub emptied_at-returns : goal.emptied_at-returns
emptied_at-returns t c =
    let defs = c.args.r.now in
    let kids : Forest = forest_of c.args.kids.now in
    let m = made_of c.args.made in
    let go : Switch → Made → Result (Parts × Made) TplFault = λ u j. compiled_forest defs c.args.slots u kids j in
    let after : Result (Head × Made) TplFault → Result (Part × Made) TplFault = λ r. r >>= λ o. closed_made c.args.name.now (emptied_inside defs kids go o.0 o.1) in
    let none : any_templates defs c.args.picked.items ≡ false = ap (any_templates defs) (sym c.as_slice.ensures.value) ∙ sym c.if-any_templates.ensures in
    let asked = ap (λ b. cond b (Err (refused MultiDir (first_place m.places))) (after (opened_made defs c.args.name.now c.args.picked.items c.args.attrs.now m))) none
    ∙ (ap (λ ps. after (opened_made defs c.args.name.now ps c.args.attrs.now m)) (sym c.as_slice-2.ensures.value)
    ∙ ap after c.in_ok-e.ensures) in
    subst (λ r. Gives is_tpl_want (λ (q : parts.Part × Making). (part_of q.0, made_of q.1)) r c.emptied_with.result) (sym asked) c.emptied_with.ensures
