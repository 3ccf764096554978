use Rattle.std.proofs.Common.{◌≡◌, ◌+◌, ◌-◌, ◌∙◌, ℕ, suc, Bool, Option, List, ap, sym, subst, refl, arith, map, drop}
use Rattle.std.specs.Prelude.{option_map, IfOk}
use Rattle.ng_drawing.specs.Nodes.{nodes}
use Rattle.ng_drawing.specs.declared.origin.Content.{Content}
use Rattle.ng_drawing.specs.Template.{Uses, Part, Contents, Parts, children, no_parts, parts_from, SiteScopes, Fragment}
use Rattle.ng_parts.specs.ActsOf.{uses_of, scopes_of, acts_of}
use Rattle.ng_compose.specs.ComposedOf.{region_of, composed_of, written_part}
use Rattle.ng_drawing.specs.Moved.{moved_by, moved_attributes, composed_acts}
use Rattle.ng_drawing.specs.Composing.{Composed, Region, ◌▸◌, gives, within, template_region, content_region, entered, alone, sites_on, parts_composed, contents_composed, composed_in, given_composed, used_by, used_composed, element_composed}
use Rattle.ng_parts.specs.FragmentOf.{fragment_of}
use Rattle.ng_drawing.specs.Named.{fragment_in, fragments_at}
use Rattle.ng_compose.specs.Kept.{templates_of}
use Rattle.ng_parts.specs.Seen.{part_of, contents_of, parts_of}
use Rattle.ng_compose.proofs.ComposingTurns.{after_done, deep_is, there_is, full_is, written_is, element_is, template_is, entered_none, entered_some, enter_none, enter_some, element_same, parts_turn, parts_end, parts_over}
use Rattle.ng_compose.proofs.Largest.{largest, fragment_within, enters, weight_less}
use Rattle.ng_copies.proofs.Shifts.{part_within}
use Rattle.ng_compose.proofs.composing.+composing.Goals as goal

pub compose_parts-compose_part-requires : goal.compose_parts-compose_part-requires
compose_parts-compose_part-requires t c =
    let h = part_within part_of c.as_slice-part-items.result.now c.loop-part.part-index c.part-item.result c.loop-part-test.true c.part-item.is in
    let e = ap nodes c.as_slice-part-items.ensures in
    omega (arith, h, e, c.decreases)

pub compose_parts-loop-part-preserved : goal.compose_parts-loop-part-preserved
compose_parts-loop-part-preserved t c =
    let f = fragments_at (templates_of c.args.all.now) in
    let go = composed_in f c.args.fuel in
    let r = region_of c.args.region.now in
    let xs = c.as_slice-part-items.result.now in
    let i = c.loop-part.part-index in
    let new = composed_of c.compose_part.new.made in
    ap (λ (ps : Parts). after_done ps (parts_composed f go r (parts_from (map part_of (drop (i + 1) xs))) new)) c.in_ok-add_part.ensures
    ∙ (parts_turn f go part_of r xs i c.part-item.result (parts_of c.loop-part.done) (written_part (option_map part_of c.in_ok-more.more)) (composed_of c.loop-part.made) new c.loop-part-test.true c.part-item.is c.if-made.false c.in_ok-more.ensures
    ∙ c.loop-part.invariant)

pub compose_parts-returns-then-made : goal.compose_parts-returns-then-made
compose_parts-returns-then-made t c =
    let f = fragments_at (templates_of c.args.all.now) in
    let go = composed_in f c.args.fuel in
    let r = region_of c.args.region.now in
    sym (parts_over f go r (parts_of c.loop-part.done) (parts_from (map part_of (drop c.loop-part.part-index c.as_slice-part-items.result.now))) (composed_of c.loop-part.made) c.if-made.true)
    ∙ (c.loop-part.invariant ∙ ap (λ (ps : Parts). parts_composed f go r ps (composed_of c.args.made.now)) c.as_slice-part-items.ensures)

pub compose_parts-returns : goal.compose_parts-returns
compose_parts-returns t c =
    let f = fragments_at (templates_of c.args.all.now) in
    let go = composed_in f c.args.fuel in
    let r = region_of c.args.region.now in
    sym (parts_end f go part_of r c.as_slice-part-items.result.now c.loop-part.part-index (parts_of c.loop-part.done) (composed_of c.loop-part.made) c.loop-part-test.false)
    ∙ (c.loop-part.invariant ∙ ap (λ (ps : Parts). parts_composed f go r ps (composed_of c.args.made.now)) c.as_slice-part-items.ensures)

pub compose_element-returns : goal.compose_element-returns
compose_element-returns t c =
    let f = fragments_at (templates_of c.args.all.now) in
    let go = composed_in f c.args.fuel in
    let r = region_of c.args.region.now in
    let acts = acts_of c.args.acts.now in
    let s = scopes_of c.in_ok-scopes.scopes in
    let own : List ℕ = c.args.own.now in
    let d1 = composed_of c.open_scopes.new.made in
    let d2 = composed_of c.add_sites.new.self in
    let d3 = composed_of c.compose_inside.new.made in
    let q : Contents = contents_of c.args.contents.now in
    let k : Contents = contents_of c.in_ok-contents.contents in
    let sites = c.in_ok-add_sites.ensures ∙ ap (λ (m : SiteScopes). (sites_on r m own d1).1) c.on.ensures in
    let to : ℕ → ℕ = moved_by d2.moved in
    let owns = c.in_ok-own.ensures ∙ ap (λ ns. map (moved_by ns) own) c.as_slice.ensures.value in
    let shown = c.in_ok-attributes.ensures ∙ ap (λ ns. moved_attributes (moved_by ns) c.args.attributes.now) c.as_slice-2.ensures.value in
    let done = c.in_ok-done.ensures ∙ ap (λ ns. composed_acts (moved_by ns) acts s) c.as_slice-3.ensures.value in
    let part = c.element.ensures ∙ element_same c.in_ok-copied.field-0 c.args.name.now c.in_ok-own.own.items (map to own) (acts_of c.in_ok-done.done) (composed_acts to acts s) c.in_ok-attributes.attributes (moved_attributes to c.args.attributes.now) k c.in_ok-copied.ensures owns done shown in
    let inner = c.in_ok-inner.ensures in
    let contents = subst (λ (x : Region). (k, d3) ≡ used_composed f go acts s x (contents_composed f go x q) d2) inner c.in_ok-contents.ensures in
    ap (λ (p : Part). (alone p, d3)) part
    ∙ element_is f go r c.args.name.now own acts c.args.attributes.now (λ x. contents_composed f go x q) (composed_of c.args.made.now) s d1 d2 d3 k c.in_ok-scopes.ensures sites contents

pub enter-compose_parts-requires : goal.enter-compose_parts-requires
enter-compose_parts-requires t c =
    let e = ap nodes c.parts.ensures in
    let w = weight_less c.args.fuel (largest (templates_of c.args.all.now)) (omega (arith, c.if-fuel-eq0.false)) in
    omega (arith, e, w, c.decreases)

pub compose_inside-returns-in-Some : goal.compose_inside-returns-in-Some
compose_inside-returns-in-Some t c =
    let f = fragments_at (templates_of c.args.all.now) in
    let go = composed_in f c.args.fuel in
    let r = region_of c.args.inner.now in
    let kids = contents_composed f go r (contents_of c.args.contents.now) in
    let there = sym c.template_in.ensures ∙ ap (option_map (λ x. (uses_of x.0.now, x.1.0))) c.in-Some.is in
    let asked = template_is f go (acts_of c.args.acts.now) (scopes_of c.args.scopes) r kids (composed_of c.args.made.now) (uses_of c.in-Some.uses.now) c.in-Some.template.0 there _ refl in
    subst (λ (x : Contents × Composed). IfOk c.enter_template.result (λ k. (contents_of k, composed_of c.enter_template.new.made) ≡ x)) asked c.enter_template.ensures

pub compose_inside-returns-in-None : goal.compose_inside-returns-in-None
compose_inside-returns-in-None t c =
    let f = fragments_at (templates_of c.args.all.now) in
    let go = composed_in f c.args.fuel in
    let r = region_of c.args.inner.now in
    let kids = contents_composed f go r (contents_of c.args.contents.now) in
    let none = sym c.template_in.ensures ∙ ap (option_map (λ x. (uses_of x.0.now, x.1.0))) c.in-None.is in
    let asked = sym (ap (λ (y : Option (Uses × ℕ)). used_by f go y c.args.acts.now.slot (scopes_of c.args.scopes) r kids (composed_of c.args.made.now)) none) in
    subst (λ (x : Contents × Composed). IfOk c.compose_given.result (λ k. (contents_of k, composed_of c.compose_given.new.made) ≡ x)) asked c.compose_given.ensures

pub compose_given-returns-in-Some : goal.compose_given-returns-in-Some
compose_given-returns-in-Some t c =
    let f = fragments_at (templates_of c.args.all.now) in
    let go = composed_in f c.args.fuel in
    let r = region_of c.args.inner.now in
    let kids = contents_composed f go r (contents_of c.args.contents.now) in
    let given = sym c.given_in.ensures ∙ c.in-Some.is in
    let asked = sym (ap (λ (y : Option Content). given_composed f go r y kids (composed_of c.args.made.now)) given) in
    subst (λ (x : Contents × Composed). IfOk c.enter_content.result (λ k. (contents_of k, composed_of c.enter_content.new.made) ≡ x)) asked c.enter_content.ensures

pub compose_given-returns-in-None : goal.compose_given-returns-in-None
compose_given-returns-in-None t c =
    let f = fragments_at (templates_of c.args.all.now) in
    let go = composed_in f c.args.fuel in
    let r = region_of c.args.inner.now in
    let kids = contents_composed f go r (contents_of c.args.contents.now) in
    let given = sym c.given_in.ensures ∙ c.in-None.is in
    let asked = sym (ap (λ (y : Option Content). given_composed f go r y kids (composed_of c.args.made.now)) given) in
    subst (λ (x : Contents × Composed). IfOk c.compose_contents.result (λ k. (contents_of k, composed_of c.compose_contents.new.made) ≡ x)) asked c.compose_contents.ensures

pub enter-returns-then-fuel-eq0 : goal.enter-returns-then-fuel-eq0
enter-returns-then-fuel-eq0 t c =
    enter_none (fragments_at (templates_of c.args.all.now)) (region_of c.args.region.now) (composed_of c.args.made.now) c.args.fuel c.if-fuel-eq0.true (contents_of c.end_contents.result, composed_of c.end_contents.new.made) c.end_contents.ensures

pub enter_template-enter-requires : goal.enter_template-enter-requires
enter_template-enter-requires t c =
    let all = templates_of c.args.all.now in
    let there = sym c.fragment.ensures.fragment ∙ ap (option_map (λ f. fragment_of f.now)) c.in-Some.is in
    let small = fragment_within all c.args.template.0 0 (fragment_of c.in-Some.source.now) there in
    let less = enters all c.args.fuel (nodes (fragment_of c.in-Some.source.now).parts) small in
    let size = ap (λ (r : Region). nodes r.source.parts) c.in_ok-region-in-Some.ensures in
    omega (arith, less, size, c.decreases)

pub enter_content-enter-requires : goal.enter_content-enter-requires
enter_content-enter-requires t c =
    let all = templates_of c.args.all.now in
    let there = sym c.fragment.ensures.fragment ∙ ap (option_map (λ f. fragment_of f.now)) c.in-Some.is in
    let small = fragment_within all c.args.content.template.0 c.args.content.body (fragment_of c.in-Some.source.now) there in
    let less = enters all c.args.fuel (nodes (fragment_of c.in-Some.source.now).parts) small in
    let size = ap (λ (r : Region). nodes r.source.parts) c.in_ok-region-in-Some.ensures in
    omega (arith, less, size, c.decreases)

pub enter-returns-in_ok-parts : goal.enter-returns-in_ok-parts
enter-returns-in_ok-parts t c =
    let f = fragments_at (templates_of c.args.all.now) in
    let r = region_of c.args.region.now in
    let old = composed_of c.args.made.now in
    let k : ℕ = c.args.fuel - 1 in
    let fuel : c.args.fuel ≡ suc k = omega (arith, c.if-fuel-eq0.false) in
    let begun = composed_of c.take_moved-moved.new.self in
    let end = composed_of c.compose_parts.new.made in
    let ps : Parts = parts_of c.in_ok-parts.parts in
    let made = c.in_ok-parts.ensures
    ∙ (ap (λ (qs : Parts). parts_composed f (composed_in f k) r qs begun) c.parts.ensures ∙ ap (λ (d : Composed). parts_composed f (composed_in f k) r r.source.parts d) c.take_moved-moved.ensures.rest) in
    let last = c.put_moved.ensures ∙ ap (λ ns. record end { moved = ns }) c.take_moved-moved.ensures.moved in
    ap (λ (q : Contents). (q, composed_of c.put_moved.new.self)) c.children.ensures ∙ (ap (λ (d : Composed). (children ps, d)) last ∙ enter_some f r old c.args.fuel k fuel ps end made)

pub enter_template-returns-in-None : goal.enter_template-returns-in-None
enter_template-returns-in-None t c =
    let all = templates_of c.args.all.now in
    let f = fragments_at all in
    let s = scopes_of c.args.scopes in
    let none = sym c.fragment.ensures.fragment ∙ ap (option_map (λ g. fragment_of g.now)) c.in-None.is in
    c.end_contents.ensures
    ∙ entered_none f (composed_in f c.args.fuel) (fragment_in all c.args.template.0 0) (λ g. template_region (uses_of c.args.uses.now) g c.args.template s.outer s.own s.isolate (region_of c.args.inner.now)) (composed_of c.args.made.now) none

pub enter_template-returns-in_ok-region-in-Some : goal.enter_template-returns-in_ok-region-in-Some
enter_template-returns-in_ok-region-in-Some t c =
    let all = templates_of c.args.all.now in
    let f = fragments_at all in
    let go = composed_in f c.args.fuel in
    let s = scopes_of c.args.scopes in
    let old = composed_of c.args.made.now in
    let at : Fragment → Region = λ g. template_region (uses_of c.args.uses.now) g c.args.template s.outer s.own s.isolate (region_of c.args.inner.now) in
    let there = sym c.fragment.ensures.fragment ∙ ap (option_map (λ g. fragment_of g.now)) c.in-Some.is in
    let asked = ap (λ (x : Region). (within (go x) ▸ λ ps. gives (children ps)) old) c.in_ok-region-in-Some.ensures ∙ entered_some f go (fragment_in all c.args.template.0 0) at old (fragment_of c.in-Some.source.now) _ there refl in
    subst (λ (x : Contents × Composed). IfOk c.enter.result (λ k. (contents_of k, composed_of c.enter.new.made) ≡ x)) asked c.enter.ensures

pub enter_content-returns-in-None : goal.enter_content-returns-in-None
enter_content-returns-in-None t c =
    let all = templates_of c.args.all.now in
    let f = fragments_at all in
    let go = composed_in f c.args.fuel in
    let x = c.args.content in
    let r = region_of c.args.inner.now in
    let o = fragment_in all x.template.0 x.body in
    let none = sym c.fragment.ensures.fragment ∙ ap (option_map (λ g. fragment_of g.now)) c.in-None.is in
    c.end_contents.ensures
    ∙ (entered_none f go o (λ g. content_region g x c.in_ok-scope.scope r) (composed_of c.add_scope.new.self) none
    ∙ ap (λ (q : ℕ × Composed). entered f go o (λ g. content_region g x q.0 r) q.1) c.in_ok-scope.ensures)

pub enter_content-returns-in_ok-region-in-Some : goal.enter_content-returns-in_ok-region-in-Some
enter_content-returns-in_ok-region-in-Some t c =
    let all = templates_of c.args.all.now in
    let f = fragments_at all in
    let go = composed_in f c.args.fuel in
    let x = c.args.content in
    let r = region_of c.args.inner.now in
    let o = fragment_in all x.template.0 x.body in
    let mid = composed_of c.add_scope.new.self in
    let there = sym c.fragment.ensures.fragment ∙ ap (option_map (λ g. fragment_of g.now)) c.in-Some.is in
    let asked = ap (λ (y : Region). (within (go y) ▸ λ ps. gives (children ps)) mid) c.in_ok-region-in-Some.ensures
    ∙ (entered_some f go o (λ g. content_region g x c.in_ok-scope.scope r) mid (fragment_of c.in-Some.source.now) _ there refl
    ∙ ap (λ (q : ℕ × Composed). entered f go o (λ g. content_region g x q.0 r) q.1) c.in_ok-scope.ensures) in
    subst (λ (y : Contents × Composed). IfOk c.enter.result (λ k. (contents_of k, composed_of c.enter.new.made) ≡ y)) asked c.enter.ensures

pub write_element-returns-in_ok-compose_element : goal.write_element-returns-in_ok-compose_element
write_element-returns-in_ok-compose_element t c =
    let f = fragments_at (templates_of c.args.all.now) in
    let go = composed_in f c.args.fuel in
    let old = composed_of c.args.made.now in
    let mid = composed_of c.write_node.new.self in
    let on = ap (λ (b : Bool). (b, mid)) (sym c.if-write_node.true) ∙ c.write_node.ensures in
    written_is no_parts
    (element_composed f go (region_of c.args.region.now) c.args.name.now c.args.own.now (acts_of c.args.acts.now) c.args.attributes.now (λ q. contents_composed f go q (contents_of c.args.contents.now))) old mid
    (alone (part_of c.in_ok-compose_element.field-0), composed_of c.compose_element.new.made) on c.in_ok-compose_element.ensures

pub write_element-returns-else-write_node : goal.write_element-returns-else-write_node
write_element-returns-else-write_node t c =
    let f = fragments_at (templates_of c.args.all.now) in
    let go = composed_in f c.args.fuel in
    let old = composed_of c.args.made.now in
    let mid = composed_of c.write_node.new.self in
    full_is no_parts
    (element_composed f go (region_of c.args.region.now) c.args.name.now c.args.own.now (acts_of c.args.acts.now) c.args.attributes.now (λ q. contents_composed f go q (contents_of c.args.contents.now))) old mid
    (ap (λ (b : Bool). (b, mid)) (sym c.if-write_node.false) ∙ c.write_node.ensures)

pub place_element-returns-in_ok-deep_part : goal.place_element-returns-in_ok-deep_part
place_element-returns-in_ok-deep_part t c =
    let f = fragments_at (templates_of c.args.all.now) in
    let go = composed_in f c.args.fuel in
    let r = region_of c.args.region.now in
    let acts = acts_of c.args.acts.now in
    let made = element_composed f go r c.args.name.now c.args.own.now acts c.args.attributes.now (λ q. contents_composed f go q (contents_of c.args.contents.now)) in
    c.in_ok-deep_part.ensures ∙ deep_is r c.args.name.now acts.uses made (composed_of c.args.made.now) (sym c.is_deep.ensures ∙ c.if-is_deep.true)

pub place_element-returns-else-is_deep : goal.place_element-returns-else-is_deep
place_element-returns-else-is_deep t c =
    let f = fragments_at (templates_of c.args.all.now) in
    let go = composed_in f c.args.fuel in
    let r = region_of c.args.region.now in
    let acts = acts_of c.args.acts.now in
    let made = element_composed f go r c.args.name.now c.args.own.now acts c.args.attributes.now (λ q. contents_composed f go q (contents_of c.args.contents.now)) in
    let asked = there_is r c.args.name.now acts.uses made (composed_of c.args.made.now) (sym c.is_deep.ensures ∙ c.if-is_deep.false) in
    subst (λ (x : Parts × Composed). IfOk c.write_element.result (λ p. (written_part (option_map part_of p), composed_of c.write_element.new.made) ≡ x)) asked c.write_element.ensures
