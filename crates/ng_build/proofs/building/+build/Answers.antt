use Rattle.std.proofs.Common.{arith, refl, ap, sym, subst, ◌∙◌, ◌≡◌, ◌++◌, ◌∷◌, [], List, ℕ, map, take, drop, suc, ◌+◌, append_assoc}
use Rattle.std.proofs.lemmas.List.{map_more}
use Rattle.ng_dom.specs.Document.{next_name}
use Rattle.ng_dom.specs.Drawing.{shows}
use Rattle.ng_dom.specs.Nodes.{names_of}
use Rattle.ng_drawing.specs.Nodes.{nodes}
use Rattle.ng_drawing.specs.Template.{Part, Contents, parts_from}
use Rattle.ng_parts.specs.ActsOf.{acts_of}
use Rattle.ng_drawing.specs.Numbering.{bound_numbers}
use Rattle.ng_parts.specs.Seen.{part_of, contents_of}
use Rattle.ng_build.specs.Building.{unset, parent_name, Builds}
use Rattle.ng_build.specs.Shape.{keys_by, linked_values, content_shape, shape, unfilled, own_node, part_holes, content_holes, holes}
use Rattle.ng_build.proofs.Built.{element_whole, builds_then, names_then}
use Rattle.ng_build.proofs.Loops.{split_at, there_still, room_for, part_within}
use Rattle.ng_build.proofs.Shapes.{holes-push}
use Rattle.ng_build.proofs.building.+build.Goals as goal

pub build_whole-returns-clause-builds : goal.build_whole-returns-clause-builds
build_whole-returns-clause-builds t c =
    let d = c.args.dom.now in
    let e = c.build_element.new.dom in
    let keys = keys_by c.args.keys.now in
    let q : Contents = contents_of c.args.contents.now in
    let kids = c.in_ok-kids.ensures.builds in
    let becomes = c.fill.ensures.reads (shows unset (content_shape keys (next_name e) unfilled q)) (sym c.in_ok-kids.ensures.names) kids.reads in
    element_whole (parent_name c.args.parent) keys c.in_ok-n.n.made.0 c.args.name.now (linked_values keys c.args.attributes.now) q d e c.build_contents.new.dom c.fill.new.self
    c.in_ok-n.ensures.name c.in_ok-n.ensures.builds kids becomes c.fill.ensures.stays

pub build_whole-returns-clause-holes : goal.build_whole-returns-clause-holes
build_whole-returns-clause-holes t c =
    let m = next_name c.args.dom.now in
    let e = c.build_element.new.dom in
    let n = c.in_ok-n.n.made.0 in
    let q : Contents = contents_of c.args.contents.now in
    let before : List ℕ = c.args.spots.now.items in
    let bounds : ℕ → List ℕ = λ k. map (λ (_ : ℕ). k) (bound_numbers (acts_of c.args.acts.now)) in
    let inside : ℕ → ℕ → List ℕ = λ k j. map (own_node k q) c.args.own.now ++ content_holes j q in
    let next : next_name e ≡ m + 1 = c.in_ok-n.ensures.builds.next in
    c.in_ok-kids.ensures.holes
    ∙ (ap (λ (ns : List ℕ). ns ++ inside n (next_name e)) c.in_ok-note_uses.ensures
    ∙ (append_assoc before (bounds n) (inside n (next_name e))
    ∙ (ap (λ (k : ℕ). before ++ (bounds k ++ inside k (next_name e))) c.in_ok-n.ensures.name
    ∙ ap (λ (j : ℕ). before ++ (bounds m ++ inside m j)) next)))

pub build_parts-build_part-requires : goal.build_parts-build_part-requires
build_parts-build_part-requires t c =
    let xs = c.args.parts.now in
    let i = c.loop-part.part-index in
    let x = c.part-item.result in
    let inv = c.loop-part.invariant in
    let h = part_within part_of xs i x c.loop-part-test.true c.part-item.is in
    let split = split_at part_of xs i x c.loop-part-test.true c.part-item.is in
    let whole = ap (λ (ps : List Part). nodes (parts_from ps)) split in
    let room = room_for (map part_of (take i xs)) (part_of x) (map part_of (drop (suc i) xs)) in
    let live = inv.builds.live in
    let there = there_still c.args.dom.now c.loop-part.dom c.args.parent c.requires.there inv.builds.homes in
    (omega (arith, h, c.decreases), (there, omega (arith, live, room, whole, c.requires.room)))

pub build_parts-loop-part-preserved : goal.build_parts-loop-part-preserved
build_parts-loop-part-preserved t c =
    let xs = c.args.parts.now in
    let i = c.loop-part.part-index in
    let x = c.part-item.result in
    let q = part_of x in
    let keys = keys_by c.args.keys.now in
    let m = next_name c.args.dom.now in
    let k = next_name c.loop-part.dom in
    let ps : List Part = map part_of (take i xs) in
    let inv = c.loop-part.invariant in
    let more : map part_of (take (i + 1) xs) ≡ ps ++ q ∷ [] = map_more part_of xs i x c.loop-part-test.true ∙ ap (λ y. ps ++ part_of y ∷ []) (sym c.part-item.is) in
    let after : k ≡ m + nodes (parts_from ps) = inv.builds.next in
    let P : List Part → Type 0 = λ qs. Builds (parent_name c.args.parent) (shape keys m unfilled (parts_from qs)) (nodes (parts_from qs)) c.args.dom.now c.build_part.new.dom in
    record {
      names = c.in_ok-push.ensures.ok
          ∙ (ap (λ (ns : List ℕ). ns ++ c.in_ok-n.n.made.0 ∷ []) inv.names
          ∙ (ap (λ (n : ℕ). names_of (shows unset (shape keys m unfilled (parts_from ps))) ++ n ∷ []) c.in_ok-n.ensures.name
          ∙ (sym (names_then keys m k ps q after)
          ∙ ap (λ (qs : List Part). names_of (shows unset (shape keys m unfilled (parts_from qs)))) (sym more))));
      builds = subst P (sym more) (builds_then (parent_name c.args.parent) keys m ps q c.args.dom.now c.loop-part.dom c.build_part.new.dom refl inv.builds c.in_ok-n.ensures.builds);
      holes = c.in_ok-n.ensures.holes
          ∙ (ap (λ (ns : List ℕ). ns ++ part_holes k q) inv.holes
          ∙ (append_assoc c.args.spots.now.items (holes m (parts_from ps)) (part_holes k q)
          ∙ ap (λ (ns : List ℕ). c.args.spots.now.items ++ ns) (sym (holes-push m k ps q after) ∙ ap (λ (qs : List Part). holes m (parts_from qs)) (sym more))));
    }
