-- How many nodes are live: that depends on what is linked alone.
use Rattle.std.proofs.Common.{◌≡◌, ◌∙◌, ◌+◌, ℕ, zero, suc, Bool, true, false, cond, List, [], ◌∷◌, map, refl, ap, sym, arith}
use Rattle.std.specs.Prelude.{slice_index_or}
use Rattle.ng_drawing.specs.Drawing.{followed_by}
use Rattle.ng_drawing.specs.Instance.{Instance, instances_from, outlets_from, seen_in, shown, shown_all, shown_in}
use Rattle.ng_drawing.proofs.Counted.{drawn_nodes}
use Rattle.ng_drawing.specs.Nodes.{forest_count, nodes, part_filled, content_filled, filled}
use Rattle.ng_drawing.specs.Template.{Part, Contents, Parts, text_part, comment_part, element_part, anchor_part, children, bound, no_parts, part_then}
use Rattle.ng_markup.specs.Forest.{Forest, no_nodes, node}
use Rattle.ng_build.specs.Controls.{Controls}
use Rattle.ng_instances.specs.Instances.{Body, OutletState, Linked, Instances, is_path, read_bodies}
use Rattle.ng_link.specs.State.{State, Resting, groups_in, instance_at, instance_join, site_states, live_nodes}
use Rattle.ng_watch.specs.Table.{Table}

followed_count : (f g : Forest) → forest_count (followed_by f g) ≡ forest_count f + forest_count g
followed_count no_nodes g = omega arith
followed_count (node n f) g = let h = followed_count f g in omega (arith, h)

-- parts are filled alike where each outlet is
module _ (f g : ℕ → ℕ) (same : (o : ℕ) → f o ≡ g o) where
  mutual
    alike_part : (p : Part) → part_filled f p ≡ part_filled g p
    alike_part (text_part pieces) = refl
    alike_part (comment_part t) = refl
    alike_part (element_part name own acts attributes contents) = alike_contents contents
    alike_part (anchor_part outlet own starts) = same outlet

    alike_contents : (c : Contents) → content_filled f c ≡ content_filled g c
    alike_contents (children ps) = alike_filled ps
    alike_contents (bound n) = refl

    alike_filled : (ps : Parts) → filled f ps ≡ filled g ps
    alike_filled no_parts = refl
    alike_filled (part_then p ps) = let h = alike_part p in let k = alike_filled ps in omega (arith, h, k)

-- instances have as many nodes where their bodies have
module _ (go to : List ℕ → Instance) (same : (q : List ℕ) → forest_count (shown (go q)) ≡ forest_count (shown (to q))) where
  bodies_alike : (bs : List Body) → forest_count (shown_all (instances_from (map (λ (b : Body). go b.path) bs))) ≡ forest_count (shown_all (instances_from (map (λ (b : Body). to b.path) bs)))
  bodies_alike [] = refl
  bodies_alike (b ∷ bs) =
      let h = same b.path in
      let k = bodies_alike bs in
      followed_count (shown (go b.path)) (shown_all (instances_from (map (λ (x : Body). go x.path) bs)))
      ∙ (omega (arith, h, k) ∙ sym (followed_count (shown (to b.path)) (shown_all (instances_from (map (λ (x : Body). to x.path) bs)))))

  abbrev group : (List ℕ → Instance) → List OutletState → ℕ → Forest
  group by os o = slice_index_or (shown_in (outlets_from (groups_in os (map instances_from (read_bodies by os))))) o no_nodes

  groups_alike : (os : List OutletState) (o : ℕ) → forest_count (group go os o) ≡ forest_count (group to os o)
  groups_alike [] o = refl
  groups_alike (x ∷ os) zero = bodies_alike x.bodies
  groups_alike (x ∷ os) (suc o) = groups_alike os o

  join_alike : (t t' : Table) (r r' : Resting) (c c' : Controls) (l : Linked) → forest_count (shown (instance_join t r c l (read_bodies go l.page.outlets))) ≡ forest_count (shown (instance_join t' r' c' l (read_bodies to l.page.outlets)))
  join_alike t t' r r' c c' l =
      drawn_nodes (seen_in (site_states t r c l.page)) (group go l.page.outlets) l.fragment.parts
      ∙ (ap (λ (n : ℕ). nodes l.fragment.parts + n) (alike_filled (λ o. forest_count (group go l.page.outlets o)) (λ o. forest_count (group to l.page.outlets o)) (groups_alike l.page.outlets) l.fragment.parts)
      ∙ sym (drawn_nodes (seen_in (site_states t' r' c' l.page)) (group to l.page.outlets) l.fragment.parts))

pub instances_alike : (t t' : Table) (r r' : Resting) (c c' : Controls) (is : Instances) (p : List ℕ) → forest_count (shown (instance_at t r c is p)) ≡ forest_count (shown (instance_at t' r' c' is p))
instances_alike t t' r r' c c' [] p = refl
instances_alike t t' r r' c c' (e ∷ es) p = by_test (is_path p e.0) (instances_alike t t' r r' c c' es)
  where
    go : List ℕ → Instance
    go = instance_at t r c es

    to : List ℕ → Instance
    to = instance_at t' r' c' es

    by_test : (b : Bool) → ((q : List ℕ) → forest_count (shown (go q)) ≡ forest_count (shown (to q))) → forest_count (shown (cond b (instance_join t r c e.1 (read_bodies go e.1.page.outlets)) (go p))) ≡ forest_count (shown (cond b (instance_join t' r' c' e.1 (read_bodies to e.1.page.outlets)) (to p)))
    by_test true more = join_alike go to more t t' r r' c c' e.1
    by_test false more = more p

pub live_nodes_same : (s t : State) → s.instances ≡ t.instances → live_nodes s ≡ live_nodes t
live_nodes_same s t e =
    instances_alike s.watchers t.watchers s.resting t.resting s.controls t.controls s.instances []
    ∙ ap (λ (is : Instances). forest_count (shown (instance_at t.watchers t.resting t.controls is []))) e
