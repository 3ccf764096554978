-- A body of an outlet goes, with those in it: all that is linked is built.
use Rattle.std.proofs.Common.{◌≡◌, ◌<◌, ℕ, false, List, [], Option, Some, ap, ◌∙◌, sym, subst, slice_get}
use Rattle.ng_base.specs.declared.path.Key.{Key}
use Rattle.ng_dom.specs.Document.{next_name, Holds, Becomes, Stays}
use Rattle.ng_dom.specs.Drawing.{Look, Stands, Bodies, shows, HomedAll, HeldAll, at_block_all}
use Rattle.ng_dom.specs.Editing.{changed_in, with_groups, group_removed}
use Rattle.ng_dom.specs.Nodes.{NamedForest}
use Rattle.ng_dom.specs.declared.dom.Dom.{Dom}
use Rattle.ng_behaviour.specs.Keys.{begins}
use Rattle.ng_instances.specs.Instances.{Body, OutletState, Linked, Instances, linked_at, keys_of, read_bodies, groups_from, stands_at, body_gone, unlinked}
use Rattle.ng_build.specs.Sources.{sources}
use Rattle.ng_link.specs.Standing.{IsBelow, IsPlaced, ArePlaced, IsBuilt, held_count}
use Rattle.ng_link.specs.Unlinking.{Empties}
use Rattle.ng_link.proofs.Agree.{all_agree}
use Rattle.ng_link.proofs.Blocks.{BlockAmong}
use Rattle.ng_link.proofs.BodiesAt.{bodies_cut, counted_at, gone_groups, gone_in}
use Rattle.ng_link.proofs.BodiesChanged.{bodies_changed}
use Rattle.ng_link.proofs.Held.{held_at}
use Rattle.ng_link.proofs.ReadOff.{in_held, at_path}
use Rattle.ng_link.proofs.Reached.{outlet_anchor, block_at}
use Rattle.ng_link.proofs.Removed.{removed_holds, removed_homed}
use Rattle.ng_link.proofs.Shrunk.{shrunk_ordered, shrunk_placed, shrunk_apart, shrunk_held, shrunk_read}

module _ (places same_places : Key → Option ℕ) (looks same : Key → Look) (d e g : Dom) (is : Instances) (ts : Stands) (holder p : List ℕ) (m : Linked) (o : ℕ) (x : OutletState) (i : ℕ) (c : Body)
    (b : IsBuilt places looks d is ts) (found : linked_at holder is ≡ Some m) (at : slice_get m.page.outlets o ≡ Some x) (place : slice_get x.bodies i ≡ Some c) (that : p ≡ c.path)
    (old : (q : List ℕ) (l : Linked) → linked_at q is ≡ Some l → begins p q ≡ false → (j y : ℕ) → places (keys_of l.page j) ≡ Some y → same_places (keys_of l.page j) ≡ Some y) (alike : (k : Key) (q : ℕ) → same_places k ≡ Some q → looks k ≡ same k)
    (empties : Empties x.anchor i d e) (becomes : Becomes e g (changed_in x.anchor (with_groups (group_removed i)))) (stays : Stays e g) where
  abbrev then_linked : Instances
  then_linked = unlinked holder p is

  abbrev then_stands : Stands
  then_stands = at_block_all x.anchor (bodies_cut i) ts

  abbrev bs : Bodies
  bs = groups_from (read_bodies (stands_at is) m.page.outlets) o

  placed : IsPlaced places (next_name d) holder m
  placed = at_path (λ (y : List ℕ × Linked). IsPlaced places (next_name d) y.0 y.1) holder m is b.each found

  body : 0 < held_count p m.page.outlets
  body = counted_at p m.page.outlets o x i c at place that

  child : IsBelow holder p
  child = in_held holder p m.page.outlets placed.bodies body

  block : BlockAmong x.anchor bs ts
  block = subst (λ (s : Stands). BlockAmong x.anchor bs s) (sym b.stands) (block_at places (next_name d) is b.ordered b.each b.bodies holder m o x found at)

  then_read : then_stands ≡ stands_at then_linked []
  then_read =
      ap (at_block_all x.anchor (bodies_cut i)) b.stands
      ∙ (sym (bodies_changed places (next_name d) is holder m o x.anchor (body_gone p) (bodies_cut i) b.ordered b.each b.apart found
      (outlet_anchor places (next_name d) holder m o x placed at) (gone_in p holder m.page.outlets placed.bodies)
      (gone_groups p (stands_at is) m.page.outlets o x i c at place that (placed.once p)) [])
      ∙ sym (shrunk_read holder p m is child b.ordered b.bodies found body places same_places (next_name d) b.each old))

  next : next_name d ≡ next_name g
  next = sym (stays.next ∙ empties.fewer.next)

  each : ArePlaced same_places (next_name g) then_linked
  each = subst (λ (n : ℕ). ArePlaced same_places n then_linked) next (shrunk_placed holder p m is child b.ordered b.bodies found body places same_places (next_name d) b.each old)

  homed : HomedAll (sources g) then_stands
  homed = removed_homed looks d e g ts x.anchor i bs b.holds b.homed block empties becomes stays

  held : HeldAll same_places (sources g) then_stands
  held =
      subst (λ (s : Stands). HeldAll same_places (sources g) s) (sym then_read)
      (held_at same_places (sources g) (next_name g) then_linked each [] (subst (λ (s : Stands). HomedAll (sources g) s) then_read homed))

  shown : shows looks then_stands ≡ shows same then_stands
  shown = all_agree same_places (sources g) looks same (λ k n there drawn. alike k n there) then_stands held

  pub built_less : IsBuilt same_places same g then_linked then_stands
  built_less = record {
    holds = subst (λ (f : NamedForest). Holds g f) shown (removed_holds looks d e g ts x.anchor i bs b.holds b.homed block empties becomes stays);
    stands = then_read;
    homed = homed;
    ordered = shrunk_ordered holder p m is child b.ordered b.bodies found body;
    each = each;
    apart = shrunk_apart holder p m is child b.ordered b.bodies found body b.apart;
    bodies = shrunk_held holder p m is child b.ordered b.bodies found body places same_places (next_name d) b.each old;
  }
