-- The anchor of an outlet is live.
use Rattle.std.proofs.Common.{◌≡◌, ℕ, List, [], Option, Some, None, refl, ap, ◌∙◌, sym, subst, slice_get}
use Rattle.std.specs.Prelude.{IsSome}
use Rattle.ng_base.specs.declared.name.NodeId.{NodeId}
use Rattle.ng_dom.specs.Document.{rooms, next_name, IsLive}
use Rattle.ng_dom.specs.Drawing.{Stands, Bodies, shows}
use Rattle.ng_dom.specs.Rooms.{Room, ReadsIn}
use Rattle.ng_build.specs.Building.{parent_name, IsThere}
use Rattle.ng_instances.specs.Changing.{Place, at_top, in_outlet}
use Rattle.ng_instances.specs.Instances.{OutletState, Linked, Instances, linked_at, read_bodies, groups_from, stands_at}
use Rattle.ng_instances.specs.PlaceOf.{outlet_of_linked, spot_from, spot_for}
use Rattle.ng_link.specs.FreePlace.{IsFree}
use Rattle.ng_link.specs.Standing.{Standing}
use Rattle.ng_link.specs.State.{looks_in, places_of, state_of}
use Rattle.ng_link.specs.declared.works.Works.{Works}
use Rattle.ng_link.proofs.Blocks.{anchor_at}
use Rattle.ng_link.proofs.Links.{outlet_found}
use Rattle.ng_link.proofs.Reached.{block_at}

pub outlet_lives : (w : Works) (ts : Stands) → Standing w ts → (holder : List ℕ) (m : Linked) (o : ℕ) (x : OutletState) → linked_at holder (state_of w).instances ≡ Some m → slice_get m.page.outlets o ≡ Some x → IsLive w.dom x.anchor
outlet_lives w ts g holder m o x found at =
    let is : Instances = (state_of w).instances in
    let bs : Bodies = groups_from (read_bodies (stands_at is) m.page.outlets) o in
    let reads : ReadsIn (rooms w.dom) None (shows (looks_in (state_of w)) (stands_at is [])) = subst (λ (s : Stands). ReadsIn (rooms w.dom) None (shows (looks_in (state_of w)) s)) g.built.stands g.built.holds.shows.1 in
    let anchor =
    anchor_at x.anchor bs (rooms w.dom) (looks_in (state_of w)) (stands_at is [])
    (block_at (places_of w) (next_name w.dom) is g.built.ordered g.built.each g.built.bodies holder m o x found at) None reads in
    subst (λ (r : Option Room). IsSome r) (sym anchor.there) refl

-- nodes are built for the top, or for a live node
pub spot_lives : (w : Works) (ts : Stands) → Standing w ts → (place : Place) (path : List ℕ) → IsFree place path (state_of w) → (parent : Option NodeId) → parent_name parent ≡ (spot_for place (state_of w).instances).0
    → IsThere w.dom parent
spot_lives w ts g place path is_free None e = tt
spot_lives w ts g at_top path is_free (Some a) e = absurd (cc)
spot_lives w ts g (in_outlet holder o i role) path is_free (Some a) e =
    let there = outlet_found o (linked_at holder (state_of w).instances) is_free.0 in
    let spot : outlet_of_linked o (linked_at holder (state_of w).instances) ≡ Some there.1 = ap (outlet_of_linked o) there.2 ∙ there.3 in
    let name : Some a.made.0 ≡ Some there.1.anchor = e ∙ ap (λ (x : Option OutletState). (spot_from i x).0) spot in
    let same : a.made.0 ≡ there.1.anchor = cc in
    subst (λ (n : ℕ). IsLive w.dom n) (sym same) (outlet_lives w ts g holder there.0 o there.1 there.2 there.3)
