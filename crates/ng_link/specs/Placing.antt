-- What is known of an instance whose nodes were made and whose sites are watched, before it is noted.
use Rattle.std.specs.Prelude.{ℕ, ◌≡◌, ◌<◌, false, [], ◌∷◌, Option, Some, None, drop, length, slice_get}
use Rattle.std.specs.List.{AllByRecursion}
use Rattle.std.specs.List.Sorted.{IsStrictlySortedBy}
use Rattle.std.specs.Ordering.{nat_cmp}
use Rattle.ng_behaviour.specs.Scopes.{path_at}
use Rattle.ng_dom.specs.Document.{next_name}
use Rattle.ng_drawing.specs.Nodes.{nodes}
use Rattle.ng_drawing.specs.Template.{Fragment}
use Rattle.ng_drawing.specs.declared.origin.Origin.{Origin}
use Rattle.ng_drawing.specs.Numbering.{after_parts, after_outlets}
use Rattle.ng_build.specs.Building.{IsStood}
use Rattle.ng_instances.specs.Bindings.{Bound, bound_in_table, BoundStands}
use Rattle.ng_link.specs.Calls.{page_on, linked_on}
use Rattle.ng_instances.specs.Rows.{with_sites, spots_by}
use Rattle.ng_instances.specs.Instances.{keys_of}
use Rattle.ng_build.specs.Linking.{is_bound_site, steps, site_count, fault_in}
use Rattle.ng_instances.specs.Registering.{Registered, kept_of, site_rows}
use Rattle.ng_build.specs.Shape.{shape, unfilled, holes}
use Rattle.ng_link.specs.Standing.{IsBelow, AreUndrawn}
use Rattle.ng_instances.specs.InstanceOf.{linked_of}
use Rattle.ng_link.specs.State.{State, state_of, templates_of}
use Rattle.ng_instances.specs.declared.instances.Linked as code
use Rattle.ng_link.specs.declared.works.Works.{Works}

-- A fragment was linked on a scope: its sites and outlets are numbered in document order, it is known in which node each
-- site is drawn, its sites are watched, and its nodes stand at the top, or in a group of an anchor.
pub record IsPrepared (which : Origin) (scope : ℕ) (r : Registered) (f : Fragment) (spot : Option ℕ × ℕ) (old new : Works) (one : code.Linked) : Type 0 where
  pub numbered : after_parts 0 f.parts ≡ Some (length f.sites)
  pub outlined : after_outlets 0 f.parts ≡ Some (length f.outlets)
  pub made : linked_of (templates_of old) (path_at (state_of old).core.scopes scope) one ≡ linked_on (state_of old).core.scopes which scope f r (next_name old.dom)
  pub spots : one.spots.entries ≡ spots_by r.serials (holes (next_name old.dom) f.parts) []
  pub undrawn : AreUndrawn r.serials f.parts (linked_on (state_of old).core.scopes which scope f r (next_name old.dom)).page.outlets
  pub rows : (state_of new).watchers ≡ with_sites (site_rows (state_of old).core.scopes f r) f.sites (state_of old).watchers
  pub stood : IsStood spot.0 spot.1 (shape (keys_of (page_on (state_of old).core.scopes which scope f r (next_name old.dom))) (next_name old.dom) unfilled f.parts) (nodes f.parts) old.dom new.dom

-- The numbers of registration rise, and are below the next; there is one for each site, since all steps were done. Of the scopes of the instance the first is its own, and the
-- others are below it; all are there. What the sites of bindings write goes to scopes that are there; of the other sites there is no such note, and they
-- have kept nothing.
pub record IsRegistered (f : Fragment) (scope : ℕ) (r : Registered) (s : State) : Type 0 where
  pub rising : IsStrictlySortedBy nat_cmp r.serials
  pub below : AllByRecursion (λ n. n < s.core.serial) r.serials
  pub count : length r.serials ≡ site_count (steps f.parts)
  pub ended : (room : ℕ) × (fault_in room (steps f.parts) ≡ None)
  pub scopes : AllByRecursion (λ n. n < length s.core.scopes) r.at_hand.scopes
  pub outsides : AllByRecursion (λ n. n < length s.core.scopes) r.at_hand.outsides
  pub own : r.at_hand.scopes ≡ scope ∷ drop 1 r.at_hand.scopes
  pub within : AllByRecursion (λ n. IsBelow (path_at s.core.scopes scope) (path_at s.core.scopes n)) (drop 1 r.at_hand.scopes)
  pub bounds : AllByRecursion (λ (e : ℕ × Bound). BoundStands (length s.core.scopes) e.1) r.bounds
  pub drawn : (i n : ℕ) → slice_get r.serials i ≡ Some n → is_bound_site (steps f.parts) i ≡ false → (bound_in_table n r.bounds ≡ None) × (kept_of (slice_get r.kept i) ≡ None)
