-- The steps of a linking, one after the other.
use Rattle.std.proofs.Common.{◌≡◌, ◌∙◌, ◌<◌, ◌≤◌, ◌-◌, ℕ, zero, suc, Bool, true, false, List, [], ◌∷◌, ◌++◌, Option, Some, None, refl, ap, drop, sym, subst, length, map}
use Rattle.std.specs.List.{AllByRecursion, list_any}
use Rattle.std.specs.Prelude.{◌||◌, Ok}
use Rattle.ng_base.specs.declared.fault.Fault.{Fault}
use Rattle.ng_base.specs.declared.name.ScopeId.{ScopeId}
use Rattle.ng_drawing.specs.Nodes.{node_limit}
use Rattle.ng_drawing.specs.Template.{Site, Fragment}
use Rattle.ng_drawing.specs.declared.origin.Origin.{Origin}
use Rattle.ng_steps.proofs.LiveNodes.{live_nodes_same}
use Rattle.ng_steps.proofs.Registered.{linking_registered}
use Rattle.ng_steps.proofs.Rooms.{all_within, room_found}
use Rattle.ng_steps.proofs.Underway.{IsUnderway, linking_underway}
use Rattle.ng_steps.specs.Links.{Linking, begins_linking, ended_by, ended_link, first_of, link_at, step_linked, steps_linked, unless_faulted}
use Rattle.ng_steps.specs.LinkingOf.{AreBelow, HasPrograms, IsGround}
use Rattle.ng_build.specs.Linking.{LinkStep, makes, stops, opens, binds, installs, starts, starts_at, registers, leaves, fault_in, is_binds, steps, steps_within}
use Rattle.ng_link.specs.Placing.{IsRegistered}
use Rattle.ng_instances.specs.Changing.{Place}
use Rattle.ng_instances.specs.Registering.{Ground}
use Rattle.ng_build.specs.Shape.{linked}
use Rattle.ng_link.specs.State.{State, live_nodes}
use Rattle.ng_instances.specs.declared.linking.Order.{Order}
use Rattle.ng_parse.specs.ProgramOf.{program}

-- behind a fault no step is done
pub faulted_steps : (f : Fragment) (xs : List LinkStep) (g : Linking) (e : Fault) → g.fault ≡ Some e → steps_linked f xs g ≡ g
faulted_steps f [] g e at = refl
faulted_steps f (x ∷ xs) g e at = ap (λ (o : Option Fault). unless_faulted o (steps_linked f xs (step_linked f x g)) g) at

pub step_more : (f : Fragment) (x : LinkStep) (xs : List LinkStep) (g h : Linking) → h ≡ unless_faulted g.fault (step_linked f x g) g → steps_linked f xs h ≡ steps_linked f (x ∷ xs) g
step_more f x xs g h one = ap (steps_linked f xs) one ∙ by g.fault refl
  where
    by : (o : Option Fault) → g.fault ≡ o → steps_linked f xs (unless_faulted o (step_linked f x g) g) ≡ unless_faulted o (steps_linked f xs (step_linked f x g)) g
    by None e = refl
    by (Some q) e = faulted_steps f xs g q e

-- ---- the programs that bindings need

abbrev Programs : Fragment → Order → Type 0
Programs f o = map program o.programs.items ≡ map (λ (x : Site). x.program) f.sites

one_has : (f : Fragment) (o : Order) (x : LinkStep) → (is_binds x ≡ true → Programs f o) → HasPrograms f o x
one_has f o makes h = tt
one_has f o stops h = tt
one_has f o (opens x) h = tt
one_has f o (binds b i v) h = h refl
one_has f o (installs d s) h = tt
one_has f o (starts s p) h = tt
one_has f o (starts_at n p) h = tt
one_has f o registers h = tt
one_has f o (leaves d s) h = tt

first_or : (b c : Bool) → b ≡ true → (b || c) ≡ true
first_or true c e = refl
first_or false c e = absurd (cc)

rest_or : (b c : Bool) → c ≡ true → (b || c) ≡ true
rest_or true c e = refl
rest_or false c e = e

pub each_has : (f : Fragment) (o : Order) (xs : List LinkStep) → (list_any is_binds xs ≡ true → Programs f o) → AllByRecursion (HasPrograms f o) xs
each_has f o [] h = tt
each_has f o (x ∷ xs) h = (
  one_has f o x (λ e. h (first_or (is_binds x) (list_any is_binds xs) e)),
  each_has f o xs (λ e. h (rest_or (is_binds x) (list_any is_binds xs) e)),
)

-- what holds of all steps holds of the first ones
pub within_all : (P : LinkStep → Type 0) (room : ℕ) (xs : List LinkStep) → AllByRecursion P xs → AllByRecursion P (steps_within room xs)
within_all P zero [] h = tt
within_all P (suc room) [] h = tt
within_all P zero (makes ∷ xs) h = tt
within_all P (suc room) (makes ∷ xs) h = (h.0, within_all P room xs h.1)
within_all P zero (stops ∷ xs) h = tt
within_all P (suc room) (stops ∷ xs) h = tt
within_all P zero (opens o ∷ xs) h = (h.0, within_all P zero xs h.1)
within_all P (suc room) (opens o ∷ xs) h = (h.0, within_all P (suc room) xs h.1)
within_all P zero (binds b i o ∷ xs) h = (h.0, within_all P zero xs h.1)
within_all P (suc room) (binds b i o ∷ xs) h = (h.0, within_all P (suc room) xs h.1)
within_all P zero (installs d s ∷ xs) h = (h.0, within_all P zero xs h.1)
within_all P (suc room) (installs d s ∷ xs) h = (h.0, within_all P (suc room) xs h.1)
within_all P zero (starts s p ∷ xs) h = (h.0, within_all P zero xs h.1)
within_all P (suc room) (starts s p ∷ xs) h = (h.0, within_all P (suc room) xs h.1)
within_all P zero (starts_at o p ∷ xs) h = (h.0, within_all P zero xs h.1)
within_all P (suc room) (starts_at o p ∷ xs) h = (h.0, within_all P (suc room) xs h.1)
within_all P zero (registers ∷ xs) h = (h.0, within_all P zero xs h.1)
within_all P (suc room) (registers ∷ xs) h = (h.0, within_all P (suc room) xs h.1)
within_all P zero (leaves d s ∷ xs) h = (h.0, within_all P zero xs h.1)
within_all P (suc room) (leaves d s ∷ xs) h = (h.0, within_all P (suc room) xs h.1)

-- ---- the scopes of a linking

pub begun_ground : (count scope : ℕ) (os : List ℕ) (g : Ground) → g ≡ record { scopes = scope ∷ []; outsides = os } → scope < count → AreBelow count os → IsGround count g
begun_ground count scope os g same lt outs = subst (IsGround count) (sym same) (record { scopes = (lt, tt); outsides = outs })

pub below_push : (count : ℕ) (ns : List ℕ) (n : ℕ) → AreBelow count ns → n < count → AreBelow count (ns ++ n ∷ [])
below_push count [] n h lt = (lt, tt)
below_push count (k ∷ ks) n h lt = (h.0, below_push count ks n h.1 lt)

-- ---- what the steps of a linking in the code come to

pub given_has : (f : Fragment) (o : Order) (room : ℕ) (order xs : List LinkStep) → order ≡ steps f.parts → xs ≡ steps_within room order → (list_any is_binds (steps f.parts) ≡ true → Programs f o) → AllByRecursion (HasPrograms f o) xs
given_has f o room order xs all within h =
    subst (AllByRecursion (HasPrograms f o)) (sym within)
    (within_all (HasPrograms f o) room order (subst (AllByRecursion (HasPrograms f o)) (sym all) (each_has f o (steps f.parts) h)))

-- all steps that find room are done, up to the first fault, and this cuts them
pub record IsLinked (s : State) (scope : ℕ) (os : List ℕ) (f : Fragment) (cut : Option Fault) (g : Linking) : Type 0 where
  pub run : g ≡ steps_linked f (steps_within (node_limit - live_nodes s) (steps f.parts)) (begins_linking scope os s)
  pub ends : cut ≡ fault_in (node_limit - live_nodes s) (steps f.parts)

pub begun_by : (s : State) (scope : ℕ) (os : List ℕ) (f : Fragment) (live room : ℕ) (order xs : List LinkStep) (cut : Option Fault) (g : Linking) → live ≡ live_nodes s → room ≡ node_limit - live → order ≡ steps f.parts
    → xs ≡ steps_within room order → cut ≡ fault_in room order → g ≡ steps_linked f xs (begins_linking scope os s) → IsLinked s scope os f cut g
begun_by s scope os f live room order xs cut g few left all within ends is =
    let found : room ≡ node_limit - live_nodes s = left ∙ ap (λ (n : ℕ). node_limit - n) few in
    record {
      run = is ∙ ap (λ (ys : List LinkStep). steps_linked f ys (begins_linking scope os s)) (within ∙ (ap (steps_within room) all ∙ ap (λ (n : ℕ). steps_within n (steps f.parts)) found));
      ends = ends ∙ (ap (fault_in room) all ∙ ap (λ (n : ℕ). fault_in n (steps f.parts)) found);
    }

-- neither a step met a fault, nor are they cut
pub first_none : (a b : Option Fault) → first_of a b ≡ None → (a ≡ None) × (b ≡ None)
first_none None b e = (refl, e)
first_none (Some x) b e = absurd (cc)

module _ (s : State) (scope : ℕ) (os : List ℕ) (f : Fragment) (cut : Option Fault) (g : Linking) (one : IsLinked s scope os f cut g) where
  pub linked_under : 0 < length s.core.scopes → scope < length s.core.scopes → AreBelow (length s.core.scopes) os → IsUnderway s scope os g.state g.made
  linked_under root lt outs =
      subst (λ (h : Linking). IsUnderway s scope os h.state h.made) (sym one.run) (linking_underway s scope os f (steps_within (node_limit - live_nodes s) (steps f.parts)) root lt outs)

  pub linked_made : 0 < length s.core.scopes → scope < length s.core.scopes → AreBelow (length s.core.scopes) os → first_of g.fault cut ≡ None → IsRegistered f scope g.made g.state
  linked_made root lt outs none =
      let two = first_none g.fault cut none in
      let room : ℕ = node_limit - live_nodes s in
      let ended : fault_in room (steps f.parts) ≡ None = sym one.ends ∙ two.1 in
      linking_registered s scope os f g root lt outs room ended (one.run ∙ ap (λ (xs : List LinkStep). steps_linked f xs (begins_linking scope os s)) (all_within room (steps f.parts) ended)) two.0

  pub linked_room : IsUnderway s scope os g.state g.made → live_nodes s ≤ node_limit → first_of g.fault cut ≡ None → linked (live_nodes g.state) f.parts ≡ Ok tt
  linked_room under few none =
      let two = first_none g.fault cut none in
      ap (λ (n : ℕ). linked n f.parts) (live_nodes_same g.state s under.linked.0) ∙ room_found f.parts (live_nodes s) few (sym one.ends ∙ two.1)

  pub link_is : (place : Place) (which : Origin) (e : Option Fault) → first_of g.fault cut ≡ e → link_at place which scope os f s ≡ ended_link place which scope f e g
  link_is place which e met =
      sym (ap (λ (h : Linking). ended_by place which scope f (fault_in (node_limit - live_nodes s) (steps f.parts)) h) one.run)
      ∙ (sym (ap (λ (o : Option Fault). ended_by place which scope f o g) one.ends) ∙ ap (λ (o : Option Fault). ended_link place which scope f o g) met)

-- ---- the scopes behind the first

pub behind_first : (xs : List ScopeId) → drop 1 (map (λ (n : ScopeId). n.0) xs) ≡ map (λ (n : ScopeId). n.0) (drop 1 xs)
behind_first [] = refl
behind_first (x ∷ xs) = refl

pub behind_below : (count : ℕ) (xs : List ScopeId) → AreBelow count (map (λ (n : ScopeId). n.0) xs) → AreBelow count (map (λ (n : ScopeId). n.0) (drop 1 xs))
behind_below count [] h = tt
behind_below count (x ∷ xs) h = h.1
