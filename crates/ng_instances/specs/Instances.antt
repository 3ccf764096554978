-- The instances that stand, by the paths of their scopes (guide: Scopes, "Scope Hierarchies"; HTML Compiler). The page's template stands on
-- the root. Each body of a block has a child scope of its own, so that its path names it for ever, and it stands after the instance
-- that it is in.
use Rattle.std.specs.Prelude.{ℕ, zero, suc, Bool, false, List, [], ◌∷◌, map, not, nat_le, Option, None, Some, option_and_then, unwrap_or, slice_index_or, if◌then◌else◌}
use Rattle.std.specs.BTreeMap.{insert_entry, is_at}
use Rattle.std.specs.List.{filter, list_any}
use Rattle.std.specs.Map.{lookup, remove_entry}
use Rattle.std.specs.Ordering.{is_lt, nat_cmp}
use Rattle.ng_base.specs.Order.{path_cmp}
use Rattle.ng_base.specs.declared.path.Key.{Key}
use Rattle.ng_dom.specs.Drawing.{Stands, Bodies, none_stand, no_bodies, body_then}
use Rattle.ng_dom.specs.Lists.{put_at}
use Rattle.ng_drawing.specs.Roles.{Role}
use Rattle.ng_drawing.specs.Template.{Fragment, Filling}
use Rattle.ng_drawing.specs.declared.origin.Home.{Home}
use Rattle.ng_drawing.specs.declared.origin.Origin.{Origin}
use Rattle.ng_behaviour.specs.Keys.{begins}
use Rattle.ng_instances.specs.Bindings.{Bound, Bounds, bound_in_table}
use Rattle.ng_build.specs.Controls.{Controlled}
use Rattle.ng_build.specs.Handlers.{Handled}
use Rattle.ng_instances.specs.Registering.{Marks, mark_in}
use Rattle.ng_build.specs.Shape.{key_on, keys_by, shape}

-- a body, by the path of its scope, and what it stands for
pub record Body : Type 0 where
  pub path : List ℕ
  pub role : Role

-- An outlet that stands: the number of registration of its site; how it is filled, and where the bodies come from; the scope round them, and the scopes
-- outside what the slots in them are given; the name of its anchor's node; and its bodies in order
pub record OutletState : Type 0 where
  pub serial : ℕ
  pub home : Home
  pub scope : ℕ
  pub outsides : List ℕ
  pub filling : Filling
  pub anchor : ℕ
  pub bodies : List Body

-- a scope of an instance beside its own, with its path
pub record Inner : Type 0 where
  pub scope : ℕ
  pub path : List ℕ

-- an instance that stands: the fragment that it is one of, and the number of its scope; the path of that, and the
-- numbers of registration of its sites in their order; the name of its first node; what handles events at its nodes; its controls, by
-- their nodes; its outlets; its inner scopes, which are numbered from 1 on, the scopes of its sites and of its elements that are on these, and what
-- the sites of bindings write
pub record Page : Type 0 where
  pub origin : Origin
  pub scope : ℕ
  pub path : List ℕ
  pub serials : List ℕ
  pub node : ℕ
  pub handlers : Handled
  pub controls : Controlled
  pub outlets : List OutletState
  pub inner : List Inner
  pub marks : Marks
  pub elements : List (ℕ × ℕ)
  pub bounds : Bounds

-- a fragment that is linked
pub record Linked : Type 0 where
  pub fragment : Fragment
  pub page : Page

-- a scope of an instance by its number, and its path
abbrev pub inner_or : Inner → ℕ → List Inner → Inner
inner_or i zero is = i
inner_or i (suc n) is = slice_index_or is n i

abbrev pub scope_number : Page → ℕ → ℕ
scope_number p n = (inner_or (record { scope = p.scope; path = p.path }) n p.inner).scope

abbrev pub scope_path : Page → ℕ → List ℕ
scope_path p n = (inner_or (record { scope = p.scope; path = p.path }) n p.inner).path

-- the keys of its sites by number: each on the path of the scope that it stands on
abbrev pub key_in : Page → ℕ → Key
key_in p serial = key_on (scope_path p (mark_in p.marks serial).under) serial

abbrev pub keys_of : Page → ℕ → Key
keys_of p = keys_by (map (key_in p) p.serials)

-- what is linked, in the order of the paths
abbrev pub Instances : Type 0
Instances = List (List ℕ × Linked)

abbrev pub is_path : List ℕ → List ℕ → Bool
is_path p q = is_at (path_cmp p) q

-- the instance on a path
abbrev pub linked_at : List ℕ → Instances → Option Linked
linked_at p is = lookup (is_path p) is

-- What is read off an instance and the bodies in it, which stand after it: by one word for each instance, from what was read of the
-- bodies in its outlets.
abbrev pub read_bodies : {A : Type 0} → (List ℕ → A) → List OutletState → List (List A)
read_bodies go [] = []
read_bodies go (o ∷ os) = map (λ (b : Body). go b.path) o.bodies ∷ read_bodies go os

abbrev pub read : {A : Type 0} → A → (Linked → List (List A) → A) → Instances → List ℕ → A
read none join [] p = none
read none join (e ∷ es) p = if is_path p e.0 then join e.1 (read_bodies (read none join es) e.1.page.outlets) else read none join es p

-- what is read of a body that comes after its holder in the order of paths; before it there is none
abbrev pub read_after : {A : Type 0} → A → (List ℕ → A) → List ℕ → List ℕ → A
read_after none go holder p = if is_lt (path_cmp holder p) then go p else none

-- what stands of them: the bodies of an outlet stand at its anchor
abbrev pub bodies_from : List Stands → Bodies
bodies_from [] = no_bodies
bodies_from (ts ∷ tss) = body_then ts (bodies_from tss)

abbrev pub groups_from : List (List Stands) → ℕ → Bodies
groups_from tsss o = bodies_from (slice_index_or tsss o [])

abbrev pub stands_join : Linked → List (List Stands) → Stands
stands_join l tsss = shape (keys_of l.page) l.page.node (groups_from tsss) l.fragment.parts

abbrev pub stands_at : Instances → List ℕ → Stands
stands_at is p = read none_stand stands_join is p

-- whether a number of registration is that of a site of an instance
abbrev pub is_site_of : Page → ℕ → Bool
is_site_of p serial = list_any (is_at (nat_cmp serial)) p.serials

abbrev pub is_site_in : Option Linked → Key → Bool
is_site_in None k = false
is_site_in (Some l) k = is_site_of l.page k.serial.0

-- The instances by the paths of their inner scopes
abbrev pub Inners : Type 0
Inners = List (List ℕ × List ℕ)

-- the path of the instance that has a scope of a path
abbrev pub instance_path : Inners → List ℕ → List ℕ
instance_path inner p = unwrap_or (lookup (is_path p) inner) p

abbrev pub linked_for : Inners → List ℕ → Instances → Option Linked
linked_for inner p is = linked_at (instance_path inner p) is

-- whether a key is that of a site of what is linked; the path of the key says of which instance
abbrev pub is_site : Inners → Instances → Key → Bool
is_site inner is k = is_site_in (linked_for inner k.path is) k

-- what the fire of the site of a key writes
abbrev pub bound_for : Inners → Instances → Key → Option Bound
bound_for inner is k = option_and_then (λ (l : Linked). bound_in_table k.serial.0 l.page.bounds) (linked_for inner k.path is)

-- the inner scopes of an instance are noted with its path
abbrev pub with_inner : List ℕ → List Inner → Inners → Inners
with_inner p [] t = t
with_inner p (i ∷ is) t = with_inner p is (insert_entry path_cmp t i.path p)

abbrev pub inner_without : List ℕ → Inners → Inners
inner_without p t = filter (λ e. not (begins p e.0)) t

-- the outlets of an instance are changed
abbrev pub with_outlets : (List OutletState → List OutletState) → Linked → Linked
with_outlets f l = record l { page = record l.page { outlets = f l.page.outlets } }

abbrev pub outlets_changed : List ℕ → (List OutletState → List OutletState) → Instances → Instances
outlets_changed p f [] = []
outlets_changed p f (e ∷ es) = if is_path p e.0 then (e.0, with_outlets f e.1) ∷ es else e ∷ outlets_changed p f es

-- the outlets that a site fills, by the site's number of registration
abbrev pub is_filled_by : ℕ → OutletState → Bool
is_filled_by serial o = is_at (nat_cmp serial) o.serial

-- a body more in an outlet, before the i-th, or at the end
abbrev pub with_body : ℕ → Body → OutletState → OutletState
with_body i b o = record o { bodies = put_at i b o.bodies }

abbrev pub body_added : ℕ → ℕ → Body → List OutletState → List OutletState
body_added n i b [] = []
body_added zero i b (o ∷ os) = with_body i b o ∷ os
body_added (suc n) i b (o ∷ os) = o ∷ body_added n i b os

-- an outlet has these bodies
abbrev pub with_bodies : List Body → OutletState → OutletState
with_bodies bs o = record o { bodies = bs }

abbrev pub bodies_arranged : ℕ → List Body → List OutletState → List OutletState
bodies_arranged n bs [] = []
bodies_arranged zero bs (o ∷ os) = with_bodies bs o ∷ os
bodies_arranged (suc n) bs (o ∷ os) = o ∷ bodies_arranged n bs os

-- a body is gone, wherever it is
abbrev pub without_body : List ℕ → OutletState → OutletState
without_body p o = record o { bodies = filter (λ (b : Body). not (is_path p b.path)) o.bodies }

abbrev pub body_gone : List ℕ → List OutletState → List OutletState
body_gone p os = map (without_body p) os

-- without the instances on a path and on those that begin with it
abbrev pub without_below : List ℕ → Instances → Instances
without_below p is = filter (λ e. not (begins p e.0)) is

-- a body of an instance goes, with those in it
abbrev pub unlinked : List ℕ → List ℕ → Instances → Instances
unlinked holder p is = without_below p (outlets_changed holder (body_gone p) is)

-- an instance more
abbrev pub with_instance : List ℕ → Linked → Instances → Instances
with_instance p l is = insert_entry path_cmp is p l

-- The instances by the names of their first nodes, since those of an instance follow one another: the one to which a node belongs is
-- the last that doesn't begin after it.
abbrev pub Owners : Type 0
Owners = List (ℕ × List ℕ)

abbrev pub owner_or : Option (List ℕ) → ℕ → Owners → Option (List ℕ)
owner_or o n [] = o
owner_or o n (e ∷ es) = owner_or (if nat_le e.0 n then Some e.1 else o) n es

abbrev pub owner_of : ℕ → Owners → Option (List ℕ)
owner_of n os = owner_or None n os

-- without the first names of the instances on a path and below it
abbrev pub owners_less : {X : Type 0} → (X → ℕ) → List ℕ → List (List ℕ × X) → Owners → Owners
owners_less node p [] os = os
owners_less node p (e ∷ es) os = owners_less node p es (if begins p e.0 then remove_entry (is_at (nat_cmp (node e.1))) os else os)

abbrev pub owners_without : List ℕ → Instances → Owners → Owners
owners_without p is os = owners_less (λ (l : Linked). l.page.node) p is os
