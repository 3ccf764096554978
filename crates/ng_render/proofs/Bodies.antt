-- The bodies in an instance, and what is rendered of them.
use Rattle.std.proofs.Common.{◌≡◌, ◌<◌, ◌≤◌, ◌+◌, ℕ, zero, suc, List, [], ◌∷◌, ◌++◌, map, drop, get_or, length, refl, ap, sym, subst, ◌∙◌, append_assoc, append-nil, slice_index_or, arith}
use Rattle.std.proofs.lemmas.List.{at_drop_more, drop_all}
use Rattle.std.specs.Prelude.{Option, slice_get}
use Rattle.ng_base.specs.Objects.{Object}
use Rattle.ng_behaviour.specs.Scopes.{Scope}
use Rattle.ng_markup.specs.Forest.{Forest, no_nodes}
use Rattle.ng_drawing.specs.Drawing.{Rendered, shown_as, render}
use Rattle.ng_drawing.specs.Cases.{cases_of}
use Rattle.ng_drawing.specs.Instance.{SiteState, CasesAt, Instance, Instances, Group, Outlets, instance_with, no_instances, instance_then, no_outlets, outlet_then, instances_from, outlets_from, KeptNow, instance_now, seen_now, outlet_at, rendering, rendering_all, rendering_in}
use Rattle.ng_drawing.specs.InstanceOf.{state_of, Fragments, instance_step, instances_step, instance_of, group_of, instances_of}
use Rattle.ng_drawing.specs.RolesOf.{role_of}
use Rattle.ng_drawing.specs.Template.{Site, Outlet, Contents, Part, Parts, anchor_part, Fragment, no_fragment}
use Rattle.ng_render.specs.OverOf.{NamesStand, InstanceStands, OutletsStand}
use Rattle.ng_parse.specs.ProgramOf.{program}
use Rattle.ng_parts.specs.Seen.{contents_step, part_step, parts_step, part_of}
use Rattle.ng_parts.specs.declared.parts.Contents.TheFolds.{fold-roll-Part}
use Rattle.ng_parts.specs.declared.parts.Contents.TheOpen.{Part-F}
use Rattle.ng_parts.specs.declared.parts.Part.TheVariants as variants
use Rattle.ng_drawing.specs.declared.instance.Instance as code_instance
use Rattle.ng_drawing.specs.declared.instance.Instances as code_instances
use Rattle.ng_drawing.specs.declared.instance.Instance.TheViews.{out-Instance, out-Instances}
use Rattle.ng_drawing.specs.declared.instance.Instance.TheFolds.{fold_out-Instance, fold_out-Instances}

-- what an instance of the code has
pub instance_out : (all : Fragments) (i : code_instance.Instance)
    → instance_of all i ≡ instance_with (all (out-Instance i).origin) (out-Instance i).scope.0 (map state_of (out-Instance i).sites.items)
    (outlets_from (map (group_of all) (out-Instance i).outlets.items))
instance_out all i = fold_out-Instance Instance Group (instance_step all) instances_step i

pub group_out : (all : Fragments) (is : code_instances.Instances) → group_of all is ≡ (map role_of (out-Instances is).roles.items, instances_from (map (instance_of all) (out-Instances is).items.items))
group_out all is = fold_out-Instances Instance Group (instance_step all) instances_step is

pub instances_out : (all : Fragments) (is : code_instances.Instances) → instances_of all is ≡ instances_from (map (instance_of all) (out-Instances is).items.items)
instances_out all is = ap (λ (g : Group). g.1) (group_out all is)

pub roles_out : (all : Fragments) (is : code_instances.Instances) → (group_of all is).0 ≡ map role_of (out-Instances is).roles.items
roles_out all is = ap (λ (g : Group). g.0) (group_out all is)

-- how many bodies there are in bodies
abbrev mutual
  pub size : Instance → ℕ
  size (instance_with f scope states outlets) = 1 + size_in outlets

  pub size_all : Instances → ℕ
  size_all no_instances = 0
  size_all (instance_then i is) = size i + size_all is

  pub size_in : Outlets → ℕ
  size_in no_outlets = 0
  size_in (outlet_then rs is os) = size_all is + size_in os

-- whatever the fragments are
abbrev pub no_fragments : Fragments
no_fragments o = no_fragment

pub size_out : (i : code_instance.Instance) → size (instance_of no_fragments i) ≡ 1 + size_in (outlets_from (map (group_of no_fragments) (out-Instance i).outlets.items))
size_out i = ap size (instance_out no_fragments i)

pub size_within : {X : Type 0} (seen : X → Instance) (xs : List X) (i : ℕ) (x : X) → i < length xs → x ≡ get_or xs i x → size (seen x) ≤ size_all (instances_from (map seen xs))
size_within seen [] i x l is = absurd (omega (arith, l))
size_within seen (y ∷ ys) zero x l is = let e = ap (λ z. size (seen z)) is in omega (arith, e)
size_within seen (y ∷ ys) (suc i) x l is = let h = size_within seen ys i x (omega (arith, l)) is in omega (arith, h)

pub sizes_within : {X : Type 0} (seen : X → Group) (xs : List X) (i : ℕ) (x : X) → i < length xs → x ≡ get_or xs i x → size_all (seen x).1 ≤ size_in (outlets_from (map seen xs))
sizes_within seen [] i x l is = absurd (omega (arith, l))
sizes_within seen (y ∷ ys) zero x l is = let e = ap (λ z. size_all (seen z).1) is in omega (arith, e)
sizes_within seen (y ∷ ys) (suc i) x l is = let h = sizes_within seen ys i x (omega (arith, l)) is in omega (arith, h)

-- an anchor of the code
pub part_anchor : (outlet : ℕ) (own : _) (starts : _) → part_of (variants.Anchor outlet own starts) ≡ anchor_part outlet own.items (map program starts.items)
part_anchor outlet own starts = ap part_of (sym (variants.rolls-Anchor outlet own starts)) ∙ fold-roll-Part Contents Part Parts contents_step part_step parts_step (Part-F.Anchor outlet own starts)

-- ---- what fills outlets

get_dropped : {X : Type 0} (xs : List X) (i : ℕ) → slice_get (drop i xs) 0 ≡ slice_get xs i
get_dropped xs zero = refl
get_dropped [] (suc i) = refl
get_dropped (x ∷ xs) (suc i) = get_dropped xs i

drop_again : {X : Type 0} (xs : List X) (i : ℕ) → drop 1 (drop i xs) ≡ drop (i + 1) xs
drop_again xs zero = refl
drop_again [] (suc i) = let e : suc (i + 1) ≡ suc i + 1 = omega arith in ap (λ k. drop k []) e
drop_again (x ∷ xs) (suc i) = let e : suc (i + 1) ≡ suc i + 1 = omega arith in drop_again xs i ∙ ap (λ k. drop k (x ∷ xs)) e

module _ (objects : List Object) (scopes : List Scope) (now : KeptNow) (states : List SiteState) (cases : CasesAt) where
  abbrev pub filled_by : List Outlet → List Group → List (Rendered Forest)
  filled_by os gs = rendering_in objects scopes now states cases os (outlets_from gs)

  -- what fills an outlet
  abbrev pub fills : Option Outlet → Group → Rendered Forest
  fills o g = outlet_at now states cases o g.0 (rendering_all objects scopes g.1)

  filled_first : (os : List Outlet) (g : Group) (rest : List Group) → filled_by os (g ∷ rest) ≡ fills (slice_get os 0) g ∷ filled_by (drop 1 os) rest
  filled_first [] g rest = refl
  filled_first (o ∷ os) g rest = refl

  module _ {X : Type 0} (seen : X → Group) (os : List Outlet) (xs : List X) (i : ℕ) where
    -- one outlet more
    pub filled_turn : (x : X) (done : List (Rendered Forest)) (g : Rendered Forest) → i < length xs → x ≡ get_or xs i x → g ≡ fills (slice_get os i) (seen x)
        → (done ++ g ∷ []) ++ filled_by (drop (i + 1) os) (map seen (drop (i + 1) xs)) ≡ done ++ filled_by (drop i os) (map seen (drop i xs))
    filled_turn x done g l is shows =
        let rest : List Group = map seen (drop (i + 1) xs) in
        let here : g ≡ fills (slice_get (drop i os) 0) (seen (get_or xs i x))
        = shows ∙ (ap (λ y. fills (slice_get os i) (seen y)) is ∙ ap (λ o. fills o (seen (get_or xs i x))) (sym (get_dropped os i))) in
        append_assoc done (g ∷ []) (filled_by (drop (i + 1) os) rest)
        ∙ (ap (λ h. done ++ h ∷ filled_by (drop (i + 1) os) rest) here
        ∙ (ap (λ qs. done ++ fills (slice_get (drop i os) 0) (seen (get_or xs i x)) ∷ filled_by qs rest) (sym (drop_again os i))
        ∙ (ap (λ rs. done ++ rs) (sym (filled_first (drop i os) (seen (get_or xs i x)) rest))
        ∙ sym (at_drop_more (λ zs. done ++ filled_by (drop i os) (map seen zs)) xs i x l))))

    -- no outlet is left
    pub filled_last : (done : List (Rendered Forest)) → length xs ≤ i → done ++ filled_by (drop i os) (map seen (drop i xs)) ≡ done
    filled_last done l = ap (λ zs. done ++ filled_by (drop i os) (map seen zs)) (drop_all i xs l) ∙ append-nil done

-- ---- the rendering of an instance

module _ (objects : List Object) (scopes : List Scope) (all : Fragments) (i : code_instance.Instance) where
  abbrev pub outlets : Outlets
  outlets = outlets_from (map (group_of all) (out-Instance i).outlets.items)

  abbrev pub kept : List SiteState
  kept = map state_of (out-Instance i).sites.items

  abbrev pub shape : List Site → List SiteState → List (Rendered Forest) → Parts → Rendered Forest
  shape sites states gs parts = render (seen_now (instance_now objects scopes sites states) states) (λ o. slice_index_or gs o (shown_as no_nodes)) parts

  abbrev groups_of : Fragment → List Site → List SiteState → List (Rendered Forest)
  groups_of f sites states = rendering_in objects scopes (instance_now objects scopes sites states) states (cases_of f.outlets) f.outlets outlets

  pub instance_is : (f : Fragment) (sites : List Site) (states : List SiteState) (os : List Outlet) (gs : List (Rendered Forest)) (parts : Parts) → all (out-Instance i).origin ≡ f → sites ≡ f.sites → states ≡ kept → os ≡ f.outlets
      → gs ≡ rendering_in objects scopes (instance_now objects scopes sites states) states (cases_of os) os outlets → parts ≡ f.parts → rendering objects scopes (instance_of all i) ≡ shape sites states gs parts
  instance_is f sites states os gs parts e s t o g p =
      ap (rendering objects scopes) (instance_out all i)
      ∙ (ap (λ x. rendering objects scopes (instance_with x (out-Instance i).scope.0 kept outlets)) e
      ∙ sym (ap (shape sites states gs) p
      ∙ (ap (λ hs. shape sites states hs f.parts) (g ∙ ap (λ qs. rendering_in objects scopes (instance_now objects scopes sites states) states (cases_of qs) qs outlets) o)
      ∙ (ap (λ ss. shape ss states (groups_of f ss states) f.parts) s
      ∙ ap (λ ks. shape f.sites ks (groups_of f f.sites ks) f.parts) t))))

  pub sites_stand : InstanceStands objects scopes (instance_of all i) → NamesStand objects scopes kept × OutletsStand objects scopes outlets
  sites_stand h = subst (InstanceStands objects scopes) (instance_out all i) h

  -- there is no such fragment
  pub nothing_is : all (out-Instance i).origin ≡ no_fragment → rendering objects scopes (instance_of all i) ≡ shown_as no_nodes
  nothing_is e = ap (rendering objects scopes) (instance_out all i) ∙ ap (λ x. rendering objects scopes (instance_with x (out-Instance i).scope.0 kept outlets)) e
