-- An instance of a fragment: what a run adds to it. For each site its key, its scope, what it has kept, whether it rests, which is
-- to say that its scope is destroyed or its one-time binding has ended, and the state of the control whose model it is; and for each outlet the
-- bodies that fill it.
use Rattle.std.specs.Prelude.{ℕ, ◌≡◌, ◌||◌, Bool, true, false, List, [], ◌∷◌, map, Option, Some, None, Result, Ok, slice_get, slice_index_or, if◌then◌else◌}
use Rattle.std.specs.Option.{option_map_or}
use Rattle.ng_control.specs.State.{ControlState}
use Rattle.ng_base.specs.Meets.{◌>>=◌}
use Rattle.ng_base.specs.Objects.{Object}
use Rattle.ng_base.specs.Views.{ViewTree, prim, list, rec, views_from}
use Rattle.ng_base.specs.declared.fault.Fault.{Fault}
use Rattle.ng_base.specs.declared.path.Key.{Key}
use Rattle.ng_base.specs.declared.value.Value.TheVariants as value
use Rattle.ng_behaviour.specs.Scopes.{Scope, object_at}
use Rattle.ng_language.specs.Texts.{show_text, class_words}
use Rattle.ng_language.specs.Trees.{Trees}
use Rattle.ng_language.specs.declared.snapshots.SnapKind.{SnapKind}
use Rattle.ng_language.specs.declared.snapshots.SnapKind.TheVariants as snaps
use Rattle.ng_markup.specs.Forest.{Forest, no_nodes}
use Rattle.ng_value.specs.Taken.{taken}
use Rattle.ng_evaluation.specs.Evaluation.{evaluated_program}
use Rattle.ng_drawing.specs.Cases.{Case, cases_of}
use Rattle.ng_drawing.specs.Roles.{Role}
use Rattle.ng_drawing.specs.Rows.{is_filled}
use Rattle.ng_drawing.specs.Template.{Site, Outlet, Fragment}
use Rattle.ng_drawing.specs.Drawing.{Look, followed_by, draw, Now, Rendered, ◌>>-◌, shown_as, render}
use Rattle.ng_drawing.specs.Looks.{Seen, seen_by}
use Rattle.ng_drawing.specs.declared.kind.SiteKind.{SiteKind}
use Rattle.ng_drawing.specs.declared.kind.SiteKind.TheVariants as kinds

pub record SiteState : Type 0 where
  pub key : Key
  pub scope : ℕ
  pub kept : Option ViewTree
  pub rests : Bool
  pub control : Option ControlState

mutual
  pub data Instance : Type 0 where
    instance_with : Fragment → (scope : ℕ) → List SiteState → Outlets → Instance

  -- the bodies that fill an outlet, in order
  pub data Instances : Type 0 where
    no_instances : Instances
    instance_then : Instance → Instances → Instances

  -- those in each outlet, with what each stands for
  pub data Outlets : Type 0 where
    no_outlets : Outlets
    outlet_then : List Role → Instances → Outlets → Outlets

abbrev pub instances_from : List Instance → Instances
instances_from [] = no_instances
instances_from (i ∷ is) = instance_then i (instances_from is)

-- the bodies in an outlet, with what each stands for
abbrev pub Group : Type 0
Group = List Role × Instances

abbrev pub outlets_from : List Group → Outlets
outlets_from [] = no_outlets
outlets_from (g ∷ os) = outlet_then g.0 g.1 (outlets_from os)

-- what the site of a number has kept
abbrev pub state_kept : Option SiteState → Option ViewTree
state_kept None = None
state_kept (Some s) = s.kept

abbrev pub kept_by : List SiteState → ℕ → Option ViewTree
kept_by states n = state_kept (slice_get states n)

-- the state of the control whose model the site of a number is
abbrev pub state_control : Option SiteState → Option ControlState
state_control None = None
state_control (Some s) = s.control

-- what is seen of the site of a number where it has this
abbrev pub seen_at : List SiteState → ℕ → Option ViewTree → Seen
seen_at states n v = seen_by (state_control (slice_get states n)) v

abbrev pub seen_in : List SiteState → Look
seen_in states n = seen_at states n (kept_by states n)

-- what is shown: the drawing with what is kept, and with the bodies that stand
abbrev mutual
  pub shown : Instance → Forest
  shown (instance_with f scope states outlets) = draw (seen_in states) (λ o. slice_index_or (shown_in outlets) o no_nodes) f.parts

  pub shown_all : Instances → Forest
  shown_all no_instances = no_nodes
  shown_all (instance_then i is) = followed_by (shown i) (shown_all is)

  pub shown_in : Outlets → List Forest
  shown_in no_outlets = []
  shown_in (outlet_then rs is os) = shown_all is ∷ shown_in os

-- what an expression shows now over a scope's object, as a text. It is closed where its steps don't matter.
unfoldable pub text_now : List Object → ℕ → Trees → Result (List ℕ) Fault
text_now objects o p = evaluated_program objects o [] p >>= show_text objects

abbrev pub text_view : List ℕ → ViewTree
text_view t = prim (value.Text t)

abbrev pub word_list : List (List ℕ) → ViewTree
word_list ws = list (views_from (map text_view ws))

-- both sides of a binding are compared by identity, but a fresh list or record, which has none, by what it holds
abbrev pub two_way_kind : ViewTree → SnapKind
two_way_kind (prim v) = snaps.Reference
two_way_kind (list ts) = snaps.Deep
two_way_kind (rec fs) = snaps.Deep

-- what a site of a kind keeps of a value (guide: Scopes, "Scope `$watch` Depths")
abbrev pub snapshot_as : SiteKind → List Object → ViewTree → Result ViewTree Fault
snapshot_as kinds.Text objects v = show_text objects v >>= λ t. Ok (text_view t)
snapshot_as kinds.Words objects v = class_words objects v >>= λ ws. Ok (word_list ws)
snapshot_as kinds.Reference objects v = taken snaps.Reference objects v
snapshot_as kinds.Collection objects v = taken snaps.Collection objects v
snapshot_as kinds.Deep objects v = taken snaps.Deep objects v
snapshot_as kinds.TwoWay objects v = taken snaps.Reference objects v

-- whether a site is that of a two-way binding, from which nothing is drawn
abbrev pub is_two_way : SiteKind → Bool
is_two_way kinds.Text = false
is_two_way kinds.Words = false
is_two_way kinds.Reference = false
is_two_way kinds.Collection = false
is_two_way kinds.Deep = false
is_two_way kinds.TwoWay = true

-- what a site would keep now over a scope's object. It is closed where its steps don't matter.
unfoldable pub snapshot_now : List Object → ℕ → Site → Result ViewTree Fault
snapshot_now objects o x = evaluated_program objects o [] x.program >>= snapshot_as x.kind objects

abbrev pub rendered_now : Result ViewTree Fault → Rendered (Option ViewTree)
rendered_now r = r >>= λ v. shown_as (Some v)

-- A site has its value now; one that rests has what it has kept, and so has that of a two-way binding.
abbrev pub site_now : List Object → List Scope → Option Site → Option SiteState → Rendered (Option ViewTree)
site_now objects scopes None s = shown_as None
site_now objects scopes (Some x) None = shown_as None
site_now objects scopes (Some x) (Some s) = if s.rests || is_two_way x.kind then shown_as s.kept else rendered_now (snapshot_now objects (object_at scopes s.scope) x)

-- what each site has now, or nothing where it rests unset
abbrev pub KeptNow : Type 0
KeptNow = ℕ → Rendered (Option ViewTree)

abbrev pub instance_now : List Object → List Scope → List Site → List SiteState → KeptNow
instance_now objects scopes sites states n = site_now objects scopes (slice_get sites n) (slice_get states n)

-- what is seen of each site then
abbrev pub seen_now : KeptNow → List SiteState → Now
seen_now now states n = now n >>- λ v. shown_as (seen_at states n v)

-- the cases of the switch of each site
abbrev pub CasesAt : Type 0
CasesAt = ℕ → List Case

abbrev pub rests_in : List SiteState → ℕ → Bool
rests_in states n = option_map_or (λ (s : SiteState). s.rests) (slice_get states n) true

-- What fills an outlet now: the bodies that stand, which must be those that the value of its site calls for now. A site that rests calls
-- for nothing.
abbrev pub outlet_now : KeptNow → List SiteState → CasesAt → Outlet → List Role → Rendered Forest → Rendered Forest
outlet_now now states cases o rs bodies = if rests_in states o.site then bodies else now o.site >>- λ v. if is_filled (cases o.site) o.filling v rs then bodies else Ok None

-- an outlet that the fragment doesn't have is filled anyhow
abbrev pub outlet_at : KeptNow → List SiteState → CasesAt → Option Outlet → List Role → Rendered Forest → Rendered Forest
outlet_at now states cases None rs bodies = bodies
outlet_at now states cases (Some o) rs bodies = outlet_now now states cases o rs bodies

-- The rendering of an instance over data and scopes: no watcher and no node is asked.
abbrev mutual
  pub rendering : List Object → List Scope → Instance → Rendered Forest
  rendering objects scopes (instance_with f scope states outlets) =
      render (seen_now (instance_now objects scopes f.sites states) states)
      (λ o. slice_index_or (rendering_in objects scopes (instance_now objects scopes f.sites states) states (cases_of f.outlets) f.outlets outlets) o (shown_as no_nodes)) f.parts

  pub rendering_all : List Object → List Scope → Instances → Rendered Forest
  rendering_all objects scopes no_instances = shown_as no_nodes
  rendering_all objects scopes (instance_then i is) = rendering objects scopes i >>- λ f. rendering_all objects scopes is >>- λ g. shown_as (followed_by f g)

  pub rendering_in : List Object → List Scope → KeptNow → List SiteState → CasesAt → List Outlet → Outlets → List (Rendered Forest)
  rendering_in objects scopes now states cases os no_outlets = []
  rendering_in objects scopes now states cases [] (outlet_then rs is rest) = rendering_all objects scopes is ∷ rendering_in objects scopes now states cases [] rest
  rendering_in objects scopes now states cases (o ∷ os) (outlet_then rs is rest) =
      outlet_now now states cases o rs (rendering_all objects scopes is) ∷ rendering_in objects scopes now states cases os rest

-- an outlet has the bodies that its site has kept to call for
abbrev pub IsFilled : List SiteState → CasesAt → Outlet → List Role → Type 0
IsFilled states cases o rs = rests_in states o.site ≡ false → is_filled (cases o.site) o.filling (kept_by states o.site) rs ≡ true

-- each site of an instance and of the bodies in it has now what it has kept, and each outlet has the bodies that this calls for
abbrev mutual
  pub IsFresh : List Object → List Scope → Instance → Type 0
  IsFresh objects scopes (instance_with f scope states outlets) =
      ((n : ℕ) → instance_now objects scopes f.sites states n ≡ shown_as (kept_by states n)) × AreFilled objects scopes states (cases_of f.outlets) f.outlets outlets

  pub AllFresh : List Object → List Scope → Instances → Type 0
  AllFresh objects scopes no_instances = Unit {0}
  AllFresh objects scopes (instance_then i is) = IsFresh objects scopes i × AllFresh objects scopes is

  pub AreFilled : List Object → List Scope → List SiteState → CasesAt → List Outlet → Outlets → Type 0
  AreFilled objects scopes states cases os no_outlets = Unit {0}
  AreFilled objects scopes states cases [] (outlet_then rs is rest) = AllFresh objects scopes is × AreFilled objects scopes states cases [] rest
  AreFilled objects scopes states cases (o ∷ os) (outlet_then rs is rest) = IsFilled states cases o rs × AllFresh objects scopes is × AreFilled objects scopes states cases os rest
