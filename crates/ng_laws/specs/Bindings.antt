-- What the scopes of an application's directives share with those outside (guide: Directives; API: `$compile`, `scope`, `transclude`).
use Rattle.std.specs.Prelude.{ℕ, ◌≡◌, ◌<◌, false, List, length, Option, Some, None, slice_get, Result, Ok, bytes_eq}
use Rattle.ng_base.specs.Objects.{Object, own}
use Rattle.ng_base.specs.Views.{ViewTree}
use Rattle.ng_base.specs.declared.fault.Fault.{Fault}
use Rattle.ng_behaviour.specs.ScopeObjects.{id_name, parent_name, root_name}
use Rattle.ng_behaviour.specs.Scopes.{object_at}
use Rattle.ng_core.specs.State as act
use Rattle.ng_drawing.specs.Template.{Outside, Site}
use Rattle.ng_drawing.specs.declared.kind.SiteKind.TheVariants as sites
use Rattle.ng_steps.specs.Links.{opening_run}
use Rattle.ng_language.specs.Objects.{proto_of, look, AreObjects}
use Rattle.ng_language.specs.Trees.{Trees}
use Rattle.ng_instances.specs.Bindings.{bound_in_table, bound_both}
use Rattle.ng_instances.specs.Instances.{Linked, linked_at, key_in}
use Rattle.ng_build.specs.Linking.{a_slot}
use Rattle.ng_instances.specs.Registering.{Ground, outside_in_ground}
use Rattle.ng_link.specs.Standing.{AreInner}
use Rattle.ng_link.specs.State.{State}
use Rattle.ng_commands.specs.Settled.{IsSettled, IsWatched, watching_at}
use Rattle.ng_value.specs.Taken.{taken}
use Rattle.ng_watch.specs.Now.{value_now, two_way_kind}
use Rattle.ng_watch.specs.Seen.{Watcher}
use Rattle.ng_watch.specs.Table.{found}
use Rattle.ng_watch.specs.Verdicts.{own_value}

-- Two sides are one value: what the parent's expression gives has this snapshot, what the isolate scope itself has under the name has the same one, and
-- it is the last that was kept. A fresh list or record is compared by what it holds, and any other value by identity.
pub record AreOneValue (objects : List Object) (parent : Result ViewTree Fault) (own : ViewTree) (kept : Option ViewTree) : Type 0 where
  pub value : ViewTree
  pub snapshot : ViewTree
  pub is : parent ≡ Ok value
  pub of_parent : taken (two_way_kind value) objects value ≡ Ok snapshot
  pub of_own : taken (two_way_kind value) objects own ≡ Ok snapshot
  pub last : kept ≡ Some snapshot

-- In a settled page both sides of each two-way binding that is watched are one value: the site of the binding is the i-th of an instance, and goes the one
-- way or the other between a name of an isolate scope and the scope round its element.
abbrev pub BothSidesAgree : Type 0
BothSidesAgree = (s : State) (p : List ℕ) (l : Linked) (i n : ℕ) (x : Site) (scope over : ℕ) (name : List ℕ) (writes : Option Trees) (w : Watcher)
    → IsSettled s → IsWatched s → AreInner s.inner s.instances → linked_at p s.instances ≡ Some l → slice_get l.page.serials i ≡ Some n → slice_get l.fragment.sites i ≡ Some x
    → x.kind ≡ sites.TwoWay → bound_in_table n l.page.bounds ≡ Some (bound_both scope name over writes) → found (key_in l.page n) s.watchers ≡ Some w
    → AreOneValue s.core.objects (value_now s.core.objects (watching_at s.core.scopes l.page n x)) (own_value s.core.objects (object_at s.core.scopes scope) name) w.kept

-- An object reads the names of another: it inherits from that, and has `$id`, `$parent` and `$root` alone of its own. Whatever is written later, as long as
-- it inherits from that, it reads there what it has not itself.
pub record ReadsFrom (objects : List Object) (o outside : ℕ) : Type 0 where
  pub proto : proto_of objects o ≡ Some outside
  pub bare : (name : List ℕ) → bytes_eq name id_name ≡ false → bytes_eq name parent_name ≡ false → bytes_eq name root_name ≡ false → own objects o name ≡ None
  pub reads : (later : List Object) → AreObjects later → o < length later → proto_of later o ≡ Some outside → (name : List ℕ) → own later o name ≡ None → look later o name ≡ look later outside name

-- The scope of what a slot is given is a child of the slot's scope, and reads the names of the scope outside the directive: none of an isolate scope
-- between them.
abbrev pub TranscludedReadsOutside : Type 0
TranscludedReadsOutside = (g : Ground) (n : ℕ) (o : Outside) (c d : act.State) (k : ℕ) → opening_run g (a_slot n o) c ≡ (d, Ok k)
    → ReadsFrom d.objects (object_at d.scopes k) (object_at c.scopes (outside_in_ground g o))
