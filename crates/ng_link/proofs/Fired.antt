-- The node of a site shows what is kept now.
use Rattle.std.proofs.Common.{◌≡◌, ℕ, List, ◌∷◌, Option, Some, None, refl, ap, ◌∙◌, sym, subst, inl, length}
use Rattle.std.specs.BTreeMap.{BTreeMap}
use Rattle.std.specs.Map.{lookup}
use Rattle.std.specs.Prelude.{option_map}
use Rattle.ng_base.specs.Views.{ViewTree}
use Rattle.ng_base.specs.declared.path.Key.{Key}
use Rattle.ng_control.specs.State.{ControlState}
use Rattle.ng_dom.specs.Document.{rooms, next_name, Shows, Becomes, Stays, Fewer}
use Rattle.ng_dom.specs.Drawing.{Look, Stand, Stands, text_stands, comment_stands, element_stands, block_stands, none_stand, stand_then, Source, of_text, of_comment, of_element, show, shows, HeldAll, DifferAt, joined, drawn_attributes}
use Rattle.ng_dom.specs.Editing.{changed_in, with_text, with_attributes}
use Rattle.ng_dom.specs.Nodes.{NamedForest, name_of, names_of}
use Rattle.ng_dom.specs.Rooms.{ReadsIn}
use Rattle.ng_dom.specs.declared.dom.Dom.{Dom}
use Rattle.ng_dom.proofs.Focus.{text_written, attributes_written}
use Rattle.ng_drawing.specs.Looks.{seen_by}
use Rattle.ng_behaviour.specs.Keys.{is_key}
use Rattle.ng_watch.specs.Seen.{Watcher}
use Rattle.ng_watch.specs.Table.{Table, watchers_of, with_kept}
use Rattle.ng_watch.specs.declared.watched.Watched.{Watched}
use Rattle.ng_build.specs.Controls.{Controls, state_under, control_changed}
use Rattle.ng_link.specs.Firing.{Redraw, nothing_new, a_text, on_element, drawn_anew, Tells, WritesAt}
use Rattle.ng_build.specs.Sources.{sources, source_of}
use Rattle.ng_link.specs.Standing.{WatchersStand, Standing}
use Rattle.ng_instances.specs.InstanceOf.{spot_in}
use Rattle.ng_link.specs.State.{Resting, kept_or, state_of, look_of, looks_of, looks_in, places_of}
use Rattle.ng_link.specs.declared.works.Works.{Works}
use Rattle.ng_link.proofs.Agree.{IsDrawn, Agree, all_agree}
use Rattle.ng_link.proofs.BuiltSame.{built_told}
use Rattle.ng_link.proofs.ControlStates.{control_differs, keeping_differs}
use Rattle.ng_link.proofs.Held.{built_held}
use Rattle.ng_instances.proofs.Keeping.{kept-other}
use Rattle.ng_link.proofs.Watched.{stand_kept}

-- what is shown differs at the key at most
pub kept_differs : (k : Key) (s : Option ViewTree) (t : Table) (r : Resting) (cs : Controls) → DifferAt k (looks_of t r cs) (looks_of (with_kept k s t) r cs)
kept_differs k s t r cs q ne = ap (λ (o : Option Watcher). look_of (seen_by (state_under q cs) (kept_or o (lookup (is_key q) r)))) (sym (kept-other k q s t ne))

-- what stands has the same names whatever it shows
same_name : (v w : Key → Look) (m : Stand) → name_of (show v m) ≡ name_of (show w m)
same_name v w (text_stands n ps) = refl
same_name v w (comment_stands n t) = refl
same_name v w (element_stands n e ats ms) = refl
same_name v w (block_stands n bs) = refl

same_names : (v w : Key → Look) (ms : Stands) → names_of (shows v ms) ≡ names_of (shows w ms)
same_names v w none_stand = refl
same_names v w (stand_then m ms) = ap (λ (n : ℕ). n ∷ names_of (shows v ms)) (same_name v w m) ∙ ap (λ (ns : List ℕ). name_of (show w m) ∷ ns) (same_names v w ms)

module _ (site : Key → Option ℕ) (d e : Dom) (k : Key) (v w : Key → Look) (ts : Stands) (held : HeldAll site (sources d) ts) (off : DifferAt k v w) (shown : Shows d (shows v ts)) where
  abbrev Told : Dom → Type 0
  Told x = Shows x (shows w ts) × ((q : ℕ) → sources x q ≡ sources d q)

  -- nothing is written, where nothing that is drawn shows the key
  unwritten : Agree site (sources d) v w → e ≡ d → Told e
  unwritten agree told = let same : shows v ts ≡ shows w ts = all_agree site (sources d) v w agree ts held in subst Told (sym told) (rw same at shown, λ q. refl)

  -- a node is written
  written : (f : NamedForest → NamedForest) → f (shows v ts) ≡ shows w ts → Becomes d e f → Stays d e → Told e
  written f law becomes stays =
      let R : NamedForest → Type 0 = λ g. ReadsIn (rooms e) None g in
      ((stays.top ∙ (shown.0 ∙ same_names v w ts), subst R law (becomes None (shows v ts) shown.1)), λ q. ap (option_map source_of) (stays.homes q))

  -- the key's node isn't drawn
  apart : (n : ℕ) → site k ≡ Some n → (IsDrawn (sources d n) → ⊥) → Agree site (sources d) v w
  apart n here none q m at drawn =
      let F : ℕ → Type 0 = λ x. IsDrawn (sources d x) in
      off q (λ is. let two : Some m ≡ Some n = sym at ∙ (ap site is ∙ here) in let same : m ≡ n = cc in none (subst F same drawn))

  -- the key has no node
  nowhere : site k ≡ None → Agree site (sources d) v w
  nowhere none q m at drawn = off q (λ is. let two : Some m ≡ None = sym at ∙ (ap site is ∙ none) in cc)

  tells_shows : (n : ℕ) (o : Option Source) → o ≡ sources d n → site k ≡ Some n → Tells (drawn_anew w o) n d e → Told e
  tells_shows n None is here told = unwritten (apart n here (λ drawn. subst IsDrawn (sym is) drawn)) told
  tells_shows n (Some of_comment) is here told = unwritten (apart n here (λ drawn. subst IsDrawn (sym is) drawn)) told
  tells_shows n (Some (of_text ps)) is here told =
      written (changed_in n (with_text (joined w ps))) (text_written site (sources d) k n ps v w ts here (sym is) held off) told.0 told.1
  tells_shows n (Some (of_element ats)) is here told =
      written (changed_in n (with_attributes (λ _. drawn_attributes w ats))) (attributes_written site (sources d) k n ats v w ts here (sym is) held off) told.0 told.1

  -- a document that showed what was kept before shows what is kept now
  written_shows : (o : Option ℕ) → site k ≡ o → WritesAt w o d e → Told e
  written_shows None is told = unwritten (nowhere is) told
  written_shows (Some n) is told = tells_shows n (sources d n) refl is told

-- what is written names no node
tells_next : (r : Redraw) (n : ℕ) (d e : Dom) → Tells r n d e → next_name e ≡ next_name d
tells_next nothing_new n d e told = ap (λ (x : Dom). next_name x) told
tells_next (a_text t) n d e told = told.1.next
tells_next (on_element ats) n d e told = told.1.next

pub written_next : (v : Key → Look) (o : Option ℕ) (d e : Dom) → WritesAt v o d e → next_name e ≡ next_name d
written_next v None d e told = ap (λ (x : Dom). next_name x) told
written_next v (Some n) d e told = tells_next (drawn_anew v (sources d n)) n d e told

-- what is written takes no node away
stays_fewer : (d e : Dom) → Stays d e → Fewer d e
stays_fewer d e stays = record { homes = λ q. inl (stays.homes q); next = stays.next }

unchanged_fewer : (d e : Dom) → e ≡ d → Fewer d e
unchanged_fewer d e same = subst (λ (x : Dom). Fewer d x) (sym same) (record { homes = λ q. inl refl; next = refl })

tells_fewer : (r : Redraw) (n : ℕ) (d e : Dom) → Tells r n d e → Fewer d e
tells_fewer nothing_new n d e told = unchanged_fewer d e told
tells_fewer (a_text t) n d e told = stays_fewer d e told.1
tells_fewer (on_element ats) n d e told = stays_fewer d e told.1

written_fewer : (v : Key → Look) (o : Option ℕ) (d e : Dom) → WritesAt v o d e → Fewer d e
written_fewer v None d e told = unchanged_fewer d e told
written_fewer v (Some n) d e told = tells_fewer (drawn_anew v (sources d n)) n d e told

-- what stood stands, where what is shown differs at a key at most, and the node of its site shows that
pub told_stands : (w : Works) (ws : List (Key × Watched)) (cs : BTreeMap Key ControlState) (d : Dom) (k : Key)
    → DifferAt k (looks_in (state_of w)) (looks_of (watchers_of ws) (state_of w).resting cs.entries)
    → WritesAt (looks_of (watchers_of ws) (state_of w).resting cs.entries) (spot_in w.inner.entries w.instances.entries k) w.dom d
    → WatchersStand (length (state_of w).core.objects) (watchers_of ws)
    → (ts : Stands) → Standing w ts → Standing (record w { watchers = ws; controls = cs; dom = d }) ts
told_stands w ws cs d k off writes watched ts g =
    let v = looks_in (state_of w) in
    let now = looks_of (watchers_of ws) (state_of w).resting cs.entries in
    let o = spot_in w.inner.entries w.instances.entries k in
    let is_held = built_held (places_of w) v w.dom (state_of w).instances ts g.built in
    let shown = written_shows (places_of w) w.dom d k v now ts is_held off g.built.holds.shows o refl writes in
    record {
      built = built_told (places_of w) v now w.dom d (state_of w).instances ts (written_fewer now o w.dom d writes) shown.0 shown.1 g.built;
      inner = g.inner;
      below = g.below;
      watched = watched;
    }

-- where the watcher of a key keeps something, and a control drops what was typed
pub kept_stands : (w : Works) (ws : List (Key × Watched)) (cs : BTreeMap Key ControlState) (d : Dom) (k : Key) (s : Option ViewTree) (f : ControlState → ControlState)
    → watchers_of ws ≡ with_kept k s (state_of w).watchers → cs.entries ≡ control_changed f k (state_of w).controls
    → WritesAt (looks_of (watchers_of ws) (state_of w).resting cs.entries) (spot_in w.inner.entries w.instances.entries k) w.dom d
    → (ts : Stands) → Standing w ts → Standing (record w { watchers = ws; controls = cs; dom = d }) ts
kept_stands w ws cs d k s f is dropped writes ts g =
    told_stands w ws cs d k
    (λ q ne. rw (is, dropped) (keeping_differs f k s (state_of w).watchers (state_of w).resting (state_of w).controls q ne)) writes
    (rw is (stand_kept (length (state_of w).core.objects) k s (state_of w).watchers g.watched)) ts g

-- where a control takes something
pub control_stands : (w : Works) (cs : BTreeMap Key ControlState) (d : Dom) (k : Key) (f : ControlState → ControlState) → cs.entries ≡ control_changed f k (state_of w).controls
    → WritesAt (looks_of (state_of w).watchers (state_of w).resting cs.entries) (spot_in w.inner.entries w.instances.entries k) w.dom d
    → (ts : Stands) → Standing w ts → Standing (record w { controls = cs; dom = d }) ts
control_stands w cs d k f is writes ts g =
    told_stands w w.watchers cs d k (λ q ne. rw is (control_differs f k (state_of w).watchers (state_of w).resting (state_of w).controls q ne)) writes g.watched ts g
