-- Both sides of a two-way binding are one value once its watcher is clean.
use Rattle.std.proofs.Common.{◌≡◌, ℕ, zero, suc, Bool, true, List, [], ◌∷◌, Option, Some, ap, sym, subst, ◌∙◌}
use Rattle.std.specs.Prelude.{slice_get}
use Rattle.ng_base.specs.declared.path.Key.{Key}
use Rattle.ng_behaviour.specs.Scopes.{object_at}
use Rattle.ng_drawing.specs.Template.{Site}
use Rattle.ng_drawing.specs.declared.kind.SiteKind.{SiteKind}
use Rattle.ng_instances.specs.Bindings.{Bound}
use Rattle.ng_instances.specs.Instances.{key_in}
use Rattle.ng_instances.specs.Registering.{way_of}
use Rattle.ng_instances.specs.Rows.{kind_with}
use Rattle.ng_commands.specs.Settled.{WatchesAt, site_keys, watching_at, AreWatched, leads_in}
use Rattle.ng_page.proofs.Agreeing.{bindings_agree}
use Rattle.ng_page.proofs.Rendering.{key_led}
use Rattle.ng_commands.proofs.Watched.{number_there}
use Rattle.ng_watch.specs.Now.{value_now}
use Rattle.ng_watch.specs.Seen.{Watching}
use Rattle.ng_watch.specs.Table.{Table}
use Rattle.ng_watch.specs.declared.watch.WatchKind.TheVariants as kinds
use Rattle.ng_laws.specs.Bindings.{BothSidesAgree}

-- what is watched under the key of a site, where that leads to it
watched_at : (leads : Key → Bool) (t : Table) (keys : ℕ → Key) (watching : ℕ → Site → Watching) (ns : List ℕ) (xs : List Site) (i n : ℕ) (x : Site) → AreWatched leads t keys watching ns xs → slice_get ns i ≡ Some n → slice_get xs i ≡ Some x
    → leads (keys n) ≡ true → WatchesAt (keys n) (watching n x) t
watched_at leads t keys watching ns [] i n x h e d led = absurd (cc)
watched_at leads t keys watching [] (y ∷ ys) i n x h e d led = absurd h
watched_at leads t keys watching (m ∷ ns) (y ∷ ys) zero n x h e d led =
    let same : m ≡ n = cc in
    let is : y ≡ x = cc in
    subst (λ (z : Site). WatchesAt (keys n) (watching n z) t) is (subst (λ (k : ℕ). WatchesAt (keys k) (watching k y) t) same (h.0 (ap (λ (k : ℕ). leads (keys k)) same ∙ led)))
watched_at leads t keys watching (m ∷ ns) (y ∷ ys) (suc i) n x h e d led = watched_at leads t keys watching ns ys i n x h.1 e d led

pub both_sides_agree : BothSidesAgree
both_sides_agree s p l i n x scope over name writes w settled watched inner at serial site two_way bounds there =
    let linked = watched.linked p l at in
    let led : leads_in s (key_in l.page n) ≡ true = key_led s inner p l at linked.path n (number_there l.page.serials i n serial) in
    let is : w.watch ≡ watching_at s.core.scopes l.page n x =
    watched_at (leads_in s) s.watchers (site_keys l.page) (watching_at s.core.scopes l.page) l.page.serials l.fragment.sites i n x linked.watched serial site led w there in
    let kind : w.watch.kind ≡ kinds.TwoWay (record { 0 = object_at s.core.scopes scope }) name =
    ap (λ (v : Watching). v.kind) is
    ∙ (ap (λ (b : Option Bound). kind_with x.kind (way_of s.core.scopes b)) bounds ∙ ap (λ (k : SiteKind). kind_with k (Some (object_at s.core.scopes scope, name))) two_way) in
    let sides = bindings_agree s settled (key_in l.page n) w (record { 0 = object_at s.core.scopes scope }) name there kind in
    record {
      value = sides.value;
      snapshot = sides.last;
      is = ap (value_now s.core.objects) (sym is) ∙ sides.now;
      of_parent = sides.parent;
      of_own = sides.own;
      last = sides.kept;
    }
