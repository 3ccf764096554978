-- What a watcher has kept is forgotten, where its site is drawn nowhere.
use Rattle.std.proofs.Common.{◌≡◌, Bool, true, false, List, Option, Some, None, refl, ap, ◌∙◌, sym, not, length}
use Rattle.std.specs.Prelude.{◌&&◌, is_some}
use Rattle.ng_base.specs.declared.path.Key.{Key}
use Rattle.ng_dom.specs.Drawing.{Look, Stands, DifferAt}
use Rattle.ng_watch.specs.Table.{Table, watchers_of, with_kept}
use Rattle.ng_watch.specs.declared.watched.Watched.{Watched}
use Rattle.ng_instances.specs.Bindings.{bound_in_table}
use Rattle.ng_instances.specs.Changing.{fills_any, is_drawn_in}
use Rattle.ng_link.specs.Calls.{is_drawn}
use Rattle.ng_instances.specs.Instances.{Linked, Instances, Inners, linked_for, is_site_of, is_site_in, is_site}
use Rattle.ng_link.specs.Standing.{IsBuilt, Standing}
use Rattle.ng_link.specs.State.{state_of, looks_of, looks_in, places_of}
use Rattle.ng_link.specs.declared.works.Works.{Works}
use Rattle.ng_link.proofs.Undrawn.{filling_forgotten, binding_forgotten}
use Rattle.ng_link.proofs.BuiltSame.{built_same}
use Rattle.ng_link.proofs.Fired.{kept_differs}
use Rattle.ng_link.proofs.Grown.{is_some_of}
use Rattle.ng_link.proofs.PlacedSites.{placed_site}
use Rattle.ng_link.proofs.Watched.{stand_kept}

module _ (w : Works) (ws : List (Key × Watched)) (k : Key) (is_table : watchers_of ws ≡ with_kept k None (state_of w).watchers) (off : is_drawn (state_of w) k ≡ false) (ts : Stands) (g : Standing w ts) where
  abbrev same : Table
  same = with_kept k None (state_of w).watchers

  abbrev inner : Inners
  inner = (state_of w).inner

  abbrev is : Instances
  is = (state_of w).instances

  abbrev now : Key → Look
  now = looks_of same (state_of w).resting (state_of w).controls

  abbrev Forgets : Type 0
  Forgets = IsBuilt (places_of w) now w.dom is ts

  differs : DifferAt k (looks_in (state_of w)) now
  differs = kept_differs k None (state_of w).watchers (state_of w).resting (state_of w).controls

  -- a key that is no site's
  no_site : is_site inner is k ≡ false → Forgets
  no_site none =
      built_same (places_of w) (looks_in (state_of w)) now w.dom is ts
      (λ q n at. differs q
      (λ is_k. let site : is_site inner is q ≡ true = placed_site w q (is_some_of (places_of w q) n at) in
      let two : true ≡ false = sym site ∙ (ap (is_site inner is) is_k ∙ none) in cc)) g.built

  by_bound : (l : Linked) → linked_for inner k.path is ≡ Some l → (b : Bool) → is_some (bound_in_table k.serial.0 l.page.bounds) ≡ b → (is_site_of l.page k.serial.0 && not b) ≡ false → Forgets
  by_bound l found true noted e = binding_forgotten (places_of w) (looks_in (state_of w)) now w.dom inner is ts g.built g.inner k l found differs noted
  by_bound l found false noted e = no_site (ap (λ (o : Option Linked). is_site_in o k) found ∙ alone (is_site_of l.page k.serial.0) e)
    where
      alone : (c : Bool) → (c && not false) ≡ false → c ≡ false
      alone true h = absurd (cc)
      alone false h = refl

  by_filling : (l : Linked) → linked_for inner k.path is ≡ Some l → (b : Bool) → fills_any k.serial.0 l.page.outlets ≡ b → (is_site_of l.page k.serial.0 && (not b && not (is_some (bound_in_table k.serial.0 l.page.bounds)))) ≡ false → Forgets
  by_filling l found true fills e = filling_forgotten (places_of w) (looks_in (state_of w)) now w.dom inner is ts g.built g.inner k l found differs fills
  by_filling l found false fills e = by_bound l found (is_some (bound_in_table k.serial.0 l.page.bounds)) refl e

  by_linked : (o : Option Linked) → linked_for inner k.path is ≡ o → Forgets
  by_linked None found = no_site (ap (λ (o : Option Linked). is_site_in o k) found)
  by_linked (Some l) found =
      by_filling l found (fills_any k.serial.0 l.page.outlets) refl (sym (ap (λ (o : Option Linked). is_drawn_in o k) found) ∙ off)

  pub unset_stands : Standing (record w { watchers = ws }) ts
  unset_stands = record {
    built = rw is_table (by_linked (linked_for inner k.path is) refl);
    inner = g.inner;
    below = g.below;
    watched = rw is_table (stand_kept (length (state_of w).core.objects) k None (state_of w).watchers g.watched);
  }
