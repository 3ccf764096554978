-- Where nothing is linked, nothing stands.
use Rattle.std.proofs.Common.{◌≡◌, ℕ, List, [], Option, None, refl, ap, sym, subst, length}
use Rattle.ng_base.specs.Order.{path_cmp}
use Rattle.ng_base.specs.declared.path.Key.{Key}
use Rattle.ng_dom.specs.Document.{rooms, top}
use Rattle.ng_dom.specs.Drawing.{Look, none_stand}
use Rattle.ng_dom.specs.declared.dom.Dom.{Dom}
use Rattle.ng_watch.specs.Table.{Table, watchers_of}
use Rattle.ng_instances.specs.Instances.{Instances, Inners}
use Rattle.ng_link.specs.Standing.{IsBuilt, AreInner, WatchersStand, Standing}
use Rattle.ng_instances.specs.InstanceOf.{instances_of, spot_in}
use Rattle.ng_link.specs.State.{looks_in, places_of, state_of, templates_of}
use Rattle.ng_instances.specs.declared.instances.Linked as code
use Rattle.ng_link.specs.declared.works.Works.{Works}
use Rattle.ng_link.proofs.Grown.{no_some}
use Rattle.ng_link.proofs.Names.{distinct_up}
use Rattle.ng_link.proofs.Sorted.{none_in_order}

bare_built : (places : Key → Option ℕ) (looks : Key → Look) (d : Dom) → ((q : ℕ) → rooms d q ≡ None) → top d ≡ [] → IsBuilt places looks d [] none_stand
bare_built places looks d none bare = record {
  holds = record { shows = (bare, tt); all = λ q live. absurd (no_some (rooms d q) (none q) live); once = distinct_up 0 0 };
  stands = refl;
  homed = tt;
  ordered = none_in_order path_cmp;
  each = tt;
  apart = tt;
  bodies = record { linked = λ holder p held. let at = held.1 in absurd (cc); held = λ p some. absurd (cc); nearest = λ holder p q held. let at = held.1 in absurd (cc) };
}

bare_inner : AreInner [] []
bare_inner = record {
  ordered = none_in_order path_cmp;
  leads = λ q path at. absurd (cc);
  noted = λ path l at. absurd (cc);
  apart = λ path some. absurd (cc);
  nearest = λ q path some. absurd (cc);
}

pub nothing_stands : (w : Works) → w.instances.entries ≡ [] → w.inner.entries ≡ [] → watchers_of w.watchers ≡ [] → ((q : ℕ) → rooms w.dom q ≡ None) → top w.dom ≡ [] → Standing w none_stand
nothing_stands w nothing alone unwatched none bare =
    let is_nothing : (state_of w).instances ≡ [] = ap (instances_of (templates_of w)) nothing in
    record {
      built = subst (λ (x : Instances). IsBuilt (places_of w) (looks_in (state_of w)) w.dom x none_stand) (sym is_nothing) (bare_built (places_of w) (looks_in (state_of w)) w.dom none bare);
      inner = subst (λ (x : Instances). AreInner w.inner.entries x) (sym is_nothing) (subst (λ (t : Inners). AreInner t []) (sym alone) bare_inner);
      below = λ k h. absurd (no_some (places_of w k) (ap (λ (es : List (List ℕ × code.Linked)). spot_in w.inner.entries es k) nothing) h);
      watched = subst (λ (t : Table). WatchersStand (length (state_of w).core.objects) t) (sym unwatched) tt;
    }
