-- Where the watcher of a two-way binding is clean, both its sides agree.
use Rattle.std.proofs.Common.{◌≡◌, ℕ, Bool, true, false, List, Option, Some, None, Result, Ok, Err, refl, ap, sym, ◌∙◌, not}
use Rattle.ng_base.specs.Meets.{◌>>=◌}
use Rattle.ng_base.specs.Objects.{Object}
use Rattle.ng_base.specs.Views.{ViewTree}
use Rattle.ng_base.specs.declared.fault.Fault.{Fault}
use Rattle.ng_base.specs.declared.name.Oid.{Oid}
use Rattle.ng_bind.specs.Flows.{flow_of}
use Rattle.ng_language.specs.Snapshots.{same_view, differs}
use Rattle.ng_value.proofs.Sameness.{same_view_is}
use Rattle.ng_value.specs.Taken.{taken}
use Rattle.ng_watch.specs.Now.{value_now, two_way_kind}
use Rattle.ng_watch.specs.Seen.{Watcher}
use Rattle.ng_watch.specs.Verdicts.{Judged, clean, own_value, won, synced, bound, verdict_of, verdict}
use Rattle.ng_watch.specs.declared.watch.WatchKind.{WatchKind}
use Rattle.ng_watch.specs.declared.watch.WatchKind.TheVariants as kinds
use Rattle.ng_page.specs.Laws.{SidesAgree, SettledBindingsAgree}

-- where neither side has changed, each is what was kept
neither_changed : (a b : Bool) (p o : ViewTree) → won (flow_of a b) p o ≡ clean → (a ≡ false) × (b ≡ false)
neither_changed true true p o e = absurd (cc)
neither_changed true false p o e = absurd (cc)
neither_changed false true p o e = absurd (cc)
neither_changed false false p o e = (refl, refl)

not_different : (t u : ViewTree) → differs t u ≡ false → t ≡ u
not_different t u e = same_view_is t u (by_test (same_view t u) e)
  where
    by_test : (b : Bool) → not b ≡ false → b ≡ true
    by_test true e = refl
    by_test false e = absurd (cc)

clean_in : (j : Judged) → ◌≡◌ {A = Result Judged Fault} (Ok j) (Ok clean) → j ≡ clean
clean_in j e = cc

module _ (objects : List Object) (w : Watcher) (dest : Oid) (name : List ℕ) where
  abbrev own : ViewTree
  own = own_value objects dest.0 name

  module _ (v : ViewTree) (now : value_now objects w.watch ≡ Ok v) where
    by_own : (p last : ViewTree) → taken (two_way_kind v) objects v ≡ Ok p → w.kept ≡ Some last → (r : Result ViewTree Fault) → taken (two_way_kind v) objects own ≡ r → (r >>= λ o. Ok (synced last p o)) ≡ Ok clean → SidesAgree objects w dest.0 name
    by_own p last parent kept (Err e) is h = absurd (cc)
    by_own p last parent kept (Ok o) is h =
        let two = neither_changed (differs p last) (differs o last) p o (clean_in (synced last p o) h) in
        record {
          value = v;
          last = last;
          now = now;
          parent = parent ∙ ap Ok (not_different p last two.0);
          own = is ∙ ap Ok (not_different o last two.1);
          kept = kept;
        }

    by_kept : (p : ViewTree) → taken (two_way_kind v) objects v ≡ Ok p → (k : Option ViewTree) → w.kept ≡ k → bound (two_way_kind v) objects own k p ≡ Ok clean → SidesAgree objects w dest.0 name
    by_kept p parent None is h = absurd (cc)
    by_kept p parent (Some last) is h = by_own p last parent is (taken (two_way_kind v) objects own) refl h

    by_parent : (r : Result ViewTree Fault) → taken (two_way_kind v) objects v ≡ r → (r >>= bound (two_way_kind v) objects own w.kept) ≡ Ok clean → SidesAgree objects w dest.0 name
    by_parent (Err e) is h = absurd (cc)
    by_parent (Ok p) is h = by_kept p is w.kept refl h

  by_value : (r : Result ViewTree Fault) → value_now objects w.watch ≡ r → (r >>= verdict_of (kinds.TwoWay dest name) w.kept objects) ≡ Ok clean → SidesAgree objects w dest.0 name
  by_value (Err e) is h = absurd (cc)
  by_value (Ok v) is h = by_parent v is (taken (two_way_kind v) objects v) refl h

  sides_agree : w.watch.kind ≡ kinds.TwoWay dest name → verdict objects w ≡ Ok clean → SidesAgree objects w dest.0 name
  sides_agree kind e = by_value (value_now objects w.watch) refl (sym (ap (λ (k : WatchKind). value_now objects w.watch >>= verdict_of k w.kept objects) kind) ∙ e)

pub bindings_agree : SettledBindingsAgree
bindings_agree s settled k w dest name found kind = sides_agree s.core.objects w dest name kind (settled k w found)
