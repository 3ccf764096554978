-- The verdict of a watcher is that of its snapshot of now.
use Rattle.std.proofs.Common.{◌≡◌, Bool, true, false, cond, not, List, Option, Some, None, Result, Ok, Err, refl, ap, sym, ◌∙◌}
use Rattle.ng_base.specs.Meets.{◌>>=◌}
use Rattle.ng_base.specs.Objects.{Object}
use Rattle.ng_base.specs.Views.{ViewTree}
use Rattle.ng_base.specs.declared.fault.Fault.{Fault}
use Rattle.ng_language.specs.Snapshots.{same_view, differs}
use Rattle.ng_value.proofs.Sameness.{same_view_is, same_view_self}
use Rattle.ng_watch.specs.Laws.{is_two_way, CleanHasKept, FaultsAreOfNow, KeptIsClean}
use Rattle.ng_watch.specs.Now.{value_now, snapshot_of, now}
use Rattle.ng_watch.specs.Seen.{Watcher}
use Rattle.ng_watch.specs.Table.{keeping}
use Rattle.ng_watch.specs.Verdicts.{clean, dirty, against, verdict_of, verdict}
use Rattle.ng_watch.specs.declared.watch.WatchKind.{WatchKind}
use Rattle.ng_watch.specs.declared.watch.WatchKind.TheVariants as kinds

-- the verdict of a kind that is no binding's
by_kind : (kind : WatchKind) (kept : Option ViewTree) (objects : List Object) (v : ViewTree) → is_two_way kind ≡ false → verdict_of kind kept objects v ≡ (snapshot_of kind objects v >>= λ s. Ok (against kept s))
by_kind kinds.Reference kept objects v h = refl
by_kind kinds.Collection kept objects v h = refl
by_kind kinds.Deep kept objects v h = refl
by_kind kinds.Text kept objects v h = refl
by_kind kinds.Words kept objects v h = refl
by_kind (kinds.TwoWay dest name) kept objects v h = absurd (cc)

by_value : (w : Watcher) (objects : List Object) (r : Result ViewTree Fault) → is_two_way w.watch.kind ≡ false → (r >>= verdict_of w.watch.kind w.kept objects) ≡ ((r >>= snapshot_of w.watch.kind objects) >>= λ s. Ok (against w.kept s))
by_value w objects (Ok v) h = by_kind w.watch.kind w.kept objects v h
by_value w objects (Err f) h = refl

by_now : (objects : List Object) (w : Watcher) → is_two_way w.watch.kind ≡ false → verdict objects w ≡ (now objects w.watch >>= λ s. Ok (against w.kept s))
by_now objects w h = by_value w objects (value_now objects w.watch) h

-- against itself a snapshot is clean
itself : (s : ViewTree) → against (Some s) s ≡ clean
itself s = rw (same_view_self s) refl

clean_same : (kept : Option ViewTree) (s : ViewTree) → against kept s ≡ clean → kept ≡ Some s
clean_same None s e = absurd (cc)
clean_same (Some k) s e = by_test (same_view s k) refl e
  where
    by_test : (b : Bool) → same_view s k ≡ b → cond (not b) (dirty s) clean ≡ clean → Some k ≡ Some s
    by_test true t e = ap (λ x. Some x) (sym (same_view_is s k t))
    by_test false t e = absurd (cc)

dirty_same : (kept : Option ViewTree) (s t : ViewTree) → against kept s ≡ dirty t → s ≡ t
dirty_same None s t e = cc
dirty_same (Some k) s t e = by_test (differs s k) e
  where
    by_test : (b : Bool) → cond b (dirty s) clean ≡ dirty t → s ≡ t
    by_test true e = cc
    by_test false e = absurd (cc)

clean_of : (kept : Option ViewTree) (r : Result ViewTree Fault) → (r >>= λ s. Ok (against kept s)) ≡ Ok clean → (s : ViewTree) × (r ≡ Ok s) × (kept ≡ Some s)
clean_of kept (Ok s) e = (s, refl, clean_same kept s (let i : against kept s ≡ clean = cc in i))
clean_of kept (Err f) e = absurd (cc)

pub clean_has_kept : CleanHasKept
clean_has_kept objects w h = (
  λ e. clean_of w.kept (now objects w.watch) (sym (by_now objects w h) ∙ e),
  λ p. by_now objects w h ∙ rw (p.1, p.2, itself p.0) refl,
)

fault_of : (kept : Option ViewTree) (r : Result ViewTree Fault) (f : Fault) → (r >>= λ s. Ok (against kept s)) ≡ Err f → r ≡ Err f
fault_of kept (Ok s) f e = absurd (cc)
fault_of kept (Err g) f e = cc

pub faults_are_of_now : FaultsAreOfNow
faults_are_of_now objects w h f = (
  λ e. fault_of w.kept (now objects w.watch) f (sym (by_now objects w h) ∙ e),
  λ e. by_now objects w h ∙ rw e refl,
)

dirty_of : (kept : Option ViewTree) (r : Result ViewTree Fault) (t : ViewTree) → (r >>= λ s. Ok (against kept s)) ≡ Ok (dirty t) → r ≡ Ok t
dirty_of kept (Ok s) t e = ap (λ x. Ok x) (dirty_same kept s t (let i : against kept s ≡ dirty t = cc in i))
dirty_of kept (Err f) t e = absurd (cc)

pub kept_is_clean : KeptIsClean
kept_is_clean objects w s h e =
    let n = dirty_of w.kept (now objects w.watch) s (sym (by_now objects w h) ∙ e) in
    by_now objects (keeping (Some s) w) h ∙ rw (n, itself s) refl
