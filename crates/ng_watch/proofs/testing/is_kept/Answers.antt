use Rattle.std.proofs.Common.{rules, ◌≡◌, ◌∙◌, Bool, true, not, Result, Ok, Some, sym, ap, if◌then◌else◌}
use Rattle.ng_base.specs.Meets.{◌>>=◌}
use Rattle.ng_base.specs.Views.{ViewTree, prim}
use Rattle.ng_base.specs.ViewOf.{view_of}
use Rattle.ng_base.specs.declared.fault.Fault.{Fault}
use Rattle.ng_base.specs.declared.view.View.{Prim, the_lemmas}
use Rattle.ng_language.specs.Operators.{same}
use Rattle.ng_value.specs.Snaps.{snap_of}
use Rattle.ng_watch.specs.Verdicts.{Judged, against, clean, dirty}
use Rattle.ng_watch.proofs.ByReference.{kept_as_is}
use Rattle.ng_watch.proofs.testing.is_kept.Goals as goal

pub returns-in-Prim : goal.returns-in-Prim
returns-in-Prim c = λ h objects.
    let v = c.args.value.now in
    let last = c.in-Prim.last in
    let shown : view_of (Prim last) ≡ prim last = search (rules, the_lemmas) in
    let kept : snap_of c.args.kept.now ≡ prim last = sym c.view.ensures ∙ (ap view_of c.in-Prim.is ∙ shown) in
    let is : same v last ≡ true = sym c.same.ensures.value ∙ h in
    ap (λ (r : Result ViewTree Fault). r >>= λ s. Ok (against (Some (snap_of c.args.kept.now)) s)) (kept_as_is objects v)
    ∙ (ap (λ (k : ViewTree). Ok (against (Some k) (prim v))) kept
    ∙ ap (λ (b : Bool). Ok (if not b then dirty (prim v) else clean)) is)
