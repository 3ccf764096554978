use Rattle.std.proofs.Common.{◌≡◌, ◌<◌, ℕ, List, Option, ap, sym, subst, ◌∙◌, length, map}
use Rattle.std.specs.Prelude.{option_map, slice_get}
use Rattle.ng_base.specs.Views.{ViewTree}
use Rattle.ng_base.specs.declared.path.Key.{Key}
use Rattle.ng_behaviour.specs.Scopes.{object_at}
use Rattle.ng_value.specs.Snaps.{snap_of}
use Rattle.ng_value.specs.declared.snapshot.Snap.{Snap}
use Rattle.ng_instances.specs.BoundOf.{registered_of}
use Rattle.ng_instances.specs.Registering.{kept_of}
use Rattle.ng_instances.specs.Rows.{Row}
use Rattle.ng_build.proofs.Loops.{place_seen}
use Rattle.ng_instances.proofs.registering.site_row.Goals as goal

pub object-requires : goal.object-requires
object-requires c = subst (λ (n : ℕ). n < length c.args.core.now.scopes) (sym c.scope.ensures) (c.requires.grounded c.args.mark.over)

abbrev row : Key → ℕ → Option (ℕ × List ℕ) → Option ViewTree → Row
row k o w s = record { key = k; object = o; way = w; kept = s }

row_is : (k l : Key) (o p : ℕ) (w x : Option (ℕ × List ℕ)) (s t : Option ViewTree) → k ≡ l → o ≡ p → w ≡ x → s ≡ t → row k o w s ≡ row l p x t
row_is k l o p w x s t a b d e = ap (λ z. row z o w s) a ∙ (ap (λ z. row l z w s) b ∙ (ap (λ z. row l p z s) d ∙ ap (λ z. row l p x z) e))

pub returns : goal.returns
returns c =
    let r = registered_of c.args.made.now in
    let found = c.get.ensures.lookup in
    let kept = c.in_ok-copied_kept.ensures
    ∙ ap kept_of (place_seen (option_map snap_of) c.deref.result.now c.args.i c.get.result found.0 found.1 ∙ ap (λ (ks : List (Option Snap)). slice_get (map (option_map snap_of) ks) c.args.i) c.deref.ensures.value) in
    row_is _ _ _ _ _ _ _ _ c.in_ok-site_key.ensures (c.object.ensures ∙ ap (object_at c.args.core.now.scopes) c.scope.ensures) c.in_ok-way_for.ensures kept
