-- The places of bodies, by their paths.
use Rattle.std.proofs.Common.{◌≡◌, ◌<◌, ℕ, Bool, true, false, cond, List, [], ◌∷◌, Some, refl, ap, ◌∙◌, sym, subst, map, length, get_or}
use Rattle.std.specs.BTreeMap.{insert_entry}
use Rattle.std.specs.Map.{lookup}
use Rattle.std.specs.Ordering.{is_eq, match_ordering}
use Rattle.std.specs.declared.cmp.Ordering.{Ordering}
use Rattle.std.specs.declared.cmp.Ordering.TheVariants.{Less, Equal, Greater}
use Rattle.std.proofs.lemmas.Option.{slice_get-map, slice_get-get_or}
use Rattle.std.specs.Prelude.{option_map}
use Rattle.ng_base.specs.Order.{path_cmp}
use Rattle.ng_link.specs.Arranging.{ArePlaces, IsPlaceOf}
use Rattle.ng_instances.specs.Instances.{Body, is_path}
use Rattle.ng_instances.specs.InstanceOf.{body_of}
use Rattle.ng_instances.specs.declared.instances.Body as code
use Rattle.ng_instances.proofs.PathIs.{path_is}

-- one more
pub places_more : (bs : List Body) (p : List ℕ) (i : ℕ) → IsPlaceOf bs p i → (es : List (List ℕ × ℕ)) → ArePlaces bs es → ArePlaces bs (insert_entry path_cmp es p i)
places_more bs p i one [] all = (one, tt)
places_more bs p i one (e ∷ es) all = by_order (path_cmp p e.0) refl (places_more bs p i one es all.1)
  where
    by_order : (o : Ordering) → path_cmp p e.0 ≡ o → ArePlaces bs (insert_entry path_cmp es p i) → ArePlaces bs (match_ordering o ((p, i) ∷ e ∷ es) ((e.0, i) ∷ es) (e ∷ insert_entry path_cmp es p i))
    by_order Less is more = (one, all)
    by_order Equal is more = (subst (λ (q : List ℕ). IsPlaceOf bs q i) (path_is p e.0 (ap is_eq is)) one, all.1)
    by_order Greater is more = (all.0, more)

-- the one that is found
pub place_found : (bs : List Body) (p : List ℕ) (i : ℕ) (es : List (List ℕ × ℕ)) → ArePlaces bs es → lookup (is_path p) es ≡ Some i → IsPlaceOf bs p i
place_found bs p i [] all at = absurd (cc)
place_found bs p i (e ∷ es) all at = by_test (is_path p e.0) refl at (place_found bs p i es all.1)
  where
    by_test : (b : Bool) → is_path p e.0 ≡ b → cond b (Some e.1) (lookup (is_path p) es) ≡ Some i → (lookup (is_path p) es ≡ Some i → IsPlaceOf bs p i) → IsPlaceOf bs p i
    by_test true is found more =
        let one : e.1 ≡ i = cc in
        subst (λ (k : ℕ). IsPlaceOf bs p k) one (subst (λ (q : List ℕ). IsPlaceOf bs q e.1) (sym (path_is p e.0 is)) all.0)
    by_test false is found more = more found

-- the body at a place is there
pub place_here : (bs : List code.Body) (i : ℕ) (b : code.Body) → i < length bs → b ≡ get_or bs i b → IsPlaceOf (map body_of bs) b.path i
place_here bs i b lt is = (body_of b, slice_get-map body_of bs i ∙ ap (option_map body_of) (slice_get-get_or bs i b lt ∙ ap Some (sym is)), refl)
