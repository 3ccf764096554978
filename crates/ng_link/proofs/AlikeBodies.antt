-- Bodies on the same paths, one by one, and the places of bodies in turn, as loops over them tell it.
use Rattle.std.proofs.Common.{◌≡◌, ◌<◌, ◌+◌, ℕ, suc, Bool, true, false, List, [], ◌∷◌, ◌++◌, refl, ap, ◌∙◌, sym, map, length, get_or, drop, take}
use Rattle.std.specs.Prelude.{◌&&◌}
use Rattle.std.proofs.lemmas.List.{take_more, map_push}
use Rattle.ng_link.specs.Arranging.{are_alike, AreAt, IsPlaceOf}
use Rattle.ng_instances.specs.Instances.{Body, is_path}
use Rattle.ng_instances.specs.InstanceOf.{body_of}
use Rattle.ng_instances.specs.declared.instances.Body as code
use Rattle.ng_build.proofs.Loops.{next_seen}

-- as many more on one side
pub alike_longer : (bs cs : List Body) → (length bs ≡ length cs → ⊥) → are_alike bs cs ≡ false
alike_longer [] [] ne = absurd (ne refl)
alike_longer [] (c ∷ cs) ne = refl
alike_longer (b ∷ bs) [] ne = refl
alike_longer (b ∷ bs) (c ∷ cs) ne = by_path (is_path b.path c.path) (alike_longer bs cs (λ e. ne (ap suc e)))
  where
    by_path : (t : Bool) → are_alike bs cs ≡ false → (t && are_alike bs cs) ≡ false
    by_path true e = e
    by_path false e = refl

-- from one place on, by what is there and by what is from the next on
pub alike_next : (bs cs : List code.Body) (i : ℕ) (b c : code.Body) (t : Bool) → i < length bs → i < length cs → b ≡ get_or bs i b → c ≡ get_or cs i c → is_path b.path c.path ≡ t
    → are_alike (map body_of (drop i bs)) (map body_of (drop i cs)) ≡ (t && are_alike (map body_of (drop (i + 1) bs)) (map body_of (drop (i + 1) cs)))
alike_next bs cs i b c t in_left in_right left right on =
    let rest = are_alike (map body_of (drop (i + 1) bs)) (map body_of (drop (i + 1) cs)) in
    ap (λ (xs : List Body). are_alike xs (map body_of (drop i cs))) (next_seen body_of bs i b in_left left)
    ∙ (ap (are_alike (body_of b ∷ map body_of (drop (i + 1) bs))) (next_seen body_of cs i c in_right right)
    ∙ ap (λ (s : Bool). s && rest) on)

-- one place more
pub at_more : (old : List Body) (is : List ℕ) (bs : List Body) (i : ℕ) (b : Body) → IsPlaceOf old b.path i → AreAt old is bs → AreAt old (is ++ i ∷ []) (bs ++ b ∷ [])
at_more old [] [] i b one all = (one, tt)
at_more old [] (c ∷ bs) i b one all = absurd all
at_more old (k ∷ is) [] i b one all = absurd all
at_more old (k ∷ is) (c ∷ bs) i b one all = (all.0, at_more old is bs i b one all.1)

pub seen_more : (bs : List code.Body) (i : ℕ) (b : code.Body) → i < length bs → b ≡ get_or bs i b → map body_of (take (i + 1) bs) ≡ map body_of (take i bs) ++ body_of b ∷ []
seen_more bs i b lt is =
    ap (map body_of) (take_more bs i b lt)
    ∙ (map_push body_of (take i bs) (get_or bs i b) ∙ ap (λ (x : code.Body). map body_of (take i bs) ++ body_of x ∷ []) (sym is))
