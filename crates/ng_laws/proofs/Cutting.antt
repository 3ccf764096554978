-- A text is cut where its holes stand.
use Rattle.std.proofs.Common.{◌≡◌, ℕ, Bool, true, false, List, [], ◌∷◌, ◌++◌, map, length, Option, None, Some, is_some, refl, ap, sym, ◌∙◌, inl, inr, append_assoc, append-nil}
use Rattle.std.proofs.lemmas.List.{map-append}
use Rattle.std.specs.Prelude.{encode_utf8_all}
use Rattle.std.specs.List.{AllByRecursion, flat_map}
use Rattle.ng_base.specs.Cells.{place}
use Rattle.ng_interp.specs.Cutting.{is_pair, last_cut, cuts_behind, opened_at, cut_from}
use Rattle.ng_interp.specs.declared.cutting.Cut.{Cut}
use Rattle.ng_interp.specs.declared.cutting.Cut.TheVariants.{Words, Hole}
use Rattle.ng_interp.specs.declared.cutting.Opened.{Opened}
use Rattle.ng_interp.proofs.CutSteps.{one_more, pair_more}
use Rattle.ng_laws.specs.Turns.{HasNoPair, Turn, IsTurn, IsEnd, turn_text, seen, turn_cuts, TurnsAreCut}

abbrev pub mark : Bool → ℕ
mark true = 125
mark false = 123

is_marked : (b : Bool) → is_pair b (mark b) (mark b) ≡ true
is_marked true = refl
is_marked false = refl

-- up to the first pair of marks
up_to : (b : Bool) (total : ℕ) (done : List Cut) (o : Option Opened) (w t rest : List ℕ) → b ≡ is_some o → HasNoPair b (w ++ mark b ∷ []) → cut_from total done o t (w ++ mark b ∷ mark b ∷ rest) ≡ cut_from total (cuts_behind done o (t ++ w)) (opened_at (place total rest) o (t ++ w)) [] rest
up_to b total done o [] t rest i h =
    pair_more total done o t (mark b) (mark b ∷ rest) rest b i (mark b, refl, is_marked b)
    ∙ ap (λ x. cut_from total (cuts_behind done o x) (opened_at (place total rest) o x) [] rest) (sym (append-nil t))
up_to b total done o (c ∷ []) t rest i h =
    one_more total done o t c (mark b ∷ mark b ∷ rest) b i h.0
    ∙ (up_to b total done o [] (t ++ c ∷ []) rest i tt
    ∙ ap (λ x. cut_from total (cuts_behind done o x) (opened_at (place total rest) o x) [] rest) (append-nil (t ++ c ∷ [])))
up_to b total done o (c ∷ d ∷ w) t rest i h =
    one_more total done o t c (d ∷ (w ++ mark b ∷ mark b ∷ rest)) b i h.0
    ∙ (up_to b total done o (d ∷ w) (t ++ c ∷ []) rest i h.1
    ∙ ap (λ x. cut_from total (cuts_behind done o x) (opened_at (place total rest) o x) [] rest) (append_assoc t (c ∷ []) (d ∷ w)))

-- no pair comes any more
to_end : (b : Bool) (total : ℕ) (done : List Cut) (o : Option Opened) (u t : List ℕ) → b ≡ is_some o → HasNoPair b u → cut_from total done o t u ≡ done ++ last_cut o (t ++ u) ∷ []
to_end b total done o [] t i h = ap (λ x. done ++ last_cut o x ∷ []) (sym (append-nil t))
to_end b total done o (c ∷ []) t i h = refl
to_end b total done o (c ∷ d ∷ u) t i h =
    one_more total done o t c (d ∷ u) b i h.0
    ∙ (to_end b total done o (d ∷ u) (t ++ c ∷ []) i h.1
    ∙ ap (λ x. done ++ last_cut o x ∷ []) (append_assoc t (c ∷ []) (d ∷ u)))

at_end : (total : ℕ) (done : List Cut) (t : List ℕ) → IsEnd t → cut_from total done None [] t ≡ done ++ Words t ∷ []
at_end total done t (inl h) = to_end false total done None t [] refl h
at_end total done t (inr (a, b, e, h, i)) =
    ap (cut_from total done None []) e
    ∙ (up_to false total done None a [] b refl h
    ∙ (to_end true total done (Some (record { place = place total b; before = a })) b [] refl i
    ∙ ap (λ x. done ++ Words x ∷ []) (sym e)))

-- a text with a turn in front
pub front : (p : Turn) (us t : List ℕ) → (turn_text p ++ us) ++ t ≡ p.0 ++ 123 ∷ 123 ∷ (p.1 ++ 125 ∷ 125 ∷ (us ++ t))
front p us t =
    append_assoc (turn_text p) us t
    ∙ (append_assoc p.0 (123 ∷ 123 ∷ (p.1 ++ 125 ∷ 125 ∷ [])) (us ++ t)
    ∙ ap (λ x. p.0 ++ 123 ∷ 123 ∷ x) (append_assoc p.1 (125 ∷ 125 ∷ []) (us ++ t)))

turns : (total : ℕ) (ps : List Turn) (t : List ℕ) (done : List Cut) → AllByRecursion IsTurn ps → IsEnd t → map seen (cut_from total done None [] (flat_map turn_text ps ++ t)) ≡ map seen done ++ (flat_map turn_cuts ps ++ (false, t) ∷ [])
turns total [] t done h e = ap (map seen) (at_end total done t e) ∙ map-append seen done (Words t ∷ [])
turns total (p ∷ ps) t done h e =
    let rest = flat_map turn_text ps ++ t in
    let behind = p.1 ++ 125 ∷ 125 ∷ rest in
    let o : Opened = record { place = place total behind; before = p.0 } in
    let more = Words p.0 ∷ Hole o.place p.1 ∷ [] in
    ap (λ x. map seen (cut_from total done None [] x)) (front p (flat_map turn_text ps) t)
    ∙ (ap (map seen) (up_to false total done None p.0 [] behind refl h.0.0 ∙ up_to true total done (Some o) p.1 [] rest refl h.0.1)
    ∙ (turns total ps t (done ++ more) h.1 e
    ∙ (ap (λ x. x ++ (flat_map turn_cuts ps ++ (false, t) ∷ [])) (map-append seen done more)
    ∙ append_assoc (map seen done) (map seen more) (flat_map turn_cuts ps ++ (false, t) ∷ []))))

pub turns_are_cut : TurnsAreCut
turns_are_cut ps t h e = turns (length (encode_utf8_all (flat_map turn_text ps ++ t))) ps t [] h e
