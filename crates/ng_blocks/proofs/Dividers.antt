-- Where a divider stands, as it is read and as it is spelled.
use Rattle.std.proofs.Common.{◌≡◌, ◌≢◌, ℕ, Bool, true, false, refl, ap, sym, ◌∙◌, List, [], ◌∷◌, ◌++◌, Option, Some, None}
use Rattle.std.specs.Prelude.{codes, nat_eq, ◌&&◌, if◌then◌else◌}
use Rattle.std.specs.List.{list_all}
use Rattle.std.proofs.lemmas.Bool.{eq-eqb, eqb-true}
use Rattle.std.proofs.lemmas.List.{append_assoc}
use Rattle.ng_base.proofs.PlainChars.{both_parts}
use Rattle.ng_language.specs.Choice.{when_some}
use Rattle.ng_language.specs.Letters.{is_space}
use Rattle.ng_language.specs.OneTime.{without_front}
use Rattle.ng_blocks.specs.Dividing.{after_word, spaced_on, after_in, after_track_by, after_divider}
use Rattle.ng_blocks.specs.RepeatSpelling.{IsDivider, begins_spaced}
use Rattle.ng_blocks.specs.declared.dividing.Divider.{Divider}
use Rattle.ng_blocks.specs.declared.dividing.Divider.TheVariants.{In, TrackBy}

-- where a way was gone on, there was something
pub some_of : {A B : Type 0} (o : Option A) (f : A → Option B) (y : B) → when_some o f None ≡ Some y → (x : A) × (o ≡ Some x) × (f x ≡ Some y)
some_of (Some x) f y h = (x, refl, h)
some_of None f y h = absurd (cc)

word_here : (ws cs : List ℕ) → after_word ws (ws ++ cs) ≡ Some cs
word_here [] cs = refl
word_here (w ∷ ws) cs = ap (λ (b : Bool). when_some (if b then Some (ws ++ cs) else None) (λ ds. after_word ws ds) None) (eq-eqb w w refl) ∙ word_here ws cs

word_step : (b : Bool) (c w : ℕ) (ws cs rest : List ℕ) → (after_word ws cs ≡ Some rest → cs ≡ ws ++ rest) → nat_eq c w ≡ b → when_some (if b then Some cs else None) (λ ds. after_word ws ds) None ≡ Some rest → c ∷ cs ≡ w ∷ (ws ++ rest)
word_step true c w ws cs rest on e h = ap (λ x. x ∷ cs) (eqb-true c w e) ∙ ap (λ x. w ∷ x) (on h)
word_step false c w ws cs rest on e h = absurd (cc)

word_is : (ws cs rest : List ℕ) → after_word ws cs ≡ Some rest → cs ≡ ws ++ rest
word_is [] cs rest h = cc
word_is (w ∷ ws) [] rest h = absurd (cc)
word_is (w ∷ ws) (c ∷ cs) rest h = word_step (nat_eq c w) c w ws cs rest (word_is ws cs rest) refl h

spaced_here : (cs : List ℕ) → begins_spaced cs ≡ true → spaced_on cs ≡ Some cs
spaced_here [] h = absurd (cc)
spaced_here (c ∷ cs) h = ap (λ (b : Bool). if b then Some (c ∷ cs) else None) h

spaced_step : (b : Bool) (c : ℕ) (cs rest : List ℕ) → is_space c ≡ b → (if b then Some (c ∷ cs) else None) ≡ Some rest → (c ∷ cs ≡ rest) × (begins_spaced rest ≡ true)
spaced_step true c cs rest e h = let same : c ∷ cs ≡ rest = cc in (same, ap begins_spaced (sym same) ∙ e)
spaced_step false c cs rest e h = absurd (cc)

spaced_is : (cs rest : List ℕ) → spaced_on cs ≡ Some rest → (cs ≡ rest) × (begins_spaced rest ≡ true)
spaced_is [] rest h = absurd (cc)
spaced_is (c ∷ cs) rest h = spaced_step (is_space c) c cs rest refl h

front_run : (ws : List ℕ) (c : ℕ) (cs : List ℕ) → list_all is_space ws ≡ true → is_space c ≡ false → without_front (ws ++ c ∷ cs) ≡ c ∷ cs
front_run [] c cs h n = ap (λ (b : Bool). if b then without_front cs else c ∷ cs) n
front_run (w ∷ ws) c cs h n =
    let both = both_parts (is_space w) (list_all is_space ws) h in
    ap (λ (b : Bool). if b then without_front (ws ++ c ∷ cs) else w ∷ (ws ++ c ∷ cs)) both.0 ∙ front_run ws c cs both.1 n

abbrev FrontCut : List ℕ → List ℕ → Type 0
FrontCut cs rest = (ws : List ℕ) × (cs ≡ ws ++ rest) × (list_all is_space ws ≡ true)

front_step : (b : Bool) (c : ℕ) (cs : List ℕ) → is_space c ≡ b → FrontCut cs (without_front cs) → FrontCut (c ∷ cs) (if b then without_front cs else c ∷ cs)
front_step true c cs e k = (c ∷ k.0, ap (λ x. c ∷ x) k.1, ap (λ (b : Bool). b && list_all is_space k.0) e ∙ k.2)
front_step false c cs e k = ([], refl, refl)

front_cut : (cs : List ℕ) → FrontCut cs (without_front cs)
front_cut [] = ([], refl, refl)
front_cut (c ∷ cs) = front_step (is_space c) c cs refl (front_cut cs)

begins_run : (ws cs : List ℕ) → ws ≢ [] → list_all is_space ws ≡ true → begins_spaced (ws ++ cs) ≡ true
begins_run [] cs n h = absurd (n refl)
begins_run (w ∷ ws) cs n h = (both_parts (is_space w) (list_all is_space ws) h).0

-- a spelled divider before white space is read
pub divider_here : (d : Divider) (us after : List ℕ) → IsDivider d us → begins_spaced after ≡ true → after_divider d (us ++ after) ≡ Some after
divider_here In us after k h = ap (λ u. after_in (u ++ after)) k ∙ ap (λ o. when_some o spaced_on None) (word_here (codes "in") after) ∙ spaced_here after h
divider_here TrackBy us after k h =
    let ws = k.0 in
    let by : List ℕ = codes "by" ++ after in
    ap (λ u. after_track_by (u ++ after)) k.1
    ∙ ap (λ u. after_track_by (codes "track" ++ u)) (append_assoc ws (codes "by") after)
    ∙ ap (λ o. when_some o (λ ds. when_some (spaced_on ds) (λ es. when_some (after_word (codes "by") (without_front es)) spaced_on None) None) None) (word_here (codes "track") (ws ++ by))
    ∙ ap (λ o. when_some o (λ es. when_some (after_word (codes "by") (without_front es)) spaced_on None) None) (spaced_here (ws ++ by) (begins_run ws by k.2 k.3))
    ∙ ap (λ x. when_some (after_word (codes "by") x) spaced_on None) (front_run ws 98 (121 ∷ after) k.3 refl)
    ∙ ap (λ o. when_some o spaced_on None) (word_here (codes "by") after)
    ∙ spaced_here after h

abbrev pub DividerCut : Divider → List ℕ → List ℕ → Type 0
DividerCut d cs after = (us : List ℕ) × (cs ≡ us ++ after) × IsDivider d us × (begins_spaced after ≡ true)

some_space : (ws es after : List ℕ) → es ≡ ws ++ (codes "by" ++ after) → begins_spaced es ≡ true → ws ≢ []
some_space ws es after e b n = let f : false ≡ true = ap begins_spaced (sym (e ∙ ap (λ x. x ++ (codes "by" ++ after)) n)) ∙ b in absurd (cc)

-- a divider that is read is spelled so
pub divider_is : (d : Divider) (cs after : List ℕ) → after_divider d cs ≡ Some after → DividerCut d cs after
divider_is In cs after h =
    let (ds, word, space) = some_of (after_word (codes "in") cs) spaced_on after h in
    let (same, begins) = spaced_is ds after space in
    (codes "in", word_is (codes "in") cs ds word ∙ ap (λ x. codes "in" ++ x) same, refl, begins)
divider_is TrackBy cs after h =
    let (ds, track, r) = some_of (after_word (codes "track") cs) (λ ds. when_some (spaced_on ds) (λ es. when_some (after_word (codes "by") (without_front es)) spaced_on None) None) after h in
    let (es, space, s) = some_of (spaced_on ds) (λ es. when_some (after_word (codes "by") (without_front es)) spaced_on None) after r in
    let (gs, by, last) = some_of (after_word (codes "by") (without_front es)) spaced_on after s in
    let (same, begins) = spaced_is gs after last in
    let (first, spaces) = spaced_is ds es space in
    let (ws, front, all) = front_cut es in
    let left : es ≡ ws ++ (codes "by" ++ after) = front ∙ ap (λ x. ws ++ x) (word_is (codes "by") (without_front es) gs by ∙ ap (λ x. codes "by" ++ x) same) in (
      codes "track" ++ (ws ++ codes "by"),
      word_is (codes "track") cs ds track ∙ ap (λ x. codes "track" ++ x) (first ∙ left ∙ sym (append_assoc ws (codes "by") after)),
      (ws, refl, some_space ws es after left spaces, all),
      begins,
    )
