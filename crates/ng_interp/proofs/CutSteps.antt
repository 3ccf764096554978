-- Cutting a text, one character or one pair of marks after another.
use Rattle.std.proofs.Common.{◌≡◌, ◌++◌, ℕ, Bool, true, false, refl, sym, ap, arith, ◌∙◌, cond, List, [], ◌∷◌, Option, None, Some, is_some, length}
use Rattle.std.proofs.lemmas.List.{append_assoc, append-nil}
use Rattle.std.proofs.lemmas.Grind.{flat_map-append}
use Rattle.std.specs.List.{flat_map, list_all}
use Rattle.std.specs.Prelude.{encode_utf8_all}
use Rattle.ng_base.specs.Cells.{place}
use Rattle.ng_base.specs.Runs.{is_plain}
use Rattle.ng_base.proofs.PlainChars.{both_parts}
use Rattle.ng_interp.specs.Cutting.{is_pair, last_cut, cuts_behind, opened_at, cut_from, written}
use Rattle.ng_interp.specs.Pairs.{NoPair, Pair}
use Rattle.ng_interp.specs.Laws.{CutsSpellText}
use Rattle.ng_interp.specs.declared.cutting.Cut.{Cut}
use Rattle.ng_interp.specs.declared.cutting.Cut.TheVariants.{Words, Hole}
use Rattle.ng_interp.specs.declared.cutting.Opened.{Opened}

-- a character that begins no pair
pub one_more : (total : ℕ) (done : List Cut) (o : Option Opened) (t : List ℕ) (c : ℕ) (cs : List ℕ) (b : Bool) → b ≡ is_some o → NoPair b c cs → cut_from total done o t (c ∷ cs) ≡ cut_from total done o (t ++ c ∷ []) cs
one_more total done o t c [] b i n = refl
one_more total done o t c (d ∷ cs) b i n = ap (λ x. cond (is_pair x c d) (cut_from total (cuts_behind done o t) (opened_at (place total cs) o t) [] cs) (cut_from total done o (t ++ c ∷ []) (d ∷ cs))) (sym i) ∙ ap (λ b. cond b (cut_from total (cuts_behind done o t) (opened_at (place total cs) o t) [] cs) (cut_from total done o (t ++ c ∷ []) (d ∷ cs))) n

no_mark : (inside : Bool) (c d : ℕ) → is_plain c ≡ true → is_pair inside c d ≡ false
no_mark true c d p = grind arith
no_mark false c d p = grind arith

no_pair : (inside : Bool) (c : ℕ) (cs : List ℕ) → is_plain c ≡ true → NoPair inside c cs
no_pair inside c [] p = tt
no_pair inside c (d ∷ cs) p = no_mark inside c d p

-- characters that stand for themselves
pub run_more : (total : ℕ) (done : List Cut) (o : Option Opened) (t us cs : List ℕ) → list_all is_plain us ≡ true → cut_from total done o t (us ++ cs) ≡ cut_from total done o (t ++ us) cs
run_more total done o t [] cs p = ap (λ x. cut_from total done o x cs) (sym (append-nil t))
run_more total done o t (u ∷ us) cs p =
    let both = both_parts (is_plain u) (list_all is_plain us) p in
    one_more total done o t u (us ++ cs) (is_some o) refl (no_pair (is_some o) u (us ++ cs) both.0)
    ∙ run_more total done o (t ++ u ∷ []) us cs both.1
    ∙ ap (λ x. cut_from total done o x cs) (append_assoc t (u ∷ []) us)

-- a pair of marks
pub pair_more : (total : ℕ) (done : List Cut) (o : Option Opened) (t : List ℕ) (c : ℕ) (cs rest : List ℕ) (b : Bool) → b ≡ is_some o → Pair b c cs rest → cut_from total done o t (c ∷ cs) ≡ cut_from total (cuts_behind done o t) (opened_at (place total rest) o t) [] rest
pair_more total done o t c cs rest b i (d, e, p) =
    ap (λ x. cut_from total done o t (c ∷ x)) e
    ∙ ap (λ x. cond (is_pair x c d) (cut_from total (cuts_behind done o t) (opened_at (place total rest) o t) [] rest) (cut_from total done o (t ++ c ∷ []) (d ∷ rest))) (sym i)
    ∙ ap (λ b. cond b (cut_from total (cuts_behind done o t) (opened_at (place total rest) o t) [] rest) (cut_from total done o (t ++ c ∷ []) (d ∷ rest))) p

-- what stands open, as it was written
abbrev pub opened_text : Option Opened → List ℕ
opened_text None = []
opened_text (Some o) = o.before ++ 123 ∷ 123 ∷ []

last_spelled : (o : Option Opened) (t : List ℕ) → written (last_cut o t) ≡ opened_text o ++ t
last_spelled None t = refl
last_spelled (Some o) t = sym (append_assoc o.before (123 ∷ 123 ∷ []) t)

ended : (done : List Cut) (o : Option Opened) (t : List ℕ) → flat_map written (done ++ last_cut o t ∷ []) ≡ flat_map written done ++ (opened_text o ++ t)
ended done o t = flat_map-append written done (last_cut o t ∷ []) ∙ ap (λ x. flat_map written done ++ x) (append-nil (written (last_cut o t)) ∙ last_spelled o t)

one_pair : (inside : Bool) (c d : ℕ) → is_pair inside c d ≡ true → (c ≡ (cond inside 125 123)) × (d ≡ (cond inside 125 123))
one_pair true c d e = grind arith
one_pair false c d e = grind arith

hole_text : (us : List ℕ) (p : ℕ) (t cs : List ℕ) → flat_map written (Words us ∷ Hole p t ∷ []) ++ cs ≡ (us ++ 123 ∷ 123 ∷ []) ++ (t ++ (125 ∷ 125 ∷ cs))
hole_text us p t cs =
    append_assoc us (written (Hole p t) ++ []) cs
    ∙ ap (λ x. us ++ (x ++ cs)) (append-nil (written (Hole p t)))
    ∙ ap (λ x. us ++ (123 ∷ 123 ∷ x)) (append_assoc t (125 ∷ 125 ∷ []) cs)
    ∙ sym (append_assoc us (123 ∷ 123 ∷ []) (t ++ (125 ∷ 125 ∷ cs)))

turned : (total : ℕ) (done : List Cut) (o : Option Opened) (t : List ℕ) (c d : ℕ) (cs : List ℕ) → is_pair (is_some o) c d ≡ true → flat_map written (cuts_behind done o t) ++ (opened_text (opened_at (place total cs) o t) ++ cs) ≡ flat_map written done ++ (opened_text o ++ (t ++ (c ∷ d ∷ cs)))
turned total done None t c d cs e = let (a, b) = one_pair false c d e in
    ap (λ x. flat_map written done ++ x) (append_assoc t (123 ∷ 123 ∷ []) cs ∙ ap (λ i. t ++ (i ∷ 123 ∷ cs)) (sym a) ∙ ap (λ i. t ++ (c ∷ i ∷ cs)) (sym b))
turned total done (Some o) t c d cs e = let (a, b) = one_pair true c d e in
    ap (λ x. x ++ cs) (flat_map-append written done (Words o.before ∷ Hole o.place t ∷ []))
    ∙ append_assoc (flat_map written done) (flat_map written (Words o.before ∷ Hole o.place t ∷ [])) cs
    ∙ ap (λ x. flat_map written done ++ x) (hole_text o.before o.place t cs ∙ ap (λ i. opened_text (Some o) ++ (t ++ (i ∷ 125 ∷ cs))) (sym a) ∙ ap (λ i. opened_text (Some o) ++ (t ++ (c ∷ i ∷ cs))) (sym b))

spelled : (total : ℕ) (done : List Cut) (o : Option Opened) (t cs : List ℕ) → flat_map written (cut_from total done o t cs) ≡ flat_map written done ++ (opened_text o ++ (t ++ cs))
spelled total done o t [] = ended done o t ∙ ap (λ x. flat_map written done ++ (opened_text o ++ x)) (sym (append-nil t))
spelled total done o t (c ∷ []) = ended done o (t ++ c ∷ [])
spelled total done o t (c ∷ d ∷ cs) = split (is_pair (is_some o) c d) refl (spelled total (cuts_behind done o t) (opened_at (place total cs) o t) [] cs) (spelled total done o (t ++ c ∷ []) (d ∷ cs))
  where
    split : (b : Bool) → is_pair (is_some o) c d ≡ b
        → flat_map written (cut_from total (cuts_behind done o t) (opened_at (place total cs) o t) [] cs) ≡ flat_map written (cuts_behind done o t) ++ (opened_text (opened_at (place total cs) o t) ++ cs)
        → flat_map written (cut_from total done o (t ++ c ∷ []) (d ∷ cs)) ≡ flat_map written done ++ (opened_text o ++ ((t ++ c ∷ []) ++ (d ∷ cs)))
        → flat_map written (cond b (cut_from total (cuts_behind done o t) (opened_at (place total cs) o t) [] cs) (cut_from total done o (t ++ c ∷ []) (d ∷ cs))) ≡ flat_map written done ++ (opened_text o ++ (t ++ (c ∷ d ∷ cs)))
    split true e h k = h ∙ turned total done o t c d cs e
    split false e h k = k ∙ ap (λ x. flat_map written done ++ (opened_text o ++ x)) (append_assoc t (c ∷ []) (d ∷ cs))

pub cuts_spell_text : CutsSpellText
cuts_spell_text t = spelled (length (encode_utf8_all t)) [] None [] t
