-- The name of a directive, word by word.
use Rattle.std.proofs.Common.{◌≡◌, ℕ, false, List, [], ◌∷◌, ◌++◌, None, Some, refl, ap, sym, ◌∙◌, append_assoc}
use Rattle.std.specs.Char.{to_ascii_uppercase}
use Rattle.std.specs.List.{AllByRecursion, flat_map}
use Rattle.std.specs.Option.{unwrap_or}
use Rattle.ng_base.proofs.Binds.{if_true, if_false}
use Rattle.ng_collect.specs.Cloak.{is_nil}
use Rattle.ng_collect.specs.Names.{is_joiner, after_data, past_joiners, camel_from, camel}
use Rattle.ng_laws.specs.Camel.{Part, AreJoiners, IsWord, AreParts, part_text, capital, part_cased, last_joiner, WordsAreCased, FrontGoes, FrontStays}

past_front : (front : List ℕ) (c : ℕ) (cs : List ℕ) → AreJoiners front → is_joiner c ≡ false → past_joiners (front ++ c ∷ cs) ≡ c ∷ cs
past_front [] c cs h n = if_false (is_joiner c) _ _ n
past_front (d ∷ ds) c cs h n = if_true (is_joiner d) _ _ h.0 ∙ past_front ds c cs h.1 n

-- the letters of a word stay
letters : (w rest : List ℕ) → AllByRecursion (λ c. is_joiner c ≡ false) w → camel_from None (w ++ rest) ≡ w ++ camel_from None rest
letters [] rest h = refl
letters (c ∷ w) rest h = if_false (is_joiner c) _ _ h.0 ∙ ap (λ x. c ∷ x) (letters w rest h.1)

-- a letter behind joiners
joined : (js : List ℕ) (j c : ℕ) (rest : List ℕ) → AreJoiners js → is_joiner c ≡ false → camel_from (Some j) (js ++ c ∷ rest) ≡ to_ascii_uppercase c ∷ camel_from None rest
joined [] j c rest h n = if_false (is_joiner c) _ _ n
joined (d ∷ js) j c rest h n = if_true (is_joiner d) _ _ h.0 ∙ joined js d c rest h.1 n

held_end : (js : List ℕ) (j : ℕ) → AreJoiners js → camel_from (Some j) js ≡ last_joiner (j ∷ js)
held_end [] j h = refl
held_end (d ∷ js) j h = if_true (is_joiner d) _ _ h.0 ∙ held_end js d h.1

tail_end : (tail : List ℕ) → AreJoiners tail → camel_from None tail ≡ last_joiner tail
tail_end [] h = refl
tail_end (j ∷ js) h = if_true (is_joiner j) _ _ h.0 ∙ held_end js j h.1

one_part : (t w rest : List ℕ) → AreJoiners t → is_nil t ≡ false → IsWord w → camel_from None ((t ++ w) ++ rest) ≡ capital w ++ camel_from None rest
one_part [] w rest h n l = absurd (cc)
one_part (j ∷ js) [] rest h n l = let e = l.1 in absurd (cc)
one_part (j ∷ js) (c ∷ w) rest h n l =
    if_true (is_joiner j) _ _ h.0
    ∙ (ap (camel_from (Some j)) (append_assoc js (c ∷ w) rest)
    ∙ (joined js j c (w ++ rest) h.1 l.0.0
    ∙ ap (λ x. to_ascii_uppercase c ∷ x) (letters w rest l.0.1)))

parts : (ps : List Part) (tail : List ℕ) → AreParts ps → AreJoiners tail → camel_from None (flat_map part_text ps ++ tail) ≡ flat_map part_cased ps ++ last_joiner tail
parts [] tail h t = tail_end tail t
parts (p ∷ ps) tail h t =
    ap (camel_from None) (append_assoc (part_text p) (flat_map part_text ps) tail)
    ∙ (one_part p.0 p.1 (flat_map part_text ps ++ tail) h.0.0 h.0.1 h.0.2
    ∙ (ap (λ x. part_cased p ++ x) (parts ps tail h.1 t)
    ∙ sym (append_assoc (part_cased p) (flat_map part_cased ps) (last_joiner tail))))

pub words_are_cased : WordsAreCased
words_are_cased front [] tail ps f w h t = let e = w.1 in absurd (cc)
words_are_cased front (c ∷ word) tail ps f w h t =
    ap camel (past_front front c (word ++ (flat_map part_text ps ++ tail)) f w.0.0)
    ∙ ap (λ x. c ∷ x) (letters word (flat_map part_text ps ++ tail) w.0.1 ∙ ap (λ x. word ++ x) (parts ps tail h t))

pub front_goes : FrontGoes
front_goes j n h = (
  ap (λ o. camel (past_joiners (unwrap_or o (unwrap_or (after_data (120 ∷ j ∷ n)) (120 ∷ j ∷ n))))) (if_true (is_joiner j) (Some n) None h),
  ap (λ o. camel (past_joiners (unwrap_or o (100 ∷ 97 ∷ 116 ∷ 97 ∷ j ∷ n)))) (if_true (is_joiner j) (Some n) None h),
)

pub front_stays : FrontStays
front_stays n x d = ap (λ o. camel (past_joiners (unwrap_or o (unwrap_or (after_data n) n)))) x ∙ ap (λ o. camel (past_joiners (unwrap_or o n))) d
