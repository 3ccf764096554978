-- What stays of a class, word by word.
use Rattle.std.proofs.Common.{◌≡◌, ℕ, true, false, not, List, [], ◌∷◌, ◌++◌, refl, ap, sym, ◌∙◌, append_assoc, append-nil}
use Rattle.std.specs.Prelude.{codes}
use Rattle.std.specs.Char.{is_ascii_whitespace}
use Rattle.std.specs.List.{AllByRecursion, flat_map}
use Rattle.std.specs.Str.{bytes_eq}
use Rattle.ng_base.proofs.Binds.{if_true, if_false}
use Rattle.ng_collect.specs.Cloak.{kept_word, is_nil, uncloaked_from, uncloaked}
use Rattle.ng_laws.specs.Cloaks.{Piece, IsSpace, IsWord, ArePieces, written, kept, WordsStay, ClassStays}

-- a character more: of the white space, of the word, or behind the word
on_space : (s w : List ℕ) (c : ℕ) (cs : List ℕ) → is_ascii_whitespace c ≡ true → is_nil w ≡ true → uncloaked_from s w (c ∷ cs) ≡ uncloaked_from (s ++ c ∷ []) w cs
on_space s w c cs h n = if_false (not (is_ascii_whitespace c)) _ _ (ap not h) ∙ if_true (is_nil w) _ _ n

on_word : (s w : List ℕ) (c : ℕ) (cs : List ℕ) → is_ascii_whitespace c ≡ false → uncloaked_from s w (c ∷ cs) ≡ uncloaked_from s (w ++ c ∷ []) cs
on_word s w c cs h = if_true (not (is_ascii_whitespace c)) _ _ (ap not h)

on_end : (s w : List ℕ) (c : ℕ) (cs : List ℕ) → is_ascii_whitespace c ≡ true → is_nil w ≡ false → uncloaked_from s w (c ∷ cs) ≡ kept_word s w ++ uncloaked_from (c ∷ []) [] cs
on_end s w c cs h n = if_false (not (is_ascii_whitespace c)) _ _ (ap not h) ∙ if_false (is_nil w) _ _ n

spaces : (t s cs : List ℕ) → IsSpace t → uncloaked_from s [] (t ++ cs) ≡ uncloaked_from (s ++ t) [] cs
spaces [] s cs h = ap (λ x. uncloaked_from x [] cs) (sym (append-nil s))
spaces (c ∷ t) s cs h = on_space s [] c (t ++ cs) h.0 refl ∙ (spaces t (s ++ c ∷ []) cs h.1 ∙ ap (λ x. uncloaked_from x [] cs) (append_assoc s (c ∷ []) t))

letters : (t s w cs : List ℕ) → AllByRecursion (λ c. is_ascii_whitespace c ≡ false) t → uncloaked_from s w (t ++ cs) ≡ uncloaked_from s (w ++ t) cs
letters [] s w cs h = ap (λ x. uncloaked_from s x cs) (sym (append-nil w))
letters (c ∷ t) s w cs h = on_word s w c (t ++ cs) h.0 ∙ (letters t s (w ++ c ∷ []) cs h.1 ∙ ap (λ x. uncloaked_from s x cs) (append_assoc w (c ∷ []) t))

-- white space alone stays
all_space : (t s : List ℕ) → IsSpace t → uncloaked_from s [] t ≡ s ++ t
all_space t s h = ap (uncloaked_from s []) (sym (append-nil t)) ∙ (spaces t s [] h ∙ append-nil (s ++ t))

at_tail : (tail s w : List ℕ) → is_nil w ≡ false → IsSpace tail → uncloaked_from s w tail ≡ kept_word s w ++ tail
at_tail [] s w n t = sym (append-nil (kept_word s w))
at_tail (c ∷ cs) s w n t = on_end s w c cs t.0 n ∙ ap (λ x. kept_word s w ++ x) (all_space cs (c ∷ []) t.1)

-- behind a word comes white space, and the next word
next : (t x rest out s w : List ℕ) → is_nil w ≡ false → IsSpace t → is_nil t ≡ false → IsWord x → uncloaked_from t x rest ≡ kept_word t x ++ out → uncloaked_from s w ((t ++ x) ++ rest) ≡ kept_word s w ++ (kept_word t x ++ out)
next [] x rest out s w n h i l e = absurd (cc)
next (c ∷ t) x rest out s w n h i l e =
    on_end s w c ((t ++ x) ++ rest) h.0 n
    ∙ ap (λ y. kept_word s w ++ y)
    (ap (uncloaked_from (c ∷ []) []) (append_assoc t x rest)
    ∙ (spaces t (c ∷ []) (x ++ rest) h.1
    ∙ (letters x (c ∷ t) [] rest l.0
    ∙ e)))

behind : (ps : List Piece) (tail s w : List ℕ) → is_nil w ≡ false → ArePieces ps → IsSpace tail → uncloaked_from s w (flat_map written ps ++ tail) ≡ kept_word s w ++ (flat_map kept ps ++ tail)
behind [] tail s w n h t = at_tail tail s w n t
behind (p ∷ ps) tail s w n h t =
    ap (uncloaked_from s w) (append_assoc (written p) (flat_map written ps) tail)
    ∙ (next p.0 p.1 (flat_map written ps ++ tail) (flat_map kept ps ++ tail) s w n h.0.0 h.0.1 h.0.2 (behind ps tail p.0 p.1 h.0.2.1 h.1 t)
    ∙ ap (λ x. kept_word s w ++ x) (sym (append_assoc (kept p) (flat_map kept ps) tail)))

pub words_stay : WordsStay
words_stay [] tail h t = all_space tail [] t
words_stay (p ∷ ps) tail h t =
    let rest = flat_map written ps ++ tail in
    ap uncloaked (append_assoc (written p) (flat_map written ps) tail ∙ append_assoc p.0 p.1 rest)
    ∙ (spaces p.0 [] (p.1 ++ rest) h.0
    ∙ (letters p.1 p.0 [] rest h.1.0
    ∙ (behind ps tail p.0 p.1 h.1.1 h.2 t
    ∙ sym (append_assoc (kept p) (flat_map kept ps) tail))))

all_kept : (ps : List Piece) → AllByRecursion (λ (p : Piece). bytes_eq p.1 (codes "ng-cloak") ≡ false) ps → flat_map kept ps ≡ flat_map written ps
all_kept [] n = refl
all_kept (p ∷ ps) n = ap (λ x. x ++ flat_map kept ps) (if_false (bytes_eq p.1 (codes "ng-cloak")) [] (p.0 ++ p.1) n.0) ∙ ap (λ x. written p ++ x) (all_kept ps n.1)

pub class_stays : ClassStays
class_stays ps tail h t n = words_stay ps tail h t ∙ ap (λ x. x ++ tail) (all_kept ps n)
