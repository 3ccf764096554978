-- Each class and each name is cut into words.
use Rattle.std.proofs.Common.{◌≡◌, ◌⊎◌, ℕ, true, false, List, [], ◌∷◌, ◌++◌, refl, ap, sym, subst, ◌∙◌, inl, inr, append_assoc, append-nil}
use Rattle.std.specs.Char.{is_ascii_whitespace}
use Rattle.std.specs.List.{flat_map}
use Rattle.ng_base.proofs.Binds.{if_true}
use Rattle.ng_collect.specs.Names.{is_joiner, past_joiners, camel}
use Rattle.ng_laws.specs.Cloaks as cloak
use Rattle.ng_laws.specs.Camel as name
use Rattle.ng_laws.proofs.Spans.{Span, span, Parts, parts, not_nil_false}

-- what stands of a class behind its first white space
class_words : (x s : List ℕ) (c : ℕ) (cs : List ℕ) → cloak.IsSpace s → is_ascii_whitespace c ≡ false → x ≡ s ++ c ∷ cs → Span is_ascii_whitespace false (c ∷ cs) → (ps : List cloak.Piece) × (tail : List ℕ) × cloak.IsCut ps × cloak.IsSpace tail × (x ≡ flat_map cloak.written ps ++ tail)
class_words x s c cs h b i (w, r, hw, br, j) = with_rest (parts is_ascii_whitespace r br)
  where
    with_rest : Parts is_ascii_whitespace r → (ps : List cloak.Piece) × (tail : List ℕ) × cloak.IsCut ps × cloak.IsSpace tail × (x ≡ flat_map cloak.written ps ++ tail)
    with_rest (ps, tail, hp, t, k) = (
      (s, w) ∷ ps,
      tail,
      (h, (hw, not_nil_false is_ascii_whitespace c cs w r b br j), hp),
      t,
      i ∙ (ap (λ y. s ++ y) j ∙ (ap (λ y. s ++ (w ++ y)) k ∙ (sym (append_assoc s w (flat_map cloak.written ps ++ tail)) ∙ sym (append_assoc (s ++ w) (flat_map cloak.written ps) tail)))),
    )

class_found : (x : List ℕ) → Span is_ascii_whitespace true x → (ps : List cloak.Piece) × (tail : List ℕ) × cloak.IsCut ps × cloak.IsSpace tail × (x ≡ flat_map cloak.written ps ++ tail)
class_found x (s, [], h, b, i) = ([], s, tt, h, i ∙ append-nil s)
class_found x (s, c ∷ cs, h, b, i) = class_words x s c cs h b i (span is_ascii_whitespace false (c ∷ cs))

pub each_class : cloak.EachClassIsCut
each_class x = class_found x (span is_ascii_whitespace true x)

-- joiners alone
joiners_go : (x : List ℕ) → name.AreJoiners x → past_joiners x ≡ []
joiners_go [] h = refl
joiners_go (c ∷ cs) h = if_true (is_joiner c) _ _ h.0 ∙ joiners_go cs h.1

abbrev HasWords : List ℕ → Type 0
HasWords x = (front : List ℕ) × (word : List ℕ) × (tail : List ℕ) × (ps : List name.Part) × name.AreJoiners front × name.IsWord word × name.AreParts ps × name.AreJoiners tail × (x ≡ front ++ (word ++ (flat_map name.part_text ps ++ tail)))

name_words : (x s : List ℕ) (c : ℕ) (cs : List ℕ) → name.AreJoiners s → is_joiner c ≡ false → x ≡ s ++ c ∷ cs → Span is_joiner false (c ∷ cs) → HasWords x
name_words x s c cs h b i (w, r, hw, br, j) = with_rest (parts is_joiner r br)
  where
    with_rest : Parts is_joiner r → HasWords x
    with_rest (ps, tail, hp, t, k) =
        (s, w, tail, ps, h, (hw, not_nil_false is_joiner c cs w r b br j), hp, t, i ∙ (ap (λ y. s ++ y) j ∙ ap (λ y. s ++ (w ++ y)) k))

name_found : (x : List ℕ) → Span is_joiner true x → (name.AreJoiners x × (camel (past_joiners x) ≡ [])) ⊎ HasWords x
name_found x (s, [], h, b, i) = inl (all_joiners x s h (i ∙ append-nil s))
  where
    all_joiners : (x s : List ℕ) → name.AreJoiners s → x ≡ s → name.AreJoiners x × (camel (past_joiners x) ≡ [])
    all_joiners x s h e = (subst name.AreJoiners (sym e) h, ap (λ y. camel (past_joiners y)) e ∙ ap camel (joiners_go s h))
name_found x (s, c ∷ cs, h, b, i) = inr (name_words x s c cs h b i (span is_joiner false (c ∷ cs)))

pub each_name : name.EachNameHasWords
each_name x = name_found x (span is_joiner true x)
