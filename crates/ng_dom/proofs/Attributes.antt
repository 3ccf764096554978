-- What is drawn in a node is the same where its keys show the same.
use Rattle.std.proofs.Common.{◌≡◌, ℕ, Bool, List, [], ◌∷◌, ◌++◌, Option, Some, refl, ap, ◌∙◌}
use Rattle.std.specs.Prelude.{◌||◌, map, codes, if◌then◌else◌}
use Rattle.std.specs.List.{flat_map, list_any}
use Rattle.ng_base.specs.declared.path.Key.{Key}
use Rattle.ng_language.specs.Texts.{words_in}
use Rattle.ng_markup.specs.Attributes.{if_any, word_if, with_value, class_value}
use Rattle.ng_markup.specs.Forest.{Attributes}
use Rattle.ng_dom.specs.Drawing.{Look, joined, DrawnHiding, while_true, while_false, DrawnClass, DrawnValue, always, unless_empty, flag, classes, DrawnAttributes, is_shown_true, is_shown_false, is_hiding, drawn_words, drawn_value, drawn_on, HolesAt, KeysAt, hiding_key, ValueAt, AttributesAt}
use Rattle.ng_dom.specs.declared.record.Piece.{Piece}
use Rattle.ng_dom.specs.declared.record.Piece.TheVariants.{Words, Hole}

module _ (site : Key → Option ℕ) (m : ℕ) (v w : Key → Look) (same_look : (q : Key) → site q ≡ Some m → v q ≡ w q) where
  pub same_joined : (ps : List Piece) → HolesAt site m ps → joined v ps ≡ joined w ps
  same_joined [] h = refl
  same_joined (Words t ∷ ps) h = ap (λ (r : List ℕ). t ++ r) (same_joined ps h)
  same_joined (Hole q ∷ ps) h = ap (λ (l : Look). l.text ++ joined v ps) (same_look q h.0) ∙ ap (λ (r : List ℕ). (w q).text ++ r) (same_joined ps h.1)

  same_words : (ks : List Key) → KeysAt site m ks → flat_map (λ q. (v q).words) ks ≡ flat_map (λ q. (w q).words) ks
  same_words [] h = refl
  same_words (q ∷ ks) h =
      ap (λ (l : Look). l.words ++ flat_map (λ x. (v x).words) ks) (same_look q h.0) ∙ ap (λ (r : List (List ℕ)). (w q).words ++ r) (same_words ks h.1)

  same_hiding : (x : DrawnHiding) → site (hiding_key x) ≡ Some m → is_hiding v x ≡ is_hiding w x
  same_hiding (while_true q) at = ap is_shown_true (same_look q at)
  same_hiding (while_false q) at = ap is_shown_false (same_look q at)

  same_hidings : (xs : List DrawnHiding) → KeysAt site m (map hiding_key xs) → list_any (is_hiding v) xs ≡ list_any (is_hiding w) xs
  same_hidings [] h = refl
  same_hidings (x ∷ xs) h = ap (λ (b : Bool). b || list_any (is_hiding v) xs) (same_hiding x h.0) ∙ ap (λ (b : Bool). is_hiding w x || b) (same_hidings xs h.1)

  same_class : (c : DrawnClass) → ValueAt site m (classes c) → drawn_words v c ≡ drawn_words w c
  same_class c h =
      let ws = flat_map (λ q. (v q).words) c.words in
      let us = flat_map (λ q. (w q).words) c.words in
      ap (λ (t : List ℕ). words_in [] t ++ ws ++ (if list_any (is_hiding v) c.hidings then codes "ng-hide" ∷ [] else [])) (same_joined c.pieces h.0)
      ∙ (ap (λ (r : List (List ℕ)). words_in [] (joined w c.pieces) ++ r ++ (if list_any (is_hiding v) c.hidings then codes "ng-hide" ∷ [] else [])) (same_words c.words h.1)
      ∙ ap (λ (b : Bool). words_in [] (joined w c.pieces) ++ us ++ (if b then codes "ng-hide" ∷ [] else [])) (same_hidings c.hidings h.2))

  same_value : (x : DrawnValue) → ValueAt site m x → drawn_value v x ≡ drawn_value w x
  same_value (always ps) h = ap Some (same_joined ps h)
  same_value (unless_empty ps) h = ap if_any (same_joined ps h)
  same_value (flag t q) h = ap (λ (l : Look). word_if (is_shown_true l) t) (same_look q h)
  same_value (classes c) h = ap (class_value c.written) (same_class c h)

  pub same_attributes : (ats : DrawnAttributes) (done : Attributes) → AttributesAt site m ats → drawn_on v ats done ≡ drawn_on w ats done
  same_attributes [] done h = refl
  same_attributes (a ∷ ats) done h =
      ap (λ (o : Option (List ℕ)). drawn_on v ats (with_value a.0 o done)) (same_value a.1 h.0) ∙ same_attributes ats (with_value a.0 (drawn_value w a.1) done) h.1
