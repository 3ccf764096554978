-- What is drawn while nothing is kept yet.
use Rattle.std.proofs.Common.{◌≡◌, ℕ, Bool, false, List, [], ◌∷◌, ◌++◌, refl, ap, ◌∙◌}
use Rattle.std.specs.Prelude.{codes, if◌then◌else◌}
use Rattle.std.specs.List.{flat_map, list_any}
use Rattle.ng_base.specs.declared.path.Key.{Key}
use Rattle.ng_dom.specs.Drawing.{DrawnHiding, while_true, while_false, DrawnClass, joined, is_hiding, drawn_words}
use Rattle.ng_drawing.specs.Drawing.{class_words}
use Rattle.ng_language.specs.Texts.{words_in}
use Rattle.ng_build.specs.Building.{unset}

no_words : (ks : List Key) → flat_map (λ k. (unset k).words) ks ≡ []
no_words [] = refl
no_words (k ∷ ks) = no_words ks

none_hide : (hs : List DrawnHiding) → list_any (is_hiding unset) hs ≡ false
none_hide [] = refl
none_hide (while_true k ∷ hs) = none_hide hs
none_hide (while_false k ∷ hs) = none_hide hs

-- a class has the words that are written there alone
pub unset_words : (c : DrawnClass) → drawn_words unset c ≡ class_words (joined unset c.pieces) [] false
unset_words c =
    let written = words_in [] (joined unset c.pieces) in
    ap (λ (ws : List (List ℕ)). written ++ ws ++ (if list_any (is_hiding unset) c.hidings then codes "ng-hide" ∷ [] else [])) (no_words c.words)
    ∙ ap (λ (b : Bool). written ++ [] ++ (if b then codes "ng-hide" ∷ [] else [])) (none_hide c.hidings)
