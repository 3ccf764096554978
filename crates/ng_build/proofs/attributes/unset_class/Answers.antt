use Rattle.std.proofs.Common.{◌≡◌, List, ℕ, [], false, ap, sym, subst, ◌∙◌}
use Rattle.std.specs.Prelude.{IfOk}
use Rattle.ng_dom.specs.Drawing.{joined}
use Rattle.ng_drawing.specs.Drawing.{class_words}
use Rattle.ng_build.specs.Building.{unset}
use Rattle.ng_build.specs.Seen.{class_of}
use Rattle.ng_build.proofs.Unset.{unset_words}
use Rattle.ng_markup.specs.Attributes.{class_value}
use Rattle.ng_build.proofs.attributes.unset_class.Goals as goal

pub returns : goal.returns
returns c =
    let class = class_of c.args.class.now in
    let text : c.in_ok-text.text ≡ joined unset class.pieces = c.in_ok-text.ensures ∙ ap (joined unset) c.as_slice.ensures.value in
    let F : List (List ℕ) → Type 0 = λ ws. IfOk c.class_text.result (λ t. t ≡ class_value class.written ws) in
    subst F
    (ap (λ (ws : List (List ℕ)). class_words c.in_ok-text.text ws false) c.new-words.ensures
    ∙ (ap (λ (t : List ℕ). class_words t [] false) text ∙ sym (unset_words class)))
    c.class_text.ensures
