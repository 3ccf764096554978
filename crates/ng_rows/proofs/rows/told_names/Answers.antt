use Rattle.std.proofs.Common.{◌≡◌, ◌∙◌, ◌++◌, ◌∷◌, [], codes, refl}
use Rattle.ng_parts.specs.RepeatedOf.{repeated_of}
use Rattle.ng_rows.proofs.Told.{six_more}
use Rattle.ng_rows.specs.RepeatRows.{own_words}
use Rattle.ng_rows.specs.Tracking.{index_name}
use Rattle.ng_rows.proofs.rows.told_names.Goals as goal

pub returns-clause-names : goal.returns-clause-names
returns-clause-names c =
    let own : c.in_ok-all.all.items ≡ own_words (repeated_of c.args.repeated.now) = c.in_ok-all.ensures in
    let index : c.in_ok-index_name.field-0 ≡ index_name = c.in_ok-index_name.ensures in
    let first : c.in_ok-text_of.field-0 ≡ codes "$first" = c.in_ok-text_of.ensures refl in
    let middle : c.in_ok-text_of-2.field-0 ≡ codes "$middle" = c.in_ok-text_of-2.ensures refl in
    let last : c.in_ok-text_of-3.field-0 ≡ codes "$last" = c.in_ok-text_of-3.ensures refl in
    let even : c.in_ok-text_of-4.field-0 ≡ codes "$even" = c.in_ok-text_of-4.ensures refl in
    let odd : c.in_ok-text_of-5.field-0 ≡ codes "$odd" = c.in_ok-text_of-5.ensures refl in
    six_more c.in_ok-all.all.items _ _ _ _ _ _ _ _ _ _ _ _
    c.in_ok-push.ensures.items c.in_ok-push-2.ensures.items c.in_ok-push-3.ensures.items c.in_ok-push-4.ensures.items c.in_ok-push-5.ensures.items c.in_ok-push-6.ensures.items
    ∙ (λ j. own j ++ (index j ∷ first j ∷ middle j ∷ last j ∷ even j ∷ odd j ∷ []))
