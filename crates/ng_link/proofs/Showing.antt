-- What is drawn from such sites alone, bindings with it, is drawn from them without these.
use Rattle.std.proofs.Common.{◌≡◌, ℕ, Bool, true, refl, ap, ◌∙◌}
use Rattle.std.specs.Prelude.{◌&&◌}
use Rattle.std.specs.List.{list_all}
use Rattle.ng_drawing.specs.Template.{Part, Contents, Parts, text_part, comment_part, element_part, anchor_part, children, bound, no_parts, part_then}
use Rattle.ng_drawing.specs.Numbering.{bound_numbers, are_drawn, part_draws, contents_draw, parts_draw}
use Rattle.ng_link.specs.Showing.{part_shows, contents_show, parts_show}
use Rattle.ng_link.proofs.Numbers.{both_true}

module _ (test : ℕ → Bool) where
  mutual
    part_showing : (p : Part) → part_draws test p ≡ true → part_shows test p ≡ true
    part_showing (text_part ps) e = e
    part_showing (comment_part t) e = refl
    part_showing (element_part name own acts ats c) e =
        let more = both_true (list_all test (bound_numbers acts)) (are_drawn test ats && contents_draw test c) e in
        let two = both_true (are_drawn test ats) (contents_draw test c) more.1 in
        ap (λ (b : Bool). b && contents_show test c) two.0 ∙ contents_showing c two.1
    part_showing (anchor_part outlet own starts) e = refl

    contents_showing : (c : Contents) → contents_draw test c ≡ true → contents_show test c ≡ true
    contents_showing (children ps) e = parts_showing ps e
    contents_showing (bound b) e = e

    pub parts_showing : (ps : Parts) → parts_draw test ps ≡ true → parts_show test ps ≡ true
    parts_showing no_parts e = refl
    parts_showing (part_then p ps) e =
        let two = both_true (part_draws test p) (parts_draw test ps) e in
        ap (λ (b : Bool). b && parts_show test ps) (part_showing p two.0) ∙ parts_showing ps two.1
