-- A text with one part, and the block of its hole.
use Rattle.std.proofs.Common.{◌≡◌, ℕ, Bool, true, List, [], ◌∷◌, ◌++◌, map, length, Option, None, Some, refl, ap, sym, ◌∙◌, append-nil, length-append, arith}
use Rattle.std.proofs.lemmas.Bool.{and_parts}
use Rattle.std.specs.List.{list_all}
use Rattle.std.specs.Option.{option_to_list}
use Rattle.std.specs.Prelude.{IsSome}
use Rattle.ng_interp.specs.Parts.{piece_of}
use Rattle.ng_interp.specs.declared.pieces.Part.{Part}
use Rattle.ng_interp.specs.declared.pieces.Part.TheVariants.{Words, Hole}
use Rattle.ng_language.specs.Trees.{Trees}
use Rattle.ng_parse.specs.ProgramOf.{program}
use Rattle.ng_parse.specs.declared.programs.Program.{Program}
use Rattle.ng_template.specs.Around.{Block, block_with, kind_of_block}
use Rattle.ng_parts.specs.SiteOf.{site_with}
use Rattle.ng_directives.specs.Texts.{is_known, is_pure, sites_in}
use Rattle.ng_evaluation.specs.Purity.{are_pure, all_filters_known}

none_left : {X : Type 0} (ys : List X) → length ys ≡ 0 → ys ≡ []
none_left [] e = refl
none_left (y ∷ ys) e = absurd (cc)

pub popped : {X : Type 0} (xs ys : List X) (r : Option X) → xs ≡ ys ++ option_to_list r → length xs ≡ 1 → IsSome r → xs ≡ option_to_list r
popped xs ys None e one some = absurd (cc)
popped xs ys (Some x) e one some =
    let size : length xs ≡ length (ys ++ x ∷ []) = ap length e in
    e ∙ ap (λ zs. zs ++ x ∷ []) (none_left ys (omega (arith, size, one, length-append ys (x ∷ []))))

-- the one hole of a text whose holes are all so
module _ (parts : List Part) (once : Bool) (p : Program) (is : parts ≡ Hole once p ∷ []) where
  pub hole_known : list_all is_known (map piece_of parts) ≡ true → all_filters_known (program p) ≡ true
  hole_known h = (and_parts (all_filters_known (program p)) true (ap (λ ps. list_all is_known (map piece_of ps)) (sym is) ∙ h)).0

  pub hole_pure : list_all is_pure (map piece_of parts) ≡ true → are_pure (program p) ≡ true
  hole_pure h = (and_parts (are_pure (program p)) true (ap (λ ps. list_all is_pure (map piece_of ps)) (sym is) ∙ h)).0

module _ (before : List Block) (named : Bool) (starts : List Trees) where
  abbrev pub with_holes : List Part → List Block
  with_holes parts = before ++ map (block_with named starts) (sites_in (kind_of_block named) (map piece_of parts))

  pub none_added : (parts : List Part) → parts ≡ [] → before ≡ with_holes parts
  none_added parts e = sym (ap with_holes e ∙ append-nil before)

  pub words_added : (parts : List Part) (t : List ℕ) → parts ≡ Words t ∷ [] → before ≡ with_holes parts
  words_added parts t e = sym (ap with_holes e ∙ append-nil before)

  pub hole_added : (parts : List Part) (once : Bool) (p : Program) → parts ≡ Hole once p ∷ [] → before ++ block_with named starts (site_with (kind_of_block named) once (program p)) ∷ [] ≡ with_holes parts
  hole_added parts once p e = sym (ap with_holes e)
