-- Where a repeat's text is cut.
use Rattle.std.specs.Prelude.{ℕ, List, [], ◌∷◌, ◌++◌, Option, None, Some, codes, if◌then◌else◌}
use Rattle.ng_language.specs.Choice.{when_some}
use Rattle.ng_language.specs.Letters.{is_space}
use Rattle.ng_language.specs.Lexing.{next_is}
use Rattle.ng_language.specs.OneTime.{without_front}
use Rattle.ng_blocks.specs.declared.dividing.Divider.{Divider}
use Rattle.ng_blocks.specs.declared.dividing.Divider.TheVariants.{In, TrackBy}

-- what stands after a word, where the text begins with it
abbrev pub after_word : List ℕ → List ℕ → Option (List ℕ)
after_word [] cs = Some cs
after_word (w ∷ ws) cs = when_some (next_is w cs) (λ ds. after_word ws ds) None

-- the text, where it begins with white space
abbrev pub spaced_on : List ℕ → Option (List ℕ)
spaced_on [] = None
spaced_on (c ∷ cs) = if is_space c then Some (c ∷ cs) else None

abbrev pub after_in : List ℕ → Option (List ℕ)
after_in cs = when_some (after_word (codes "in") cs) spaced_on None

abbrev pub after_track_by : List ℕ → Option (List ℕ)
after_track_by cs =
    when_some (after_word (codes "track") cs)
    (λ ds. when_some (spaced_on ds) (λ es. when_some (after_word (codes "by") (without_front es)) spaced_on None) None)
    None

-- what stands after a divider, where the text begins with it and goes on with white space
abbrev pub after_divider : Divider → List ℕ → Option (List ℕ)
after_divider In cs = after_in cs
after_divider TrackBy cs = after_track_by cs

-- what stands before and after the first divider between white space, after these characters
abbrev pub cut_from : Divider → List ℕ → List ℕ → Option (List ℕ × List ℕ)
cut_from d before [] = None
cut_from d before (c ∷ cs) =
    if is_space c then when_some (after_divider d cs) (λ after. Some (before ++ c ∷ [], after)) (cut_from d (before ++ c ∷ []) cs)
    else cut_from d (before ++ c ∷ []) cs
