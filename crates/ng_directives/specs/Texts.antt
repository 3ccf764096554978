-- A text by itself: its parts, or why it is refused.
use Rattle.std.specs.Prelude.{ℕ, ◌+◌, Bool, true, not, List, [], ◌∷◌, Option, None, Some, Result, Ok, Err, if◌then◌else◌}
use Rattle.std.specs.List.{list_all, flat_map}
use Rattle.ng_drawing.specs.Template.{Site}
use Rattle.ng_drawing.specs.Template as template
use Rattle.ng_drawing.specs.declared.kind.SiteKind.{SiteKind}
use Rattle.ng_interp.specs.Parts.{Piece, words, hole}
use Rattle.ng_interp.specs.declared.pieces.InterpFault.{InterpFault}
use Rattle.ng_evaluation.specs.Purity.{are_pure, all_filters_known}
use Rattle.ng_parts.specs.SiteOf.{site_with}
use Rattle.ng_directives.specs.declared.fault.TplFault.{TplFault}
use Rattle.ng_directives.specs.declared.fault.TplKind.{TplKind}
use Rattle.ng_directives.specs.declared.fault.TplKind.TheVariants.{Expression, UnknownFilter, Impure}

abbrev pub refused : TplKind → ℕ → TplFault
refused kind place = record { place = place; kind = kind }

-- each filter of it is there, with its number of arguments
abbrev pub is_known : Piece → Bool
is_known (words t) = true
is_known (hole once p) = all_filters_known p

-- it changes nothing
abbrev pub is_pure : Piece → Bool
is_pure (words t) = true
is_pure (hole once p) = are_pure p

-- what is wrong with the holes of a text: UnknownFilter of all of them, then Impure of all
abbrev pub wrong : List Piece → Option TplKind
wrong ps =
    if not (list_all is_known ps) then Some UnknownFilter
    else if not (list_all is_pure ps) then Some Impure
    else None

abbrev pub judged_as : ℕ → Option TplKind → List Piece → Result (List Piece) TplFault
judged_as place None ps = Ok ps
judged_as place (Some kind) ps = Err (refused kind place)

-- the parts of a text that begins at a place; a hole without a program is Expression, which comes first
abbrev pub judged : ℕ → Result (List Piece) InterpFault → Result (List Piece) TplFault
judged place (Err f) = Err (refused Expression place)
judged place (Ok ps) = judged_as place (wrong ps) ps

-- the pieces of parts, whose holes have numbers from n on
abbrev pub numbered : ℕ → List Piece → List template.Piece
numbered n [] = []
numbered n (words t ∷ ps) = template.word t ∷ numbered n ps
numbered n (hole once p ∷ ps) = template.hole n ∷ numbered (n + 1) ps

-- the site of a hole, which is a one-time binding where the hole begins with `::`
abbrev pub piece_sites : SiteKind → Piece → List Site
piece_sites kind (words t) = []
piece_sites kind (hole once p) = site_with kind once p ∷ []

abbrev pub sites_in : SiteKind → List Piece → List Site
sites_in kind ps = flat_map (piece_sites kind) ps

-- as many numbers from n on as a list has entries
abbrev pub counted : {A : Type 0} → ℕ → List A → List ℕ
counted n [] = []
counted n (x ∷ xs) = n ∷ counted (n + 1) xs
