-- A text is cut at its holes: `{{` up to the next `}}`. Without a later `}}` a `{{` is plain.
use Rattle.std.specs.Prelude.{ℕ, ◌==◌, ◌&&◌, Bool, List, [], ◌∷◌, ◌++◌, length, Option, None, Some, is_some, encode_utf8_all, if◌then◌else◌}
use Rattle.ng_base.specs.Codes.{open_brace, close_brace}
use Rattle.ng_base.specs.Cells.{place}
use Rattle.ng_interp.specs.declared.cutting.Cut.{Cut}
use Rattle.ng_interp.specs.declared.cutting.Cut.TheVariants.{Words, Hole}
use Rattle.ng_interp.specs.declared.cutting.Opened.{Opened}

-- a pair of marks: `{{` outside of a hole, `}}` inside of one
abbrev pub is_pair : Bool → ℕ → ℕ → Bool
is_pair inside c d = (c == (if inside then close_brace else open_brace)) && (d == c)

-- the text ends: a hole that is open then was none
abbrev pub last_cut : Option Opened → List ℕ → Cut
last_cut None t = Words t
last_cut (Some o) t = Words (o.before ++ open_brace ∷ open_brace ∷ t)

-- behind a pair of marks
abbrev pub cuts_behind : List Cut → Option Opened → List ℕ → List Cut
cuts_behind done None t = done
cuts_behind done (Some o) t = done ++ Words o.before ∷ Hole o.place t ∷ []

abbrev pub opened_at : ℕ → Option Opened → List ℕ → Option Opened
opened_at p None t = Some (record { place = p; before = t })
opened_at p (Some o) t = None

-- the cuts behind those that were made; what stands open, and the characters that were read last
abbrev pub cut_from : ℕ → List Cut → Option Opened → List ℕ → List ℕ → List Cut
cut_from total done o t [] = done ++ last_cut o t ∷ []
cut_from total done o t (c ∷ []) = done ++ last_cut o (t ++ c ∷ []) ∷ []
cut_from total done o t (c ∷ d ∷ cs) =
    if is_pair (is_some o) c d then cut_from total (cuts_behind done o t) (opened_at (place total cs) o t) [] cs
    else cut_from total done o (t ++ c ∷ []) (d ∷ cs)

-- plain words and holes in turn, each hole with its place in bytes
abbrev pub cuts_of : List ℕ → List Cut
cuts_of t = cut_from (length (encode_utf8_all t)) [] None [] t

-- the text of a cut as it was written
abbrev pub written : Cut → List ℕ
written (Words t) = t
written (Hole p t) = open_brace ∷ open_brace ∷ (t ++ close_brace ∷ close_brace ∷ [])
