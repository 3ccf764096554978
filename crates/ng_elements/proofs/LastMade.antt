-- A body more is the last.
use Rattle.std.proofs.Common.{◌≡◌, List, [], ◌∷◌, ◌++◌, ap, ◌∙◌}
use Rattle.std.proofs.lemmas.List.{map-append}
use Rattle.ng_drawing.specs.Template.{Fragment}
use Rattle.ng_parts.specs.FragmentOf.{fragment_of, fragments_of}
use Rattle.ng_parts.specs.declared.fragment.Fragment as code_fragment

-- the body that was made last
pub last_made : (bodies all : List code_fragment.Fragment) (last : code_fragment.Fragment) (f : Fragment) → all ≡ bodies ++ last ∷ [] → fragment_of last ≡ f → fragments_of all ≡ fragments_of bodies ++ f ∷ []
last_made bodies all last f more made = ap fragments_of more ∙ (map-append fragment_of bodies (last ∷ []) ∙ ap (λ x. fragments_of bodies ++ x ∷ []) made)
