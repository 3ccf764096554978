-- What reading and printing promise.
use Rattle.std.specs.Prelude.{◌≡◌, ℕ, List, Result, Ok, Err, IfOk, IfErr, false, encode_utf8_all}
use Rattle.ng_base.specs.Meets.{Gives}
use Rattle.ng_markup.specs.Forest.{Forest, print}
use Rattle.ng_tags.specs.declared.fault.HtmlFault.{HtmlFault}
use Rattle.ng_html.specs.Free.{is_free}
use Rattle.ng_html.specs.Grammar.{Html}
use Rattle.ng_html.specs.Refusals.{Refuses}
use Rattle.ng_html.specs.Seen.{forest_of}
use Rattle.ng_html.specs.TreeSeen.{source_of}
use Rattle.ng_html.specs.declared.source.Source.{Source}

-- what is read is spelled by the bytes, each node at its place
abbrev pub Found : List ℕ → Result Source HtmlFault → Type 0
Found bytes r = IfOk r (λ s. Html bytes (forest_of s.forest) s.places)

-- what the bytes spell is read, unless memory is refused
abbrev pub Only : List ℕ → Result Source HtmlFault → Type 0
Only bytes r = (f : Forest) (ps : List ℕ) → Html bytes f ps → Gives is_free source_of (Ok (f, ps)) r

-- what is refused is the refusal of these bytes
abbrev pub Refused : List ℕ → Result Source HtmlFault → Type 0
Refused bytes r = IfErr r (λ f. is_free f ≡ false → Refuses bytes f)

-- the refusal of these bytes is what is answered, unless memory is refused
abbrev pub OneRefusal : List ℕ → Result Source HtmlFault → Type 0
OneRefusal bytes r = (f : HtmlFault) → Refuses bytes f → Gives is_free source_of (Err f) r

-- the print of a forest that bytes spell spells it too
abbrev pub PrintsBack : Type 0
PrintsBack = (bytes : List ℕ) (f : Forest) (ps : List ℕ) → Html bytes f ps → (qs : List ℕ) × Html (encode_utf8_all (print f)) f qs
