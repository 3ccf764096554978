-- The node of a site shows what is kept now, and nothing else is changed.
use Rattle.std.specs.Prelude.{ℕ, ◌≡◌, List, Option, None, Some}
use Rattle.ng_base.specs.declared.path.Key.{Key}
use Rattle.ng_dom.specs.Document.{Becomes, Stays}
use Rattle.ng_dom.specs.Drawing.{Look, Source, of_text, of_comment, of_element, joined, drawn_attributes}
use Rattle.ng_dom.specs.Editing.{changed_in, with_text, with_attributes}
use Rattle.ng_dom.specs.declared.dom.Dom.{Dom}
use Rattle.ng_markup.specs.Forest.{Attributes}
use Rattle.ng_build.specs.Sources.{sources}
use Rattle.ng_instances.specs.InstanceOf.{spot_in}
use Rattle.ng_link.specs.State.{state_of, looks_in}
use Rattle.ng_link.specs.declared.firing.Redraw as code
use Rattle.ng_link.specs.declared.firing.Redraw.TheVariants as changes
use Rattle.ng_link.specs.declared.works.Works.{Works}

-- what is drawn anew: nothing, a text, or the attributes of an element
pub data Redraw : Type 0 where
  nothing_new : Redraw
  a_text : List ℕ → Redraw
  on_element : Attributes → Redraw

-- what is drawn anew from a source
abbrev pub drawn_anew : (Key → Look) → Option Source → Redraw
drawn_anew v None = nothing_new
drawn_anew v (Some (of_text ps)) = a_text (joined v ps)
drawn_anew v (Some of_comment) = nothing_new
drawn_anew v (Some (of_element ats)) = on_element (drawn_attributes v ats)

-- a node shows what was drawn
abbrev pub Tells : Redraw → ℕ → Dom → Dom → Type 0
Tells nothing_new n d e = e ≡ d
Tells (a_text t) n d e = Becomes d e (changed_in n (with_text t)) × Stays d e
Tells (on_element ats) n d e = Becomes d e (changed_in n (with_attributes (λ _. ats))) × Stays d e

abbrev pub Writes : (Key → Look) → ℕ → Dom → Dom → Type 0
Writes v n d e = Tells (drawn_anew v (sources d n)) n d e

abbrev pub WritesAt : (Key → Look) → Option ℕ → Dom → Dom → Type 0
WritesAt v None d e = e ≡ d
WritesAt v (Some n) d e = Writes v n d e

-- the node of a key's site shows what is kept now, and all else is as before
pub record Fires (k : Key) (old new : Works) : Type 0 where
  pub dom : WritesAt (looks_in (state_of old)) (spot_in old.inner.entries old.instances.entries k) old.dom new.dom
  pub rest : new ≡ record old { dom = new.dom }

abbrev pub redraw_of : code.Redraw → Redraw
redraw_of changes.Nothing = nothing_new
redraw_of (changes.Text t) = a_text t
redraw_of (changes.Attributes ats) = on_element ats.entries
