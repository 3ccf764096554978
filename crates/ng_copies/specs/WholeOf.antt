-- What a fragment that is a template's own or made of two stands for.
use Rattle.ng_drawing.specs.Included as included
use Rattle.ng_drawing.specs.Template as template
use Rattle.ng_parts.specs.FragmentOf.{fragment_of}
use Rattle.ng_parts.specs.Seen.{acts_of}
use Rattle.ng_copies.specs.declared.including.Opened.{Opened}
use Rattle.ng_copies.specs.declared.including.Whole.{Whole}
use Rattle.ng_copies.specs.declared.including.Whole.TheVariants.{Kept, Made}

abbrev pub whole_of : Whole → template.Fragment
whole_of (Kept f) = fragment_of f.now
whole_of (Made f) = fragment_of f

abbrev pub opened_of : Opened → included.Opened
opened_of e = record { name = e.name.now; own = e.own.now; acts = acts_of e.acts.now; attributes = e.attributes.now }
