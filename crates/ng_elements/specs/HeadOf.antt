-- What elements and fragments that are being made stand for.
use Rattle.ng_parts.specs.AttributeOf.{class_of}
use Rattle.ng_elements.specs.Elements.{Made}
use Rattle.ng_directives.specs.Directives.{Head}
use Rattle.ng_parts.specs.FragmentOf.{sites_of, outlets_of, fragments_of}
use Rattle.ng_parts.specs.Seen.{acts_of}
use Rattle.ng_parts.specs.declared.tpl.Making.{Making}
use Rattle.ng_elements.specs.declared.elements.Element as code

abbrev pub made_of : Making → Made
made_of m = record { places = m.places.now; sites = sites_of m.sites.items; outlets = outlets_of m.outlets.items; bodies = fragments_of m.bodies.items }

abbrev pub head_of : code.Element → Head
head_of e = record { kind = e.kind; attributes = e.attributes; class = class_of e.class; bound = e.bound; switch = e.switch; own = e.own.items; acts = acts_of e.acts; wrong = e.wrong; sites = sites_of e.sites.items }
