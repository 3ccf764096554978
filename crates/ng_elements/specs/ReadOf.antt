-- What the bindings that were read stand for in the code.
use Rattle.std.specs.Prelude.{◌≡◌, Bool, List, map, Option, None, Some, option_map, Result, Ok, Err}
use Rattle.ng_bind.specs.declared.spec.BindFault.{BindFault}
use Rattle.ng_bind.specs.declared.spec.BindFault.TheVariants.{BadBinding, Memory}
use Rattle.ng_bind.specs.declared.spec.Spec.{Spec}
use Rattle.ng_collect.specs.declared.definition.DirectiveDef.{DirectiveDef}
use Rattle.ng_interp.specs.Parts.{piece_of}
use Rattle.ng_parse.specs.ProgramOf.{program}
use Rattle.ng_parts.specs.ActsOf.{uses_of}
use Rattle.ng_parts.specs.FragmentOf.{sites_of}
use Rattle.ng_elements.specs.Using.{Read, text_read, nothing_read, value_read, both_read, call_read, Property, Asked, asks_child, asks_isolate, asks_template, asks_transclusion}
use Rattle.ng_elements.specs.declared.using.Asked as code_asked
use Rattle.ng_elements.specs.declared.bindings.Property as code_property
use Rattle.ng_elements.specs.declared.bindings.Read as code_read
use Rattle.ng_elements.specs.declared.bindings.Read.TheVariants.{Text, Nothing, Value, Both, Call}
use Rattle.ng_elements.specs.declared.using.Wish.{Wish}
use Rattle.ng_elements.specs.declared.using.Wish.TheVariants as wishes

-- the binding that a text is, if it is one, or want of memory
abbrev pub IsSpec : Option Spec → Result Spec BindFault → Type 0
IsSpec o (Ok s) = o ≡ Some s
IsSpec o (Err BadBinding) = o ≡ None
IsSpec o (Err (Memory m)) = Unit {0}

abbrev pub read_of : code_read.Read → Read
read_of (Text ps) = text_read (map piece_of ps.items)
read_of Nothing = nothing_read
read_of (Value once p) = value_read once (program p)
read_of (Both p w) = both_read (program p) (option_map program w)
read_of (Call p) = call_read (program p)

abbrev pub property_of : code_property.Property → Property
property_of p = record { name = p.name; read = read_of p.read }

abbrev pub properties_of : List code_property.Property → List Property
properties_of ps = map property_of ps

abbrev pub asked_of : code_asked.Asked → Asked
asked_of a = record { uses = option_map uses_of a.uses; sites = sites_of a.sites.items; wrong = a.wrong }

-- what a directive may ask of its element
abbrev pub wish_of : Wish → DirectiveDef → Bool
wish_of wishes.Child = asks_child
wish_of wishes.Isolate = asks_isolate
wish_of wishes.Template = asks_template
wish_of wishes.Transclusion = asks_transclusion
