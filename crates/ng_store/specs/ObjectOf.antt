-- What a stored object stands for.
use Rattle.std.specs.Prelude.{ℕ, List, map, option_map}
use Rattle.std.specs.List.{zip}
use Rattle.ng_base.specs.Objects.{Object}
use Rattle.ng_base.specs.declared.value.Value.{Value}
use Rattle.ng_store.specs.NamesOf.{names_in}
use Rattle.ng_store.specs.declared.properties.Properties.{Properties}
use Rattle.ng_store.specs.declared.stored.Stored.{Stored}

-- each name beside its value
abbrev pub properties_of : Properties → List (List ℕ × Value)
properties_of p = zip (names_in p.names) p.values.items

abbrev pub object_of : Stored → Object
object_of x = record { kind = x.kind; proto = option_map (λ o. o.0) x.proto; items = x.items.items; properties = properties_of x.properties }

abbrev pub objects_of : List Stored → List Object
objects_of = map object_of
