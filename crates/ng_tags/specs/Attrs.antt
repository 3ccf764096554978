-- An attribute as contracts see it: a name and a value.
use Rattle.std.specs.Prelude.{ℕ, List}
use Rattle.ng_tags.specs.declared.attrs.Attr.{Attr}

abbrev pub attr_of : Attr → List ℕ × List ℕ
attr_of a = (a.name, a.value)
