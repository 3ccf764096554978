-- An attribute as contracts see it: a name and a value.
pub use Rattle.ng_tags.specs.Attrs.{attr_of}
