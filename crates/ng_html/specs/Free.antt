-- The answer that is free: memory was refused.
pub use Rattle.ng_tags.specs.Free.{fault, refused, is_refused, is_free}
