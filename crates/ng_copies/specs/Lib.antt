pub mod WholeOf
