pub mod ReadWritten
