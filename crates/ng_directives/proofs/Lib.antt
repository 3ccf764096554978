pub mod HolePlaces
pub mod Numbers
