pub mod Bits
pub mod Words
pub mod Polynomial
pub mod Check
pub mod Damage
pub mod AnyPlace
