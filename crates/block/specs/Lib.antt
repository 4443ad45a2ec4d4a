pub mod Answer
pub mod Lengths
pub mod Block
pub mod Calls
pub mod Packed
pub mod EveryLength
