-- The noise load: the refusal's number; the generator and its draws; what the load does to a block; and what is so of every load.
pub mod Refusals
pub mod Generator
pub mod Load
pub mod Facts
pub mod Examples
pub mod Code
