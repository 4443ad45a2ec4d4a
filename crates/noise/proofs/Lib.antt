-- Lemmas of the noise load; those of one function of the code stand in its folder.
-- The pattern over three bytes, and over a block: Spans. Ones counted: Ones. What a call does and answers: Loads. The first word's
-- step: FirstWord. The block before and after: EveryLoad; a cancelled one: OnePattern. Numbers and blocks computed: Examples,
-- Witness.
pub mod Spans
pub mod Ones
pub mod Loads
pub mod FirstWord
pub mod EveryLoad
pub mod OnePattern
pub mod Examples
pub mod Witness
