-- Lemmas of the block; those of one function of the code stand in its folder.
-- Truth values: Truth. The four lengths: Lengths. The block as a row: Block; its bytes: Packing. Tests one after the other:
-- TestsInTurn; which answer a call gives: Refusals. A call by k and the call below it: LookUp. Reading what was built:
-- RoundTrip. Passing and dividing: Passing. A block that was cancelled: Cancelled. All of these at every multiple of 8:
-- EveryLength. The theorems at one case: Witness.
pub mod Truth
pub mod Lengths
pub mod Block
pub mod Packing
pub mod TestsInTurn
pub mod Refusals
pub mod LookUp
pub mod RoundTrip
pub mod Passing
pub mod Cancelled
pub mod EveryLength
pub mod Witness
pub mod OtherLengths
