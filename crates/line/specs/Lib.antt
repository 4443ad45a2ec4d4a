-- The refusals' numbers, docs/PROTOCOL.md in its order, the most blocks that a sender sends, a receiving call by its readiness, a
-- bad event's number, the bits that a call uses, a call in place and in pieces, demand 3, what a layer above takes from it, the
-- examples that are proved, and what the private functions ask and promise.
pub mod Refusals
pub mod LoopTime
pub mod Marks
pub mod Order
pub mod Sending
pub mod SendCalls
pub mod MostBlocks
pub mod Receiving
pub mod WithoutMarks
pub mod Readiness
pub mod BadRemainder
pub mod BitsUsed
pub mod ReceivingInPlace
pub mod Pieces
pub mod Course
pub mod Delivery
pub mod WholeOrder
pub mod Examples
pub mod Code
