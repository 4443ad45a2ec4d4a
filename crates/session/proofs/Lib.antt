-- Lemmas of the run program's text; those of one function of the code stand in the folder of its file.
-- Texts: Appending, Decimal, Outputs (texts in an output). Line one: LineOne, Openings (opening by what is kept of it). A
-- period: Orders, Sent (the block in the line's array), Shifting, ReceivingCalls, Uses, PeriodCalls, NeverWaits (no line
-- shows a wait), HeardEvents, LastEvent (no line hides accepted or ended), Witness (periods computed for it). The whole input:
-- ByBytes (a byte at a time), MostPeriods (how many periods), Whole (in parts).
pub mod Appending
pub mod ByBytes
pub mod Decimal
pub mod ReceivingCalls
pub mod HeardEvents
pub mod LastEvent
pub mod LineOne
pub mod MostPeriods
pub mod NeverWaits
pub mod Openings
pub mod Orders
pub mod Outputs
pub mod PeriodCalls
pub mod Sent
pub mod Shifting
pub mod Uses
pub mod Whole
pub mod Witness
