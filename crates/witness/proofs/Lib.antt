-- Computed witnesses. The receiving end's corner cases: Corners; all values of the service bits: ServiceValues; a call in
-- pieces: Pieces; the bits that calls use: BitsUsed; the sending end: Sends; the most blocks that it sends: MostBlocks. How a
-- list of calls is written and judged: Meets, PeriodRows, TwoItems. Lists that meet all that demand 3 supposes: Example,
-- Repeats, Losses; with marks: Marked; of a tint order, which is then read: Tinted; with a machine that is not ready: Busy.
-- Tint orders and their refusals by example: TintCases. The remainder that a bad event reports, and why 1 does not mean that a
-- block was cancelled: Remainders.
-- Why a good block between two losses is needed: Moved; why the machine is opened anew: NotOpened; why both ends use marks or
-- neither: NotAlike; why both have the same k: NotSameK; why an end block is not taken without its length: EndLength; why four
-- undisturbed periods do not suffice: FourPeriods; why a period with a wait is not undisturbed: Busy.
pub mod Corners
pub mod ServiceValues
pub mod Pieces
pub mod BitsUsed
pub mod Sends
pub mod MostBlocks
pub mod Meets
pub mod PeriodRows
pub mod TwoItems
pub mod Example
pub mod Repeats
pub mod Losses
pub mod Busy
pub mod Marked
pub mod TintCases
pub mod Tinted
pub mod Remainders
pub mod Moved
pub mod NotOpened
pub mod NotAlike
pub mod NotSameK
pub mod EndLength
pub mod FourPeriods
