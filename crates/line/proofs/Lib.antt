-- Lemmas of the two ends. Those of one function of the code stand in the folder of its file (sender/, head/, ...).
-- Loop times: Table, LoopTime (without rounding). Marks: CodeSizes, WithoutMarks (what is left without them). An item:
-- ServiceBits, Items, LastItem (its filling), ItemBlocks (the block that is built). The sender's range: SenderRange; the most
-- blocks that it sends: MostBlocks. Bits moved by bytes: BitMoves. A receiving call: ReceivingCall, ReceptionCases (the ways it
-- can end), KeptSetup (what opening fixed stays), TakenBlock (what is taken, by its event), and in place InPlace; in search
-- SearchWindow, LineSearch; in step InStepBits, BlockFields (what a block's bytes say), StorePlace (where its data go), OrWait
-- (the step to *wait*), BlockFinished (what is handed back). Demand 3: Delivery. Ready or not: Readiness. What a bad event's
-- number says: BadRemainder. How many bits a call uses: BitsUsed. Calls lent in pieces: Pieces. The examples of
-- docs/PROTOCOL.md: Examples.
pub mod Table
pub mod LoopTime
pub mod ServiceBits
pub mod CodeSizes
pub mod WithoutMarks
pub mod Items
pub mod LastItem
pub mod ItemBlocks
pub mod SenderRange
pub mod MostBlocks
pub mod BitMoves
pub mod BlockFields
pub mod SearchWindow
pub mod StorePlace
pub mod BlockFinished
pub mod InStepBits
pub mod LineSearch
pub mod OrWait
pub mod ReceivingCall
pub mod ReceptionCases
pub mod KeptSetup
pub mod TakenBlock
pub mod InPlace
pub mod Delivery
pub mod Readiness
pub mod BadRemainder
pub mod BitsUsed
pub mod Pieces
pub mod Examples
