-- The proof of demand 3, in layers.
-- The two ends block by block: Ends (the steps), Invariant, Progress (the rank that falls).
-- What holds between calls: State. A sending call: SendStep. What the rules make of a block: BlockRules, BlockStep, RuleOnLine.
-- A receiving call: CallOnBlock; by phase CallInStep, CallInSearch (SearchAnyBits), CallByPhase. The store: WrittenBits, StoredItem.
-- Any call: OneCall; the list: CallList; losses: BetweenLosses; progress: UndisturbedPeriods, FivePeriods; all of it: Theorem.
-- Besides: the calls answer as the course says (Answers), prefixes of a list (Prefixes), blocks that arrive unharmed (Unharmed),
-- one bit a call (BitByBit), what a layer above takes (WholeOrder).
pub mod Ends
pub mod Invariant
pub mod Progress
pub mod State
pub mod BlockRules
pub mod WrittenBits
pub mod SearchAnyBits
pub mod SendStep
pub mod StoredItem
pub mod BlockStep
pub mod RuleOnLine
pub mod CallOnBlock
pub mod CallInStep
pub mod CallInSearch
pub mod CallByPhase
pub mod OneCall
pub mod CallList
pub mod UndisturbedPeriods
pub mod FivePeriods
pub mod Theorem
pub mod WholeOrder
pub mod BitByBit
pub mod Unharmed
pub mod Answers
pub mod Prefixes
pub mod BetweenLosses
