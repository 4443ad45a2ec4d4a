-- Four undisturbed periods in a row need not bring a new block or the end: a list of calls in which the fifth does.
-- Assumes nothing.
use mathlib.Core.Path.{◌≡◌, refl}
use mathlib.Core.Bool.{true, false}
use mathlib.Core.List.{List, [], ◌∷◌, ◌++◌, map, flat_map}
use Rattle.block.specs.Block.{sync_block}
use Rattle.line.specs.Sending.{synchronising, item}
use Rattle.line.specs.Course.{course}
use Rattle.line.specs.Delivery.{Assumptions}
use Rattle.line.specs.declared.sender.Next.TheVariants.{Sync, Older, Newer}
use Rattle.line.specs.declared.receiving.Event.TheVariants as E
use Rattle.line.specs.declared.receiving.Phase.TheVariants as P
use Rattle.witness.proofs.Meets.{meets}
use Rattle.witness.proofs.PeriodRows.{outcome, Row, all_calls, trace, sender, receiver, good, bad, period, damaged, damaged_sync_remainder}
use Rattle.witness.proofs.TwoItems.{order, content, block, one, two, w₀, sixty, synchronised, accepted, cancels, fails, resynchronises, ends}

-- A reading of 1 where 0 was meant, and damage up to a synchronising block, the eighth bad in a row. The five periods
-- behind it are undisturbed: the search passes item 1 and a cancelled block, finds the next synchronising block, item 1 is
-- the previous one, and then comes the end.
abbrev pub late : List Row
late =
    synchronised sixty
    ∷ accepted sixty
    ∷ period order one two false (block 1) (item 1 false true false) false true E.Accepted
    (sender 480 2 0 false Newer false) (good 2 false)
    ∷ cancels sixty two false 1 Older (bad 1 2)
    ∷ fails two 1 (bad 2 2)
    ∷ cancels sixty two true 2 Older (bad 3 2)
    ∷ fails two 2 (bad 4 2)
    ∷ cancels sixty two true 3 Older (bad 5 2)
    ∷ fails two 3 (bad 6 2)
    ∷ cancels sixty two true 4 Sync (bad 7 2)
    ∷ period order two two true (damaged (sync_block 240)) synchronising true false (E.Bad damaged_sync_remainder)
    (sender 480 2 4 false Older false) (receiver 0 true 2 false P.Search)
    ∷ (resynchronises two 2
    ++ (period order two two false (block 1) (item 1 false false false) false true E.Previous
    (sender 480 2 5 false Newer false) (good 2 false)
    ∷ ends sixty false
    ∷ []))

pub late_computed : trace w₀ late ≡ late
unfolding trace
late_computed = refl

pub late_meets : Assumptions 240 content (course w₀ (all_calls late))
unfolding trace
late_meets = meets 240 content (course w₀ (all_calls late)) refl

-- what each call did
pub late_told : map outcome (course w₀ (all_calls late)) ≡ flat_map (λ r. r.outcomes) late
unfolding trace
late_told = refl
