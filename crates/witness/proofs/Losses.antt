-- Lists of calls that lose requests: one that ends in the alarm, and two with a good block between. Assumes nothing.
use mathlib.Core.Path.{◌≡◌, refl}
use mathlib.Core.Bool.{true, false}
use mathlib.Core.List.{List, [], ◌∷◌}
use Rattle.block.specs.Block.{sync_block, cancelled}
use Rattle.line.specs.Sending.{synchronising, item}
use Rattle.line.specs.Course.{course}
use Rattle.line.specs.Delivery.{Assumptions}
use Rattle.line.specs.declared.sender.Next.TheVariants.{Sync, Older, Newer}
use Rattle.line.specs.declared.receiving.Event.TheVariants as E
use Rattle.line.specs.declared.receiving.Phase.TheVariants as P
use Rattle.witness.proofs.Meets.{meets}
use Rattle.witness.proofs.PeriodRows.{Row, all_calls, trace, sender, receiver, good, bad, period, damaged, cancelled_remainder, damaged_remainder}
use Rattle.witness.proofs.TwoItems.{order, content, block, initial_store, one, two, w₀, sixty, synchronised, accepted, cancels, fails, ends}

-- Item 0 is damaged and its request lost: item 1 brings the sequence alarm, which stays.
abbrev pub alarms : List Row
alarms =
    synchronised sixty
    ∷ period order initial_store initial_store false (damaged (block 0)) (item 0 false false false) false false (E.Bad damaged_remainder)
    (sender 480 1 0 true Newer false) (bad 1 0)
    ∷ period order initial_store initial_store false (block 1) (item 1 false true false) true true E.SequenceAlarm
    (sender 480 2 0 false Newer false) (receiver 0 true 0 false P.SequenceAlarm)
    ∷ period order initial_store initial_store true (cancelled (block 2)) (item 2 true true true) true true E.SequenceAlarm
    (sender 480 2 1 false Older false) (receiver 0 true 0 false P.SequenceAlarm)
    ∷ []

pub alarms_computed : trace w₀ alarms ≡ alarms
unfolding trace
alarms_computed = refl

pub alarms_meets : Assumptions 240 content (course w₀ (all_calls alarms))
unfolding trace
alarms_meets = meets 240 content (course w₀ (all_calls alarms)) refl

-- A reading of 1 where 0 was meant cancels item 1. Item 0 comes again, damaged, and its request is lost, but item 1 is
-- good. The same with item 2.
abbrev pub two_losses : List Row
two_losses =
    synchronised sixty
    ∷ accepted sixty
    ∷ period order one one true (cancelled (block 1)) (item 1 false true true) false true (E.Bad cancelled_remainder)
    (sender 480 1 1 true Sync false) (bad 1 1)
    ∷ period order one one true (sync_block 240) synchronising true true E.Sync
    (sender 480 1 1 true Older false) (good 1 false)
    ∷ period order one one false (damaged (block 0)) (item 0 false false false) false false (E.Bad damaged_remainder)
    (sender 480 1 1 true Newer false) (bad 1 1)
    ∷ period order one two false (block 1) (item 1 false true false) true true E.Accepted
    (sender 480 2 0 false Newer false) (good 2 false)
    ∷ cancels sixty two false 1 Older (bad 1 2)
    ∷ fails two 1 (bad 2 2)
    ∷ ends sixty true
    ∷ []

pub two_losses_computed : trace w₀ two_losses ≡ two_losses
unfolding trace
two_losses_computed = refl

pub two_losses_meets : Assumptions 240 content (course w₀ (all_calls two_losses))
unfolding trace
two_losses_meets = meets 240 content (course w₀ (all_calls two_losses)) refl
