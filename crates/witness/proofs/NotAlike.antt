-- Why both ends use marks or neither does: two lists of calls that meet all else. Assumes nothing.
use mathlib.Core.Path.{◌≡◌, refl}
use mathlib.Core.Bool.{true, false, false≢true}
use mathlib.Core.List.{List, [], ◌∷◌, ◌++◌}
use Prim.Native.Nat.{ℕ}
use lib.ListN.{drop, replicate}
use Rattle.std.proofs.Common.{Some}
use Rattle.crc.specs.Bits.{Bits, bytes_of}
use Rattle.block.specs.Block.{sync_block, cancelled}
use Rattle.line.specs.Marks.{marks_of}
use Rattle.line.specs.Order.{item_bits}
use Rattle.line.specs.Sending.{synchronising, item, fresh_sender}
use Rattle.line.specs.Receiving.{fresh_receiver, searching}
use Rattle.line.specs.Course.{Call, sending, receiving, World, opened, entry, course, final}
use Rattle.line.specs.Delivery.{some, is_lost, Assumptions, Guarantees}
use Rattle.line.specs.declared.marks.Marks.{Marks}
use Rattle.line.specs.declared.sender.Next.TheVariants.{Sync, Older, Newer}
use Rattle.line.specs.declared.receiving.Event.TheVariants as E
use Rattle.line.specs.declared.receiving.Phase.TheVariants as P
use Rattle.witness.proofs.Meets.{meets}
use Rattle.witness.proofs.PeriodRows.{Row, all_calls, trace, no_marks, sender, sender_with, receiver, receiver_with, good, period}
use Rattle.witness.proofs.TwoItems as Two
use Rattle.witness.proofs.TwoItems.{order, content, initial_store}

abbrev five : Marks
five = marks_of (Some 5)

-- ---- marks at the receiver alone: item 0's letter is that of the item after, and brings the sequence alarm

abbrev pub w₀ : World
w₀ = opened (fresh_sender 240 480 no_marks) (fresh_receiver 240 five) initial_store

abbrev synchronised : Row
synchronised =
    period order initial_store initial_store true (sync_block 240) synchronising true true E.Sync
    (sender 480 1 0 true Older false) (receiver_with five 0 false 0 false P.InStep)

abbrev alarmed : Row
alarmed =
    period order initial_store initial_store false (Two.block 0) (item 0 false false false) false true E.SequenceAlarm
    (sender 480 1 0 true Newer false) (receiver_with five 0 true 0 false P.SequenceAlarm)

abbrev pub alarms : List Row
alarms = synchronised ∷ alarmed ∷ []

pub alarms_computed : trace w₀ alarms ≡ alarms
unfolding trace
alarms_computed = refl

-- all that is supposed of the calls is met, and no request is lost
pub alarms_meets : Assumptions 240 content (course w₀ (all_calls alarms)) × (some is_lost (course w₀ (all_calls alarms)) ≡ false)
unfolding trace
alarms_meets = (meets 240 content (course w₀ (all_calls alarms)) refl, refl)

-- the calls but the last
abbrev before : List Call
before = all_calls (synchronised ∷ []) ++ (sending order false (replicate 33 0) (Two.block 0) ∷ [])

-- so a guarantee fails: an alarm with no request lost before it
pub alarms_fails : Guarantees 240 480 content initial_store (course w₀ (all_calls alarms)) (final w₀ (all_calls alarms)) → ⊥
unfolding trace
alarms_fails g =
    false≢true
    (g.alarm (course w₀ before) [] (entry (final w₀ before) (receiving (bytes_of 33 (Two.block 0)) 260 true initial_store)) refl refl)

-- ---- marks at the sender alone: item 0's mark is rule 7's matter, and in this list the receiver is then back in search

abbrev block : ℕ → Bits
block i = item_bits five 240 480 content i

abbrev pub w₁ : World
w₁ = opened (fresh_sender 240 480 five) (fresh_receiver 240 no_marks) initial_store

-- three periods, and the first of the next three
abbrev pub circles : List Row
circles =
    period order initial_store initial_store true (sync_block 240) synchronising true true E.Sync
    (sender_with five 480 1 0 true Older false) (good 0 false)
    ∷ period order initial_store initial_store false (block 0) (item 0 false false false) false true (E.Bad 0)
    (sender_with five 480 1 0 true Newer false) (receiver 0 true 0 false P.Search)
    ∷ period order initial_store initial_store true (cancelled (block 1)) (item 1 false true true) true true E.None
    (sender_with five 480 1 1 true Sync false) (searching (receiver 0 true 0 false P.Search) (drop 245 (cancelled (block 1))))
    ∷ period order initial_store initial_store true (sync_block 240) synchronising true true E.Sync
    (sender_with five 480 1 1 true Older false) (good 0 false)
    ∷ []

pub circles_computed : trace w₁ circles ≡ circles
unfolding trace
circles_computed = refl

pub circles_meets : Assumptions 240 content (course w₁ (all_calls circles))
unfolding trace
circles_meets = meets 240 content (course w₁ (all_calls circles)) refl
