-- Sessions with marks, of code size 5 at the sender and 8 at the receiver: one whole, with its openings, and one in which
-- item 0 comes again with one item taken. Assumes nothing.
use mathlib.Core.Path.{◌≡◌, refl}
use mathlib.Core.Bool.{Bool, true, false}
use mathlib.Core.List.{List, [], ◌∷◌, ◌++◌}
use native.Mathlib.Omega.{arith}
use Prim.Native.Nat.{ℕ}
use Rattle.std.proofs.Common.{Ok, Some}
use Rattle.crc.specs.Bits.{Bits}
use Rattle.block.specs.Lengths.{is_length}
use Rattle.block.specs.Block.{sync_block, cancelled}
use Rattle.line.specs.Marks.{marks_of, is_code_size, marks_in_range}
use Rattle.line.specs.Order.{item_count, item_bits}
use Rattle.line.specs.LoopTime.{is_speed, block_time, has_entry, longest_loop, loop_time}
use Rattle.line.specs.Sending.{synchronising, item, fresh_sender, open_sender}
use Rattle.line.specs.Receiving.{fresh_receiver, open_receiver}
use Rattle.line.specs.Course.{World, opened, course, final}
use Rattle.line.specs.Delivery.{Assumptions, Openings, Delivered, Delivery}
use Rattle.line.specs.declared.marks.Marks.{Marks}
use Rattle.line.specs.declared.sender.Sender.{Sender}
use Rattle.line.specs.declared.sender.Next.{Next}
use Rattle.line.specs.declared.sender.Next.TheVariants.{Sync, Older, Newer}
use Rattle.line.specs.declared.receiver.Receiver.{Receiver}
use Rattle.line.specs.declared.receiver.Opened.{Opened}
use Rattle.line.specs.declared.receiving.Event.TheVariants as E
use Rattle.line.specs.declared.receiving.Phase.TheVariants as P
use Rattle.line.proofs.Delivery.Answers.{runs}
use Rattle.line.proofs.Delivery.Theorem.{delivery}
use Rattle.witness.proofs.Meets.{meets}
use Rattle.witness.proofs.PeriodRows.{Row, all_calls, trace, sender_with, receiver_with, period, cancelled_remainder}
use Rattle.witness.proofs.TwoItems.{order, content, initial_store, one, two}

abbrev five : Marks
five = marks_of (Some 5)

abbrev eight : Marks
eight = marks_of (Some 8)

abbrev block : ℕ → Bits
block i = item_bits five 240 480 content i

abbrev sender : (newer run : ℕ) → Bool → Next → Bool → Sender
sender = sender_with five 480

abbrev good : (taken : ℕ) → Bool → Receiver
good taken ended = receiver_with eight 0 false taken ended P.InStep

abbrev pub w₀ : World
w₀ = opened (fresh_sender 240 480 five) (fresh_receiver 240 eight) initial_store

-- a synchronising block and item 0; item 1; both end blocks
abbrev begins : List Row
begins =
    period order initial_store initial_store true (sync_block 240) synchronising true true E.Sync (sender 1 0 true Older false) (good 0 false)
    ∷ period order initial_store one false (block 0) (item 0 false false false) false true E.Accepted
    (sender 1 0 true Newer false) (good 1 false)
    ∷ []

abbrev goes_on : List Row
goes_on =
    period order one two false (block 1) (item 1 false true false) false true E.Accepted (sender 2 0 false Newer false) (good 2 false)
    ∷ period order two two false (block 2) (item 2 true true false) false true (E.Ended 480) (sender 3 0 false Newer false) (good 2 true)
    ∷ period order two two false (block 3) (item 3 true true false) false true E.Previous (sender 3 0 false Newer true) (good 2 true)
    ∷ []

-- ---- the whole session

abbrev pub whole : List Row
whole = begins ++ goes_on

pub whole_computed : trace w₀ whole ≡ whole
unfolding trace
whole_computed = refl

pub whole_meets : Assumptions 240 content (course w₀ (all_calls whole))
unfolding trace
whole_meets = meets 240 content (course w₀ (all_calls whole)) refl

pub whole_stored : (final w₀ (all_calls whole)).store ≡ two
unfolding trace
whole_stored = refl

-- both ends opened with marks, at 200 bit/s with loop 0, and what demand 3 says of the calls as they run
abbrev machine : Opened
machine = record { state = fresh_receiver 240 eight; answer = Ok tt }

pub whole-opened : Openings 240 200 0 480 (Some 5) (Some 8) order (fresh_sender 240 480 five) machine initial_store
unfolding open_sender loop_time is_speed has_entry longest_loop block_time open_receiver is_length marks_in_range is_code_size item_count
whole-opened =
    record {
      sender = record { answers = refl };
      receiver = record { answers = refl; state = refl };
      alike = refl;
      not_refused = refl;
      room = omega arith;
    }

pub whole_delivered :
    Delivered 240 480 content initial_store (runs (fresh_sender 240 480 five) (fresh_receiver 240 eight) (all_calls whole))
unfolding Delivery
whole_delivered =
    delivery 240 200 0 480 (Some 5) (Some 8) order (fresh_sender 240 480 five) machine initial_store whole-opened
    (all_calls whole) (runs (fresh_sender 240 480 five) (fresh_receiver 240 eight) (all_calls whole))

-- ---- the reading of item 1 is turned over: item 1 is cancelled, and item 0, with its mark, is the previous item

abbrev pub again : List Row
again =
    begins
    ++ (period order one one true (cancelled (block 1)) (item 1 false true true) false true (E.Bad cancelled_remainder)
    (sender 1 1 true Sync false) (receiver_with eight 1 true 1 false P.InStep)
    ∷ period order one one true (sync_block 240) synchronising true true E.Sync (sender 1 1 true Older false) (good 1 false)
    ∷ period order one one false (block 0) (item 0 false false false) false true E.Previous (sender 1 1 true Newer false) (good 1 false)
    ∷ goes_on)

pub again_computed : trace w₀ again ≡ again
unfolding trace
again_computed = refl

pub again_meets : Assumptions 240 content (course w₀ (all_calls again))
unfolding trace
again_meets = meets 240 content (course w₀ (all_calls again)) refl
