-- The run program's example in docs/PROTOCOL.md: k 240, L 8, the order a5; four undisturbed periods, and one call more. Assumes nothing.
use mathlib.Core.Path.{◌≡◌, refl}
use mathlib.Core.Bool.{true, false}
use mathlib.Core.List.{List, [], ◌∷◌, ◌++◌}
use native.Mathlib.Omega.{arith}
use Prim.Native.Nat.{ℕ}
use lib.ListN.{replicate}
use Rattle.std.proofs.Common.{None, Ok}
use Rattle.crc.specs.Bits.{Bits}
use Rattle.line.specs.Refusals as Refusals
use Rattle.block.specs.Lengths.{is_length}
use Rattle.block.specs.Block.{sync_block}
use Rattle.line.specs.Marks.{marks_in_range}
use Rattle.line.specs.Order.{item_count, order_bits, item_bits}
use Rattle.line.specs.LoopTime.{is_speed, block_time, has_entry, longest_loop, loop_time}
use Rattle.line.specs.Sending.{synchronising, item, fresh_sender, open_sender}
use Rattle.line.specs.Receiving.{fresh_receiver, open_receiver}
use Rattle.line.specs.Course.{sending, World, opened, course, final}
use Rattle.line.specs.Delivery.{Assumptions, Openings, Delivered, Delivery}
use Rattle.line.specs.declared.sender.Next.TheVariants.{Older, Newer}
use Rattle.line.specs.declared.receiving.Event.TheVariants as E
use Rattle.line.specs.declared.receiver.Opened.{Opened}
use Rattle.line.proofs.Delivery.Answers.{runs}
use Rattle.line.proofs.Delivery.Theorem.{delivery}
use Rattle.witness.proofs.Meets.{meets}
use Rattle.witness.proofs.PeriodRows.{refuses, Row, all_calls, trace, no_marks, sender, good, between, period}

abbrev order : List ℕ
order = 0xa5 ∷ []

abbrev content : Bits
content = order_bits 8 order

abbrev block : ℕ → Bits
block i = item_bits no_marks 240 8 content i

-- the store as first lent, and with item 0 in it
abbrev initial_store : List ℕ
initial_store = replicate 31 7

abbrev stored : List ℕ
stored = 0xa5 ∷ (replicate 29 0 ++ (7 ∷ []))

abbrev pub w₀ : World
w₀ = opened (fresh_sender 240 8 no_marks) (fresh_receiver 240 no_marks) initial_store

abbrev rows : List Row
rows =
    period order initial_store initial_store true (sync_block 240) synchronising true true E.Sync (sender 8 1 0 true Older false) (good 0 false)
    ∷ period order initial_store stored false (block 0) (item 0 false false false) false true E.Accepted
    (sender 8 1 0 true Newer false) (good 1 false)
    ∷ period order stored stored false (block 1) (item 1 true true false) false true (E.Ended 8)
    (sender 8 2 0 false Newer false) (good 1 true)
    ∷ period order stored stored false (block 2) (item 2 true true false) false true E.Previous
    (sender 8 2 0 false Newer true) (good 1 true)
    ∷ (record {
      calls = sending order false (replicate 33 0) [] ∷ [];
      outcomes = refuses Refusals.rest ∷ [];
      world = between (sender 8 2 0 false Newer true) (good 1 true) stored (item 2 true true false);
    })
    ∷ []

pub example_computed : trace w₀ rows ≡ rows
unfolding trace
example_computed = refl

pub example : Assumptions 240 content (course w₀ (all_calls rows))
unfolding trace
example = meets 240 content (course w₀ (all_calls rows)) refl

-- at the end the store has the order with its zero filling, and behind it what it had
pub example_stored : (final w₀ (all_calls rows)).store ≡ stored
unfolding trace
example_stored = refl

-- both ends opened at 200 bit/s with loop 0, and what demand 3 says of the calls as they run
abbrev machine : Opened
machine = record { state = fresh_receiver 240 no_marks; answer = Ok tt }

pub example_opened : Openings 240 200 0 8 None None order (fresh_sender 240 8 no_marks) machine initial_store
unfolding open_sender loop_time is_speed has_entry longest_loop block_time open_receiver is_length marks_in_range item_count
example_opened =
    record {
      sender = record { answers = refl };
      receiver = record { answers = refl; state = refl };
      alike = refl;
      not_refused = refl;
      room = omega arith;
    }

pub example_delivered : Delivered 240 8 content initial_store (runs (fresh_sender 240 8 no_marks) (fresh_receiver 240 no_marks) (all_calls rows))
unfolding Delivery
example_delivered =
    delivery 240 200 0 8 None None order (fresh_sender 240 8 no_marks) machine initial_store example_opened (all_calls rows)
    (runs (fresh_sender 240 8 no_marks) (fresh_receiver 240 no_marks) (all_calls rows))
