-- Why an end block is not taken for the end without its length: a list of calls whose end block comes with the last item
-- missing. Rule 6 raises the length alarm; without the test that L makes r items it reports the end. Assumes nothing.
use mathlib.Core.Path.{◌≡◌, refl}
use mathlib.Core.Bool.{Bool, true, false, cond, ◌&&◌}
use mathlib.Core.List.{List, [], ◌∷◌, ◌++◌}
use native.Mathlib.Omega.{arith}
use lib.Dec.{eqb}
use lib.ListN.{take, drop, replicate}
use Rattle.crc.specs.Bits.{Bits, number, bytes_of}
use Rattle.block.specs.Answer.{done}
use Rattle.block.specs.Block.{payload_of}
use Rattle.line.specs.Order.{valid_length, version}
use Rattle.line.specs.Sending.{item}
use Rattle.line.specs.Receiving.{Rule, ends, wrong_length, ends_again, end_rule, Reception, stops, receive}
use Rattle.line.specs.Course.{Call, sending, World, Entry, course, final, receive_entry, receive_after}
use Rattle.line.specs.Delivery.{some, reports_end, Assumptions, Guarantees}
use Rattle.line.specs.declared.sender.Next.TheVariants.{Newer}
use Rattle.line.specs.declared.receiving.Event.TheVariants as E
use Rattle.line.specs.declared.receiving.Phase.TheVariants as P
use Rattle.witness.proofs.Meets.{meets}
use Rattle.witness.proofs.PeriodRows.{Row, all_calls, trace, sender, receiver, bad, period}
use Rattle.witness.proofs.TwoItems.{order, content, block, initial_store, one, w₀, sixty, synchronised, accepted, asks}

-- ---- rule 6

-- Item 1 is damaged and its request lost: the end block brings the length alarm.
abbrev pub alarms : List Row
alarms =
    synchronised sixty
    ∷ accepted sixty
    ∷ asks sixty
    ∷ period order one one false (block 2) (item 2 true true false) true true E.LengthAlarm
    (sender 480 3 0 false Newer false) (receiver 0 true 1 false P.LengthAlarm)
    ∷ []

pub alarms_computed : trace w₀ alarms ≡ alarms
unfolding trace
alarms_computed = refl

pub alarms_meets : Assumptions 240 content (course w₀ (all_calls alarms))
unfolding trace
alarms_meets = meets 240 content (course w₀ (all_calls alarms)) refl

-- ---- rule 6 without the test that L makes r items

abbrev pub any_length_rule : Bool → Bits → Rule
any_length_rule ended payload =
    let L = number (take 32 (drop 8 payload)) in
    cond ended ends_again (cond (eqb (number (take 8 payload)) version && valid_length L) (ends L) wrong_length)

-- the same calls but the last; none of them reads an end block
abbrev calls : List Call
calls = all_calls (synchronised sixty ∷ accepted sixty ∷ asks sixty ∷ []) ++ (sending order false (replicate 33 0) (block 2) ∷ [])

abbrev w : World
w = final w₀ calls

-- the last call, which lends the end block whole, with the rule that its data come to
abbrev reads : (Bits → Rule) → Reception
reads rule = stops (bad 1 1) (rule (payload_of 240 (block 2))) (block 2) 260

pub last_call : receive w.receiver (bytes_of 33 (block 2)) 260 true one ≡ done (reads (end_rule 240 1 false))
unfolding trace
last_call = refl

-- the course with the last call by the rule above
abbrev pub any_length : List Entry
any_length = course w₀ calls ++ (receive_entry w (block 2) one (done (reads (any_length_rule false))) ∷ [])

abbrev pub any_length_final : World
any_length_final = receive_after w one (done (reads (any_length_rule false)))

pub any_length_meets : Assumptions 240 content any_length
unfolding trace
any_length_meets = meets 240 content any_length refl

-- the end is reported with the order's length, and the store holds item 0 alone
pub any_length_ended : some (reports_end 480) any_length ≡ true
unfolding trace
any_length_ended = refl

pub any_length_stored : any_length_final.store ≡ one
unfolding trace
any_length_stored = refl

-- so a guarantee fails: with the end reported, one item is accepted, and the order makes two
pub any_length_fails : Guarantees 240 480 content initial_store any_length any_length_final → ⊥
unfolding trace
any_length_fails g = let items = (g.ended 480 refl).0 in omega arith
