-- Why both ends are opened with the same k: an office with the smaller one runs to its end on a clean line, while the machine
-- takes nothing and reports no alarm. All else is met, so that a finished sender alone is no delivery. Assumes nothing.
use mathlib.Core.Path.{◌≡◌, refl}
use mathlib.Core.Bool.{true, false, false≢true}
use mathlib.Core.List.{List, ◌++◌, map}
use native.Mathlib.Omega.{arith}
use Prim.Native.Nat.{ℕ, ◌*◌, ◌≤◌}
use lib.ListN.{length, replicate}
use Rattle.std.proofs.Common.{None, Ok}
use Rattle.block.specs.Lengths.{is_length}
use Rattle.block.specs.Block.{sync_block}
use Rattle.line.specs.Marks.{marks_in_range}
use Rattle.line.specs.Order.{item_count}
use Rattle.line.specs.LoopTime.{is_speed, block_time, has_entry, longest_loop, loop_time}
use Rattle.line.specs.Sending.{synchronising, item, fresh_sender, open_sender, OpenSender}
use Rattle.line.specs.Receiving.{fresh_receiver, open_receiver, OpenReceiver}
use Rattle.line.specs.Course.{Call, World, Entry, opened, course, final}
use Rattle.line.specs.Delivery.{Guarantees}
use Rattle.line.specs.declared.sender.Next.TheVariants.{Newer}
use Rattle.line.specs.declared.receiver.Opened.{Opened}
use Rattle.line.specs.declared.receiving.Event.TheVariants as E
use Rattle.witness.proofs.PeriodRows.{outcome, trace, no_marks, sender, period_calls, period_outcomes}
use Rattle.witness.proofs.TwoItems.{order, content, block}
use Rattle.witness.proofs.Busy.{Uneventful, without_events}

-- room for the order's items at either end's k
abbrev store : List ℕ
store = replicate 480 9

-- an office of k 240, and a machine of k 3,840, whose blocks have 3,860 bits
abbrev pub w₀ : World
w₀ = opened (fresh_sender 240 480 no_marks) (fresh_receiver 3840 no_marks) store

-- five periods: a synchronising block, the two data items, and the end block twice
abbrev pub unheard : List Call
unheard =
    period_calls true order store true (sync_block 240)
    ++ (period_calls true order store false (block 0)
    ++ (period_calls true order store false (block 1)
    ++ (period_calls true order store false (block 2) ++ period_calls true order store false (block 3))))

-- what the calls did, and the world behind them
abbrev entries : List Entry
entries = course w₀ unheard

abbrev behind : World
behind = final w₀ unheard

-- The synchronising block is found. The four items are 1,040 bits: the machine's block is not complete, the return bit stays 0,
-- and each item is confirmed.
pub unheard_told : map outcome entries
    ≡ period_outcomes true synchronising true true E.Sync
    ++ (period_outcomes false (item 0 false false false) false true E.None
    ++ (period_outcomes false (item 1 false true false) false true E.None
    ++ (period_outcomes false (item 2 true true false) false true E.None
    ++ period_outcomes false (item 3 true true false) false true E.None)))
unfolding trace
unheard_told = refl

-- all that is supposed of the calls is met, each reading is the return bit and each copy as sent; nothing is accepted, and
-- neither the end nor an alarm is reported
pub unheard_uneventful : Uneventful entries
unfolding trace
unheard_uneventful = without_events entries refl

-- and yet the sender is finished; the store is as it was first lent
pub unheard_finished : (behind.sender ≡ sender 480 3 0 false Newer true) × (behind.store ≡ store)
unfolding trace
unheard_finished = (refl, refl)

-- the openings, at 200 bit/s with loop 0: neither is refused, both are without marks, but each has its own k
abbrev machine : Opened
machine = record { state = fresh_receiver 3840 no_marks; answer = Ok tt }

pub unheard_opened : OpenSender 240 200 0 480 None order (Ok (fresh_sender 240 480 no_marks))
    × OpenReceiver 3840 None machine × (item_count 240 480 * 240 ≤ 8 * length store) × (item_count 3840 480 * 3840 ≤ 8 * length store)
unfolding open_sender loop_time is_speed has_entry longest_loop block_time open_receiver is_length marks_in_range item_count
unheard_opened = (record { answers = refl }, record { answers = refl; state = refl }, omega arith, omega arith)

-- so a guarantee fails: no request is lost and the sender is finished, but the end is not reported
pub unheard_fails : Guarantees 240 480 content store entries behind → ⊥
unfolding trace
unheard_fails g = false≢true (g.finished refl refl)
