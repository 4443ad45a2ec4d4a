-- Why the machine is opened anew before each order: one that is not joins two orders, although all else is met.
-- Assumes nothing.
use mathlib.Core.Path.{◌≡◌, refl, ap, sym, ◌∙◌}
use mathlib.Core.Bool.{true, false}
use mathlib.Core.List.{List, [], ◌∷◌, ◌++◌}
use native.Mathlib.Omega.{arith}
use Prim.Native.Nat.{ℕ, ◌*◌, ◌≤◌}
use lib.ListN.{length, take, get_or, replicate}
use Rattle.std.proofs.Common.{None, Ok}
use Rattle.crc.specs.Bits.{Bits}
use Rattle.block.specs.Block.{sync_block}
use Rattle.line.specs.Marks.{marks_in_range}
use Rattle.line.specs.Order.{item_count, order_bits, item_bits}
use Rattle.line.specs.LoopTime.{is_speed, block_time, has_entry, longest_loop, loop_time}
use Rattle.line.specs.Sending.{synchronising, item, fresh_sender, open_sender, OpenSender}
use Rattle.line.specs.Receiving.{open_receiver, OpenReceiver}
use Rattle.line.specs.Course.{World, opened, course, final}
use Rattle.line.specs.Delivery.{some, is_lost, reports_end, Assumptions, Guarantees}
use Rattle.line.specs.declared.sender.Next.TheVariants.{Older, Newer}
use Rattle.line.specs.declared.receiver.Receiver.{Receiver}
use Rattle.line.specs.declared.receiver.Opened.{Opened}
use Rattle.line.specs.declared.receiving.Event.TheVariants as E
use Rattle.witness.proofs.Meets.{meets}
use Rattle.witness.proofs.PeriodRows.{Row, all_calls, trace, no_marks, sender, good, period}
use Rattle.witness.proofs.TwoItems as First
use Rattle.witness.proofs.TwoItems.{one, w₀, sixty, synchronised, accepted}

-- The first order's session breaks off behind item 0.
abbrev pub broken_off : List Row
broken_off = synchronised sixty ∷ accepted sixty ∷ []

pub broken_off_computed : trace w₀ broken_off ≡ broken_off
unfolding trace
broken_off_computed = refl

-- a second order of the same length
abbrev order : List ℕ
order = replicate 30 3 ++ replicate 30 4

abbrev content : Bits
content = order_bits 480 order

abbrev block : ℕ → Bits
block i = item_bits no_marks 240 480 content i

-- the first order's item 0 and the second order's item 1
abbrev joined : List ℕ
joined = replicate 30 1 ++ (replicate 30 4 ++ replicate 1 9)

-- the sender opened anew; the receiver and the store as the first order's session left them
abbrev pub w₁ : World
w₁ = let w = final w₀ (all_calls broken_off) in opened (fresh_sender 240 480 no_marks) w.receiver w.store

-- The second order's item 0 passes as previous, its item 1 is accepted, and its end is taken.
abbrev pub joins : List Row
joins =
    period order one one true (sync_block 240) synchronising false true E.Sync (sender 480 1 0 true Older false) (good 1 false)
    ∷ period order one one false (block 0) (item 0 false false false) false true E.Previous
    (sender 480 1 0 true Newer false) (good 1 false)
    ∷ period order one joined false (block 1) (item 1 false true false) false true E.Accepted
    (sender 480 2 0 false Newer false) (good 2 false)
    ∷ period order joined joined false (block 2) (item 2 true true false) false true (E.Ended 480)
    (sender 480 3 0 false Newer false) (good 2 true)
    ∷ []

pub joins_computed : trace w₁ joins ≡ joins
unfolding trace
joins_computed = refl

-- all that is supposed of the calls is met, and no request is lost
pub joins_meets : Assumptions 240 content (course w₁ (all_calls joins)) × (some is_lost (course w₁ (all_calls joins)) ≡ false)
unfolding trace
joins_meets = (meets 240 content (course w₁ (all_calls joins)) refl, refl)

-- of the openings too, at 200 bit/s with loop 0; but the receiver is not one just opened
pub joins_opened : OpenSender 240 200 0 480 None order (Ok w₁.sender) × (item_count 240 480 * 240 ≤ 8 * length w₁.store)
unfolding trace open_sender marks_in_range loop_time is_speed has_entry longest_loop block_time
joins_opened = (record { answers = refl }, omega arith)

pub joins_not_opened : (o : Opened) → OpenReceiver 240 None o → o.state ≡ w₁.receiver → ⊥
unfolding trace open_receiver marks_in_range
joins_not_opened o h e =
    let taken : ◌≡◌ {A = ℕ} 0 1 = ap (λ (r : Receiver). r.taken) (sym h.state ∙ e) in
    omega arith

-- the end is reported with the second order's length, and the store holds neither order
pub joins_ended : some (reports_end 480) (course w₁ (all_calls joins)) ≡ true
unfolding trace
joins_ended = refl

pub joins_stored : (final w₁ (all_calls joins)).store ≡ joined
unfolding trace
joins_stored = refl

pub joins_neither : (take 60 joined ≡ First.order → ⊥) × (take 60 joined ≡ order → ⊥)
joins_neither = (
  λ e. let byte : ◌≡◌ {A = ℕ} 4 2 = ap (λ (s : List ℕ). get_or s 30 0) e in omega arith,
  λ e. let byte : ◌≡◌ {A = ℕ} 1 3 = ap (λ (s : List ℕ). get_or s 0 0) e in omega arith,
)

-- so a guarantee fails: with the end reported, one item is accepted, and the order makes two
pub joins_fails : Guarantees 240 480 content w₁.store (course w₁ (all_calls joins)) (final w₁ (all_calls joins)) → ⊥
unfolding trace
joins_fails g = let items = (g.ended 480 refl).0 in omega arith
