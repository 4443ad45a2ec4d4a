-- The remainder that a bad event reports, each case computed at k 240: 1 of a cancelled block, 0 by rule 7. The converse does not
-- hold: a block that was not cancelled can show 1 as well. Assumes nothing.
use mathlib.Core.Path.{◌≡◌, refl, ap}
use mathlib.Core.Bool.{Bool, true, false, false≢true}
use mathlib.Core.List.{List, [], ◌∷◌, ◌++◌, map}
use mathlib.Core.Logic.{◌↔◌}
use Prim.Native.Nat.{ℕ, ◌^◌}
use lib.Dec.{lit≤}
use lib.ListN.{length, take, drop, get_or, replicate}
use Rattle.std.proofs.Common.{Some}
use Rattle.crc.specs.Bits.{Bits, number, bytes_of, zeros, xor_bits}
use Rattle.crc.specs.Polynomial.{polynomial, Remainder}
use Rattle.crc.specs.Check.{remainder}
use Rattle.crc.specs.Damage.{Damage, burst}
use Rattle.crc.proofs.Division.{remainder_is}
use Rattle.block.specs.Answer.{Answer, done}
use Rattle.block.specs.Block.{sync_block, cancelled}
use Rattle.line.specs.Marks.{marks_of, mark5}
use Rattle.line.specs.Order.{letter_c}
use Rattle.line.specs.Sending.{Block, item, send, sent_bits, send_bytes}
use Rattle.line.specs.Receiving.{Rule, check_fails, anything_else, Reception, stops, holding, receive, Report, reported}
use Rattle.line.specs.BadRemainder.{ReadsInStep}
use Rattle.line.specs.Course.{World}
use Rattle.line.specs.declared.receiver.Receiver.{Receiver}
use Rattle.line.specs.declared.receiving.Event.{Event}
use Rattle.line.specs.declared.receiving.Event.TheVariants as E
use Rattle.line.specs.declared.receiving.Phase.TheVariants as P
use Rattle.line.proofs.BadRemainder.{bad_remainder}
use Rattle.witness.proofs.PeriodRows.{trace, no_marks, receiver_with, good, damaged, cancelled_remainder, damaged_remainder, damaged_sync_remainder, zero_block}
use Rattle.witness.proofs.TwoItems.{order, content, block, sixty, accepted}

-- of 260 bits the first is the coefficient of x^259
pub first_inverted : Remainder (2 ^ 259) damaged_remainder
unfolding number remainder
first_inverted = remainder_is (true ∷ zeros 259)

-- ---- what a call reports that completes a block

-- the state before the call, the bits that it lends, and the event at the last of them
pub record Case : Type 0 where
  pub state : Receiver
  pub lent : Bits
  pub event : Event

abbrev reports : Receiver → Bits → Event → Case
reports s lent event = record { state = s; lent = lent; event = event }

-- by whether the machine is ready
abbrev pub told : Bool → Case → Answer Report
told ready c = reported (receive c.state (bytes_of 33 c.lent) (length c.lent) ready [])

abbrev pub expected : Case → Answer Report
expected c = done (record { event = c.event; used = length c.lent })

-- item 1, not cancelled, with the bits at the powers 16, 12 and 5 inverted: they lie within twelve adjacent places
abbrev places : Bits
places = true ∷ false ∷ false ∷ false ∷ true ∷ false ∷ false ∷ false ∷ false ∷ false ∷ false ∷ true ∷ []

abbrev pub like_cancelled : Bits
like_cancelled = xor_bits (block 1) (zeros 243 ++ (places ++ zeros 5))

abbrev pub cases : List Case
cases =
    -- a cancelled data block, also where its last bit comes alone, a cancelled end block, and a cancelled item 0 with a mark
    reports (good 1 false) (cancelled (block 1)) (E.Bad cancelled_remainder)
    ∷ reports (holding (good 1 false) (take 259 (cancelled (block 1)))) (drop 259 (cancelled (block 1))) (E.Bad cancelled_remainder)
    ∷ reports (good 2 false) (cancelled (block 2)) (E.Bad cancelled_remainder)
    ∷ reports (receiver_with (marks_of (Some 8)) 0 false 0 false P.InStep) (cancelled (zero_block mark5)) (E.Bad cancelled_remainder)
    -- rule 7: service bits of no item, and with r at 0 the letter C
    ∷ reports (good 1 false) (zero_block 0b1111) (E.Bad 0)
    ∷ reports (good 0 false) (zero_block letter_c) (E.Bad 0)
    -- rule 1 comes first: a synchronising block damaged in its middle is sync; damaged in its service bits it is bad
    ∷ reports (good 1 false) (xor_bits (sync_block 240) (zeros 100 ++ (true ∷ zeros 159))) E.Sync
    ∷ reports (good 1 false) (damaged (sync_block 240)) (E.Bad damaged_sync_remainder)
    -- 1 without a cancel
    ∷ reports (good 1 false) like_cancelled (E.Bad cancelled_remainder)
    ∷ []

pub remainders : map (told true) cases ≡ map expected cases
unfolding trace
remainders = refl

pub busy_remainders : map (told false) cases ≡ map expected cases
unfolding trace
busy_remainders = refl

-- ---- the converse does not hold: demand 3 admits the damage, and what arrives is not item 1 cancelled

pub admitted : Damage (xor_bits like_cancelled (block 1))
unfolding trace
admitted = burst 243 places 5 (lit≤ tt)

pub not-cancelled : like_cancelled ≡ cancelled (block 1) → ⊥
unfolding trace
not-cancelled e = false≢true (ap (λ (r : Bits). get_or r 259 false) e)

-- ---- what `BadRemainder` supposes is met

-- a block lent whole with one item taken, and read by this rule
abbrev reads : Bits → Rule → Reception
reads row rule = stops (good 1 false) rule row 260

-- a damaged block, and a block that fails by rule 7
pub of_row : Remainder (polynomial (damaged (block 1))) damaged_remainder
unfolding trace
of_row =
    bad_remainder.of_row (good 1 false) (bytes_of 33 (damaged (block 1))) 260 true []
    (reads (damaged (block 1)) (check_fails damaged_remainder)) damaged_remainder refl refl

pub by_rule_7 : (◌≡◌ {A = ℕ} 0 0) ↔ (anything_else ≡ anything_else)
unfolding trace
by_rule_7 =
    bad_remainder.zero (good 1 false) (bytes_of 33 (zero_block 0b1111)) 260 true []
    (reads (zero_block 0b1111) anything_else) 0 refl refl

-- behind item 0, a sending call on reading 1 cancels item 1, and a receiving call is lent the bytes that it wrote
abbrev w : World
w = (accepted sixty).world

abbrev sent : Block
sent = item 1 false true true

pub cancels : send w.sender order true (replicate 33 0) ≡ done sent
unfolding trace
cancels = refl

abbrev line : List ℕ
line = send_bytes w.sender order (replicate 33 0) (done sent)

pub read_in_step : ReadsInStep w.receiver line 260 (sent_bits no_marks 240 480 content sent)
unfolding trace
read_in_step = record { range = refl; in_step = refl; lent = refl; complete = lit≤ tt; bits = refl }

pub cancelled-block : (ready : Bool)
    → reported (receive w.receiver line 260 ready w.store) ≡ done (record { event = E.Bad cancelled_remainder; used = 260 })
unfolding trace
cancelled-block ready = bad_remainder.cancelled w.receiver line 260 ready w.store no_marks 480 content 1 false true read_in_step
