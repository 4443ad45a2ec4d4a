-- Corner cases of the receiving end, each tried by computing it at k 240, with the machine ready and not ready. Assumes nothing.
use mathlib.Core.Path.{◌≡◌, refl}
use mathlib.Core.Bool.{Bool, true, false, cond}
use mathlib.Core.List.{List, [], ◌∷◌, ◌++◌, map}
use native.Mathlib.Omega.{arith}
use Prim.Native.Nat.{ℕ, ◌+◌, ◌-◌}
use lib.ListN.{length, take, drop, replicate}
use Rattle.crc.specs.Bits.{Bits, binary, bytes_of, zeros}
use Rattle.block.specs.Answer as A
use Rattle.block.specs.Answer.{Answer, refused, done}
use Rattle.block.specs.Block.{block_bits, sync_block, sync_sequence}
use Rattle.line.specs.Order.{longest_order, most_items, letter_a, letter_b, letter_c, letter, end_payload, end_service}
use Rattle.line.specs.Receiving.{Rule, sequence_found, reads_sync, check_fails, accepts, previous, out_of_sequence, ends, wrong_length, ends_again, anything_else, waits, unfinished, standing, Reception, idle, searching, receive}
use Rattle.line.specs.declared.receiver.Receiver.{Receiver}
use Rattle.line.specs.declared.receiving.Phase.TheVariants as P
use Rattle.line.specs.declared.receiving.Event.TheVariants as E
use Rattle.line.proofs.Delivery.WrittenBits.{length-zero_array}
use Rattle.line.proofs.Delivery.BitByBit.{bit_by_bit, Missing, bit_by_bit_lem}
use Rattle.witness.proofs.PeriodRows.{received, receiver, good, bad, waited, damaged, damaged_remainder, damaged_sync_remainder, zero_block}

abbrev end_block : ℕ → Bits
end_block L = block_bits (binary 4 end_service) (end_payload 240 L)

-- ---- what a call comes to

-- a call, by whether the machine is ready, and what it then comes to
pub record Case : Type 0 where
  pub call : Bool → Answer Reception
  pub answer : Bool → Answer Reception

abbrev calls : Receiver → List ℕ → ℕ → List ℕ → Bool → Answer Reception
calls s line count store ready = receive s line count ready store

-- ready or not, the same
abbrev gives : (Bool → Answer Reception) → Answer Reception → Case
gives call answer = record { call = call; answer = λ ready. answer }

-- at ready, this; and otherwise that
abbrev depends : (Bool → Answer Reception) → Answer Reception → Answer Reception → Case
depends call this that = record { call = call; answer = λ ready. cond ready this that }

-- a block lent whole in one call, with a store for the first item
abbrev lends : Receiver → Bits → Bool → Answer Reception
lends s row = calls s (bytes_of 33 row) 260 (replicate 30 0)

-- ... is read by this rule, with this state afterwards
abbrev whole : Bits → Rule → Receiver → Answer Reception
whole row rule after = done (record { rule = rule; row = row; used = 260; state = after })

abbrev reads : Receiver → Bits → Rule → Receiver → Case
reads s row rule after = gives (lends s row) (whole row rule after)

-- ... or waits, where the machine is not ready
abbrev takes : Receiver → Bits → Rule → Receiver → Case
takes s row rule after = depends (lends s row) (whole row rule after) (whole row waits (waited s.taken))

-- bits lent in search, with the sequence found at the last of them
abbrev finds : Receiver → Bits → ℕ → Receiver → Case
finds s row used after =
    gives (calls s (bytes_of 33 row) (length row) []) (done (record { rule = sequence_found; row = []; used = used; state = after }))

-- ... or with none found, and this window held
abbrev finds_none : Receiver → Bits → Bits → Case
finds_none s row window =
    gives (calls s (bytes_of 33 row) (length row) [])
    (done (record { rule = unfinished; row = []; used = length row; state = searching s window }))

abbrev pub cases : List Case
cases =
    -- 0 bits: nothing changed, and a standing alarm is reported
    gives (calls (receiver 3 false 2 false P.Search) [] 0 []) (done (idle (receiver 3 false 2 false P.Search)))
    ∷ gives (calls (bad 3 2) [] 0 []) (done (idle (bad 3 2)))
    ∷ gives (calls (receiver 3 false 2 false P.SequenceAlarm) [] 0 [])
    (done (record { rule = standing E.SequenceAlarm; row = []; used = 0; state = receiver 3 false 2 false P.SequenceAlarm }))
    -- a standing alarm takes all bits, sets the return bit and clears the bad row
    ∷ gives (calls (receiver 3 false 2 false P.LengthAlarm) (0 ∷ []) 5 [])
    (done (record { rule = standing E.LengthAlarm; row = []; used = 5; state = receiver 0 true 2 false P.LengthAlarm }))
    -- a short line slice under a standing alarm
    ∷ gives (calls (receiver 0 true 2 false P.SequenceAlarm) (0 ∷ []) 9 []) (refused A.short)
    -- a search call of more than 16 bits; the bits behind the sequence are not used
    ∷ finds (receiver 5 true 2 false P.Search) (zeros 8 ++ (sync_sequence ++ zeros 4)) 24 (good 2 false)
    -- 15 bits held, then one: the window slides on
    ∷ finds (searching (receiver 0 true 0 false P.Search) (take 15 sync_sequence)) (drop 15 sync_sequence) 1 (good 0 false)
    ∷ finds_none (searching (receiver 0 true 0 false P.Search) (zeros 15)) (true ∷ []) (zeros 14 ++ (true ∷ []))
    -- the sequence's first bits were received before the search began
    ∷ finds_none (receiver 0 true 0 false P.Search) (drop 1 sync_sequence) (drop 1 sync_sequence)
    -- a search that begins in mid-list passes whole blocks, keeps r, and then rule 4 holds
    ∷ finds_none (receiver 0 true 2 false P.Search) (zero_block letter_b) (drop 245 (zero_block letter_b))
    ∷ finds (searching (receiver 0 true 2 false P.Search) (drop 245 (zero_block letter_b))) (sync_block 240) 260 (good 2 false)
    ∷ reads (good 2 false) (zero_block letter_b) previous (good 2 false)
    -- the eighth bad is a synchronising block: a search begins behind it, and does not see its sequence
    ∷ reads (bad 7 2) (damaged (sync_block 240)) (check_fails damaged_sync_remainder) (receiver 0 true 2 false P.Search)
    ∷ reads (bad 6 2) (damaged (sync_block 240)) (check_fails damaged_sync_remainder) (bad 7 2)
    ∷ reads (bad 7 2) (sync_block 240) reads_sync (good 2 false)
    -- rule 7 goes back to search with r at 0, where the letter C is of no item; rule 2 does not
    ∷ reads (bad 2 0) (zero_block 0b1111) anything_else (receiver 0 true 0 false P.Search)
    ∷ reads (good 0 false) (zero_block letter_c) anything_else (receiver 0 true 0 false P.Search)
    ∷ reads (bad 2 1) (zero_block 0b1111) anything_else (bad 3 1)
    ∷ reads (bad 7 1) (zero_block 0b1111) anything_else (receiver 0 true 1 false P.Search)
    ∷ reads (bad 2 0) (damaged (zero_block letter_a)) (check_fails damaged_remainder) (bad 3 0)
    ∷ reads (good 0 false) (zero_block letter_b) out_of_sequence (receiver 0 true 0 false P.SequenceAlarm)
    ∷ reads (good 0 false) (end_block 240) wrong_length (receiver 0 true 0 false P.LengthAlarm)
    -- r at the most items: no further item; the letters of the item before and of the one behind as ever
    ∷ reads (good most_items false) (zero_block (letter most_items)) anything_else (bad 1 most_items)
    ∷ reads (good most_items false) (zero_block (letter (most_items - 1))) previous (good most_items false)
    ∷ reads (good most_items false) (zero_block (letter (most_items + 1))) out_of_sequence (receiver 0 true most_items false P.SequenceAlarm)
    ∷ takes (good most_items false) (end_block longest_order) (ends longest_order) (good most_items true)
    -- an end block: its L makes r items or another number; its version and L are within range or not
    ∷ takes (good 2 false) (end_block 241) (ends 241) (good 2 true)
    ∷ reads (good 2 false) (end_block 240) wrong_length (receiver 0 true 2 false P.LengthAlarm)
    ∷ reads (good most_items false) (end_block (longest_order + 1)) wrong_length (receiver 0 true most_items false P.LengthAlarm)
    ∷ reads (good 1 false) (zero_block end_service) wrong_length (receiver 0 true 1 false P.LengthAlarm)
    -- after the end: an end block again, and any letter
    ∷ reads (good 2 true) (end_block 240) ends_again (good 2 true)
    ∷ reads (good 2 true) (zero_block letter_c) out_of_sequence (receiver 0 true 2 true P.SequenceAlarm)
    ∷ reads (good 2 true) (zero_block letter_b) out_of_sequence (receiver 0 true 2 true P.SequenceAlarm)
    -- a wait clears the bad row
    ∷ takes (bad 7 0) (zero_block letter_a) accepts (good 1 false)
    -- the store is judged only where a block would be accepted and does not wait, and then none of the bits is used
    ∷ depends (calls (good 0 false) (bytes_of 33 (zero_block letter_a)) 260 (replicate 29 0)) (refused A.short)
    (whole (zero_block letter_a) waits (waited 0))
    ∷ takes (good 0 false) (zero_block letter_a) accepts (good 1 false)
    ∷ gives (calls (good 1 false) (bytes_of 33 (zero_block letter_a)) 260 []) (whole (zero_block letter_a) previous (good 1 false))
    ∷ []

pub corners : map (λ c. c.call true) cases ≡ map (λ c. c.answer true) cases
unfolding received
corners = refl

pub busy_corners : map (λ c. c.call false) cases ≡ map (λ c. c.answer false) cases
unfolding received
busy_corners = refl

-- a block split into calls of one bit is read as in one call
abbrev tail : Bits
tail = drop 1 (zero_block letter_a)

all_missing : Missing (bad 2 0) (length (false ∷ tail))
unfolding received
all_missing =
    record {
      known = refl;
      marks = refl;
      bad_row = omega arith;
      taken = omega arith;
      phase = refl;
      array = length-zero_array;
      held = refl;
    }

abbrev last_bit : Rule → Receiver → Answer Reception
last_bit rule after = done (record { rule = rule; row = zero_block letter_a; used = 1; state = after })

pub one_bit_calls : (ready : Bool) → bit_by_bit (bad 2 0) ready (replicate 30 0) (false ∷ tail) (refused 0)
    ≡ cond ready (last_bit accepts (good 1 false)) (last_bit waits (waited 0))
unfolding received
one_bit_calls true = bit_by_bit_lem (bad 2 0) true (replicate 30 0) false tail (refused 0) all_missing
one_bit_calls false = bit_by_bit_lem (bad 2 0) false (replicate 30 0) false tail (refused 0) all_missing
