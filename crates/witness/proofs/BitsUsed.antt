-- How many bits calls use, computed at k 240, with all that `BitsUsed` supposes. Assumes nothing.
use mathlib.Core.Path.{refl}
use mathlib.Core.Bool.{true, false}
use mathlib.Core.List.{List, [], ◌∷◌}
use Prim.Native.Nat.{ℕ}
use lib.ListN.{take, drop, replicate}
use Rattle.crc.specs.Bits.{bytes_of}
use Rattle.block.specs.Block.{sync_sequence}
use Rattle.line.specs.Order.{letter_a}
use Rattle.line.specs.Receiving.{unfinished, standing, sequence_found, accepts, idle, holding}
use Rattle.line.specs.BitsUsed.{Uses, LentAgain, no_call, call}
use Rattle.line.specs.declared.receiver.Receiver.{Receiver}
use Rattle.line.specs.declared.receiving.Phase.TheVariants as P
use Rattle.line.specs.declared.receiving.Event.TheVariants as E
use Rattle.line.proofs.BitsUsed.{bits_used}
use Rattle.witness.proofs.PeriodRows.{received, receiver, good, zero_block}

-- ---- one call

-- in search: of 24 bits those up to the sequence's end
pub search_uses : Uses P.Search 24 16
unfolding received
search_uses =
    bits_used.uses (receiver 0 true 0 false P.Search) (bytes_of 3 sync_sequence) 24 true []
    (record { rule = sequence_found; row = []; used = 16; state = good 0 false }) refl

-- under a standing alarm: all
pub alarm_uses : Uses P.LengthAlarm 5 5
unfolding received
alarm_uses =
    bits_used.uses (receiver 3 false 2 false P.LengthAlarm) (0 ∷ []) 5 true []
    (record { rule = standing E.LengthAlarm; row = []; used = 5; state = receiver 0 true 2 false P.LengthAlarm }) refl

-- 0 bits: none
pub none_used : Uses P.InStep 0 0
unfolding received
none_used = bits_used.uses (good 0 false) [] 0 true [] (idle (good 0 false)) refl

-- ---- calls lent again what was left: of two bits the first completes a block, and the other is used by the second call

-- the block's last bit is missing, and a zero bit comes behind it
abbrev nearly : Receiver
nearly = holding (good 0 false) (take 259 (zero_block letter_a))

abbrev last : List ℕ
last = bytes_of 1 (drop 259 (zero_block letter_a))

abbrev store : List ℕ
store = replicate 30 255

pub one_call : LentAgain nearly 2 1 1
unfolding received
one_call = call last true store (record { rule = accepts; row = zero_block letter_a; used = 1; state = good 1 false }) refl no_call

pub two_calls : LentAgain nearly 2 2 0
unfolding received
two_calls =
    call last true store (record { rule = accepts; row = zero_block letter_a; used = 1; state = good 1 false }) refl
    (call (0 ∷ []) true (replicate 30 0) (record { rule = unfinished; row = []; used = 1; state = holding (good 1 false) (false ∷ []) }) refl no_call)
