-- A bad event comes of a block that was read in step. The number that it carries is the remainder of that block, 0 exactly where
-- rule 7 spoke. A block that was cancelled, is otherwise unharmed and is read in step shows 1; nothing is said of the converse.
-- Assumes nothing.
use Rattle.std.specs.Prelude.{◌≡◌, Bool, true, false, List, ◌↔◌, ℕ, ◌≤◌, take}
use Rattle.crc.specs.Bits.{Bits, bits_of}
use Rattle.crc.specs.Polynomial.{polynomial, Remainder}
use Rattle.block.specs.Answer.{done}
use Rattle.block.specs.Calls.{too_short}
use Rattle.line.specs.Sending.{item, sent_bits}
use Rattle.line.specs.Receiving.{anything_else, meaning, missing, finished_row, Reception, receiver_in_range, receive, reported}
use Rattle.line.specs.declared.marks.Marks.{Marks}
use Rattle.line.specs.declared.receiver.Receiver.{Receiver}
use Rattle.line.specs.declared.receiving.Event.TheVariants as E
use Rattle.line.specs.declared.receiving.Phase.TheVariants as P

-- a call that reads a block in step to its last bit: these n bits
pub record ReadsInStep (s : Receiver) (line : List ℕ) (count : ℕ) (row : Bits) : Type 0 where
  pub range : receiver_in_range s ≡ true
  pub in_step : s.phase ≡ P.InStep
  pub lent : too_short line count ≡ false
  pub complete : missing s ≤ count
  pub bits : finished_row s (take count (bits_of line)) ≡ row

pub record BadRemainder : Type 0 where
  -- the row of a call that reports a bad block is the n bits of a block that it read in step to its last bit
  pub read_in_step : (s : Receiver) (line : List ℕ) (count : ℕ) (ready : Bool) (store : List ℕ) (x : Reception) (n : ℕ)
      → receive s line count ready store ≡ done x → (meaning x.rule).event ≡ E.Bad n → ReadsInStep s line count x.row
  -- the number is the remainder of that row's polynomial
  pub of_row : (s : Receiver) (line : List ℕ) (count : ℕ) (ready : Bool) (store : List ℕ) (x : Reception) (n : ℕ)
      → receive s line count ready store ≡ done x → (meaning x.rule).event ≡ E.Bad n → Remainder (polynomial x.row) n
  -- it is 0 exactly where rule 7 spoke
  pub zero : (s : Receiver) (line : List ℕ) (count : ℕ) (ready : Bool) (store : List ℕ) (x : Reception) (n : ℕ)
      → receive s line count ready store ≡ done x → (meaning x.rule).event ≡ E.Bad n → (n ≡ 0) ↔ (x.rule ≡ anything_else)
  -- a block that was sent cancelled and is read as it was sent shows 1, whatever k, ready or not
  pub cancelled : (s : Receiver) (line : List ℕ) (count : ℕ) (ready : Bool) (store : List ℕ) (m : Marks) (L : ℕ) (content : Bits)
      (i : ℕ) (end used : Bool) → ReadsInStep s line count (sent_bits m s.setup.k L content (item i end used true))
      → reported (receive s line count ready store) ≡ done (record { event = E.Bad 1; used = missing s })
