-- The examples of docs/PROTOCOL.md that are proved, as one table, and the test that a row passes: over the definitions that
-- the promises cite. Assumes nothing.
use Rattle.std.specs.Prelude.{Bool, true, false, ◌&&◌, List, [], ◌∷◌, ℕ, eqb}
use Rattle.crc.specs.Bits.{binary}
use Rattle.crc.specs.Check.{check}
use Rattle.line.specs.Refusals as Refusals
use Rattle.block.specs.Answer.{Answer, refused, done}
use Rattle.line.specs.LoopTime.{loop_time}
use Rattle.line.specs.Order.{item_count}

pub data Example : Type 0 where
  -- the check word of four service bits alone
  check_word : (service word : ℕ) → Example
  -- the data items that L bits make at a k
  items : (k L count : ℕ) → Example
  -- what the loop-time test says at a k and a speed
  loop : (k speed loop_ms : ℕ) (verdict : Answer (Unit {0})) → Example

unfoldable pub examples : List Example
examples =
    check_word 0b0011 0x3063
    ∷ check_word 0b1001 0x9129
    ∷ check_word 0b1100 0xC18C
    ∷ check_word 0b0101 0x50A5
    ∷ check_word 0b1000 0x8108
    ∷ items 240 1 1
    ∷ items 240 240 1
    ∷ items 240 241 2
    ∷ items 240 262144 1093
    ∷ loop 240 1200 126 (done tt)
    ∷ loop 240 1200 127 (refused Refusals.loop_time)
    ∷ loop 240 4800 0 (refused Refusals.loop_time)
    ∷ []

abbrev pub same_verdict : Answer (Unit {0}) → Answer (Unit {0}) → Bool
same_verdict (done u) (done v) = true
same_verdict (done u) (refused n) = false
same_verdict (refused m) (done v) = false
same_verdict (refused m) (refused n) = eqb m n

-- a row is right
unfoldable pub right : Example → Bool
right (check_word service word) = eqb (check (binary 4 service)) word
right (items k L count) = eqb (item_count k L) count
right (loop k speed loop_ms verdict) = same_verdict (loop_time k speed loop_ms) verdict

-- all rows are
unfoldable pub all_right : List Example → Bool
all_right [] = true
all_right (e ∷ es) = right e && all_right es
