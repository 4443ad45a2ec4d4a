-- Worked examples: numbers drawn, a damaged span, a turned-over reading, and what the load can do to a cancelled block.
-- Assumes nothing.
use Rattle.std.specs.Prelude.{◌≡◌, ℕ, zero, suc, true, false, List, [], ◌∷◌, ◌++◌}
use Rattle.crc.specs.Bits.{Bits, zeros, binary, xor_bits}
use Rattle.crc.specs.Check.{passes}
use Rattle.block.specs.Block.{block_bits, payload_of, cancelled}
use Rattle.noise.specs.Generator.{next, drawn}
use Rattle.noise.specs.Load.{whole_load, load, places, ones}
use Rattle.noise.specs.declared.Generator.{Generator}

abbrev pub words : ℕ → ℕ → Generator
words first second = record { first = first; second = second }

-- the first numbers drawn
abbrev pub draws : ℕ → Generator → List ℕ
draws zero g = []
draws (suc n) g = drawn g ∷ draws n (next g)

-- an item with service bits A and 240 zero data bits, as it is sent if it is cancelled
abbrev pub whole : Bits
whole = block_bits (binary 4 0b0011) (zeros 240)

abbrev pub sent : Bits
sent = cancelled whole

-- and as it arrives from a load by these words
abbrev pub arrives : Generator → Bits
arrives g = xor_bits sent (places 260 (load 260 g))

pub record Examples : Type 0 where
  pub five_draws : draws 5 (words 1 0) ≡ 632806 ∷ 68359563 ∷ 2648522772 ∷ 309049443 ∷ 2400501418 ∷ []
  -- 632,806 leaves 2 when it is divided by 4; 68,359,563 is 1,043 times 65,536 and 5,515, and 1,043 leaves 63 when divided by 245
  pub span : load 260 (words 1 0) ≡ record { pattern = 5515; place = 63; turned = false; generator = words 67634689 724874 }
  -- 5,515 is 0001010110001011 in binary
  pub seven_bits : ones (binary 16 5515) ≡ 7
  -- 903,175 leaves 3
  pub turned_over : load 260 (words 2 0) ≡ whole_load true (words 540738 362437)
  -- a cancelled block fails
  pub cancelled_fails : passes sent ≡ false
  -- the load can invert its last bit again: it arrives whole, as it was before it was cancelled
  pub restored : arrives (words 9940 7408) ≡ whole
  -- or make it pass with other data: the last of the 240 zero bits arrives as a one
  pub passes_changed : passes (arrives (words 6721 5040)) ≡ true
  pub changed : payload_of 240 (arrives (words 6721 5040)) ≡ zeros 239 ++ (true ∷ [])
