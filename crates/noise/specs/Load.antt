-- The load: what it does to a lent block in one block period, what it answers and hands back, and its promise.
-- docs/PROTOCOL.md, "The noise load". Assumes nothing.
use Rattle.std.specs.Prelude.{◌≡◌, ℕ, ◌+◌, ◌-◌, ◌/◌, ◌%◌, ◌^◌, Bool, false, Result, Ok, Err, cond, not, List, [], ◌∷◌, ◌++◌, length, take, drop, ◌==◌}
use Rattle.crc.specs.Bits.{Bits, zeros, bit, binary, xor_bits, bits_of, bytes_of}
use Rattle.block.specs.Answer as A
use Rattle.block.specs.Answer.{Answer, refused, done, refuse_if}
use Rattle.block.specs.Lengths.{is_length, block_length}
use Rattle.block.specs.Calls.{too_short}
use Rattle.noise.specs.Refusals as Refusals
use Rattle.noise.specs.Generator.{next, drawn}
use Rattle.noise.specs.declared.Generator.{Generator}
use Rattle.noise.specs.declared.Noise.{Noise}
use Rattle.noise.specs.declared.Refusal.{Refusal}
use Rattle.noise.specs.declared.Refusal.TheVariants as R

-- ---- one period's noise

pub record Load : Type 0 where
  -- 16 bits, of which each one inverts a bit of the block
  pub pattern : ℕ
  -- the block's bit at which the pattern's top bit lies
  pub place : ℕ
  -- the reading is turned over at the next period's sending call
  pub turned : Bool
  -- as the draws leave it
  pub generator : Generator

-- one damaged span of a block of n bits, by a second draw
unfoldable pub span_load : ℕ → Generator → Load
span_load n g =
    record { pattern = drawn g % 2 ^ 16; place = drawn g / 2 ^ 16 % (n - 15); turned = false; generator = next g }

-- no damage
abbrev pub whole_load : Bool → Generator → Load
whole_load turned g = record { pattern = 0; place = 0; turned = turned; generator = g }

-- the low two bits of a draw choose: 0 or 1, no damage; 2, one damaged span; 3, a turned-over reading
unfoldable pub load : ℕ → Generator → Load
load n g = cond (drawn g % 4 == 2) (span_load n (next g)) (whole_load (drawn g % 4 == 3) (next g))

-- a pattern from a place of n bits on: the places that it inverts, as ones
abbrev pub pattern_at : ℕ → ℕ → ℕ → Bits
pattern_at n place pattern = zeros place ++ (binary 16 pattern ++ zeros (n - (place + 16)))

-- the places that a load inverts
unfoldable pub places : ℕ → Load → Bits
places n l = pattern_at n l.place l.pattern

-- how many ones a row has
abbrev pub ones : Bits → ℕ
ones [] = 0
ones (b ∷ bs) = bit b + ones bs

-- ---- the call: 1, 13, 6

unfoldable pub load_block : ℕ → Generator → List ℕ → Answer Load
load_block k g slice =
    refuse_if (not (is_length k)) A.block
    (refuse_if (g.first == 0) Refusals.generator
    (refuse_if (too_short slice (block_length k)) A.short (done (load (block_length k) g))))

-- ---- what is answered: how many bits are inverted, and whether the reading is turned over; or a refusal's number

abbrev pub refusal_number : Refusal → ℕ
refusal_number R.Block = A.block
refusal_number R.Short = A.short
refusal_number R.Generator = Refusals.generator

abbrev pub noise_answer : Result Noise Refusal → Answer Noise
noise_answer (Ok noise) = done noise
noise_answer (Err refusal) = refused (refusal_number refusal)

abbrev pub report_of : Answer Load → Answer Noise
report_of (refused n) = refused n
report_of (done l) = done (record { inverted = ones (binary 16 l.pattern); turned = l.turned })

-- refused, the generator is as it was
abbrev pub generator_after : Generator → Answer Load → Generator
generator_after g (refused n) = g
generator_after g (done l) = l.generator

-- the n bits with the inverted places, and the bits behind them, the spare ones first, as they were; refused, no byte is written
abbrev pub loaded_bytes : ℕ → List ℕ → Answer Load → List ℕ
loaded_bytes k slice (refused n) = slice
loaded_bytes k slice (done l) =
    bytes_of (length slice)
    (xor_bits (take (block_length k) (bits_of slice)) (places (block_length k) l) ++ drop (block_length k) (bits_of slice))

-- what a call answers, the generator that it leaves, and what it writes, if the answer is this
pub record LoadedAs (k : ℕ) (g : Generator) (slice : List ℕ) (a : Answer Load) (answer : Result Noise Refusal) (g' : Generator) (slice' : List ℕ)
    : Type 0 where
  pub answers : noise_answer answer ≡ report_of a
  pub hands_back : g' ≡ generator_after g a
  pub writes : slice' ≡ loaded_bytes k slice a

abbrev pub LoadBlock : ℕ → Generator → List ℕ → Result Noise Refusal → Generator → List ℕ → Type 0
LoadBlock k g slice answer g' slice' = LoadedAs k g slice (load_block k g slice) answer g' slice'
