-- What the theorems suppose is met: a load on a lent block, words to start from, and a block that passes. Assumes nothing.
use Rattle.std.proofs.Common.{◌≡◌, ℕ, ◌^◌, ◌<◌, true, false, Ok, List, ◌∷◌, ◌++◌, replicate, sym, refl, ◌∙◌, arith, lit<, lit≤}
use Rattle.crc.specs.Bits.{binary, number, xor_bits, bits_of, bytes_of}
use Rattle.crc.specs.Check.{remainder, passes, check}
use Rattle.block.specs.Answer.{refused}
use Rattle.block.specs.Lengths.{is_length}
use Rattle.block.specs.Block.{block_bits, cancelled}
use Rattle.noise.specs.Refusals as Refusals
use Rattle.noise.specs.Generator.{xor_left, xor_right, next_first, next, drawn}
use Rattle.noise.specs.Load.{span_load, load, pattern_at, places, load_block, LoadBlock}
use Rattle.noise.specs.Facts.{BlockLoaded, EveryLoad, Call, after_calls, OnlyAtTheStart, OnePattern}
use Rattle.noise.specs.Examples.{words, whole, sent}
use Rattle.noise.specs.declared.Noise.{Noise}
use Rattle.noise.proofs.FirstWord.{only_at_the_start}
use Rattle.noise.proofs.EveryLoad.{every_load}
use Rattle.noise.proofs.OnePattern.{one_pattern}

-- the 33 bytes of a block of 240 data bits, and what the words 1 and 0 make of them: 0001010110001011 from bit 63 on
abbrev blank : List ℕ
blank = replicate 33 0

abbrev damaged : List ℕ
damaged = replicate 8 0 ++ (0x2b ∷ 0x16 ∷ replicate 23 0)

abbrev reported : Noise
reported = record { inverted = 7; turned = false }

pub load_witness : LoadBlock 240 (words 1 0) blank (Ok reported) (words 67634689 724874) damaged
unfolding is_length xor_left xor_right next_first next drawn span_load load places load_block binary number xor_bits bits_of bytes_of
load_witness = record { answers = refl; hands_back = refl; writes = refl }

pub loaded_witness : BlockLoaded 240 blank damaged 7
unfolding EveryLoad
loaded_witness = every_load 240 (words 1 0) (words 67634689 724874) blank damaged reported load_witness

-- the words 1 and 0 may be started from
pub start_witness : (calls : List Call) (k : ℕ) (slice : List ℕ) → load_block k (after_calls (words 1 0) calls) slice ≡ refused Refusals.generator → ⊥
unfolding OnlyAtTheStart
start_witness = only_at_the_start (words 1 0) (lit< tt) (λ (e : ◌≡◌ {A = ℕ} 1 0). omega arith)

-- of the patterns from bit 243 on only 1000100000010000 makes the cancelled block pass: the one that the words 6,721 and 5,040 draw
pub pattern_witness : (q : ℕ) → q < 2 ^ 16 → passes (xor_bits sent (pattern_at 260 243 q)) ≡ true → q ≡ 0x8810
unfolding OnePattern passes remainder check block_bits cancelled binary xor_bits
pattern_witness q h t =
    let w = one_pattern whole 243 (lit≤ tt) refl in
    (w.2 q h).0 t ∙ sym ((w.2 0x8810 (lit< tt)).0 refl)
