-- The noise load's call for C and Rust, the generator's two words in and out: what it returns and writes, and its promise.
-- Assumes nothing.
use Rattle.std.specs.Prelude.{◌≡◌, Bool, List, ℕ, ◌+◌, ◌*◌}
use Rattle.block.specs.Answer.{Answer, refused, done}
use Rattle.noise.specs.Load.{Load, load_block, report_of, generator_after, loaded_bytes}
use Rattle.noise.specs.declared.Generator.{Generator}
use Rattle.noise.specs.declared.Noise.{Noise}
use Rattle.line_c.specs.SenderCalls.{flag_word}

abbrev pub generator_of : ℕ → ℕ → Generator
generator_of first second = record { first = first; second = second }

-- the word: 0x100, 0x200 if the reading is turned over, and the number of bits inverted in the upper half
abbrev pub report_word : ℕ → Bool → ℕ
report_word inverted turned = 0x100 + flag_word turned 0x200 + inverted * 65536

abbrev pub noise_word : Answer Noise → ℕ
noise_word (refused n) = n
noise_word (done noise) = report_word noise.inverted noise.turned

-- the load by the two words
abbrev pub load_in : ℕ → ℕ → ℕ → List ℕ → Answer Load
load_in k first second slice = load_block k (generator_of first second) slice

pub record NoiseCall (k first second : ℕ) (slice : List ℕ) (result first' second' : ℕ) (slice' : List ℕ) : Type 0 where
  pub answers : result ≡ noise_word (report_of (load_in k first second slice))
  pub hands_back : generator_of first' second' ≡ generator_after (generator_of first second) (load_in k first second slice)
  pub writes : slice' ≡ loaded_bytes k slice (load_in k first second slice)
