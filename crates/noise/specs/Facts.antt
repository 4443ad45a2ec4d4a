-- What is so of every load, and of the generator's first word. Assumes nothing.
use Rattle.std.specs.Prelude.{◌≡◌, ℕ, ◌+◌, ◌^◌, ◌<◌, ◌≤◌, true, false, ◌↔◌, Ok, List, [], ◌∷◌, ◌++◌, length, take, drop, ◌≢◌}
use Rattle.crc.specs.Bits.{Bits, zeros, xor_bits, bits_of}
use Rattle.crc.specs.Check.{passes}
use Rattle.crc.specs.Damage.{Damage}
use Rattle.block.specs.Answer.{refused}
use Rattle.block.specs.Lengths.{block_length}
use Rattle.block.specs.Block.{cancelled}
use Rattle.noise.specs.Refusals as Refusals
use Rattle.noise.specs.Generator.{next_first}
use Rattle.noise.specs.Load.{pattern_at, ones, load_block, generator_after, LoadBlock}
use Rattle.noise.specs.declared.Generator.{Generator}
use Rattle.noise.specs.declared.Noise.{Noise}

-- ---- a block before and after a load that is not refused

-- the n bits of a lent block
abbrev pub block_of : ℕ → List ℕ → Bits
block_of k slice = take (block_length k) (bits_of slice)

-- the places at which they differ, as ones
abbrev pub differences : ℕ → List ℕ → List ℕ → Bits
differences k slice slice' = xor_bits (block_of k slice) (block_of k slice')

-- ones within 16 adjacent places alone
pub record Within16 (row : Bits) : Type 0 where
  pub before : ℕ
  pub span : Bits
  pub behind : ℕ
  pub adjacent : length span ≤ 16
  pub is : row ≡ zeros before ++ (span ++ zeros behind)

pub record BlockLoaded (k : ℕ) (slice slice' : List ℕ) (inverted : ℕ) : Type 0 where
  -- what is inverted lies within 16 adjacent places of the n, as `Damage`; the last bit of a cancelled block is not counted in
  pub within_16 : Within16 (differences k slice slice')
  pub damage : Damage (differences k slice slice')
  -- the number reported is the number of places that differ
  pub counted : inverted ≡ ones (differences k slice slice')
  -- every bit behind the n, the spare ones first, is as it was
  pub others : drop (block_length k) (bits_of slice') ≡ drop (block_length k) (bits_of slice)
  -- a block that passes as it was sent fails, if a bit of it was inverted
  pub found : passes (block_of k slice) ≡ true → 0 < inverted → passes (block_of k slice') ≡ false

unfoldable pub EveryLoad : Type 0
EveryLoad =
    (k : ℕ) (g g' : Generator) (slice slice' : List ℕ) (noise : Noise)
    → LoadBlock k g slice (Ok noise) g' slice' → BlockLoaded k slice slice' noise.inverted

-- ---- the first word

-- the numbers of 32 bits, each once: so only 0 becomes 0
pub record FirstWord : Type 0 where
  pub below : (x : ℕ) → x < 2 ^ 32 → next_first x < 2 ^ 32
  pub one_to_one : (x y : ℕ) → x < 2 ^ 32 → y < 2 ^ 32 → next_first x ≡ next_first y → x ≡ y
  pub onto : (y : ℕ) → y < 2 ^ 32 → (x : ℕ) × (x < 2 ^ 32) × (next_first x ≡ y)
  pub never_0 : (x : ℕ) → x < 2 ^ 32 → (x ≢ 0) → next_first x ≢ 0

-- what a call is given besides the generator
pub record Call : Type 0 where
  pub k : ℕ
  pub slice : List ℕ

-- the generator after a list of calls, each given the one that the call before it handed back
abbrev pub after_calls : Generator → List Call → Generator
after_calls g [] = g
after_calls g (c ∷ cs) = after_calls (generator_after g (load_block c.k g c.slice)) cs

-- from a first word of 32 bits that is not 0, no call is ever refused by 13
unfoldable pub OnlyAtTheStart : Type 0
OnlyAtTheStart =
    (g : Generator) → g.first < 2 ^ 32 → (g.first ≢ 0) → (calls : List Call) (k : ℕ) (slice : List ℕ)
    → load_block k (after_calls g calls) slice ≢ refused Refusals.generator

-- ---- a cancelled block

-- What is not so: that a load on a cancelled block is always found. At each place one pattern of the 65,536 makes the block pass,
-- and no other does.
unfoldable pub OnePattern : Type 0
OnePattern =
    (row : Bits) (place : ℕ) → place + 16 ≤ length row → passes row ≡ true
    → (p : ℕ) × (p < 2 ^ 16) × ((q : ℕ) → q < 2 ^ 16 → (passes (xor_bits (cancelled row) (pattern_at (length row) place q)) ≡ true) ↔ (q ≡ p))
