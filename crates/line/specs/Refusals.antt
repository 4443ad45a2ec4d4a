-- The numbers that the two ends refuse by besides the block's: docs/PROTOCOL.md, "What the ends turn away", by its words.
-- Assumes nothing.
use Rattle.block.specs.Answer as A
use Rattle.line.specs.declared.Refusal.{Refusal}
use Rattle.line.specs.declared.Refusal.TheVariants as R
use Rattle.std.specs.Prelude.{ℕ}

abbrev pub speed : ℕ
speed = 2

abbrev pub loop_time : ℕ
loop_time = 3

abbrev pub empty : ℕ
empty = 4

abbrev pub long : ℕ
long = 5

abbrev pub rest : ℕ
rest = 8

abbrev pub code_size : ℕ
code_size = 9

-- the number of each refusal
abbrev pub refusal_number : Refusal → ℕ
refusal_number R.Block = A.block
refusal_number R.Speed = speed
refusal_number R.LoopTime = loop_time
refusal_number R.Empty = empty
refusal_number R.Long = long
refusal_number R.Short = A.short
refusal_number R.Spoiled = A.spoiled
refusal_number R.Rest = rest
refusal_number R.CodeSize = code_size
