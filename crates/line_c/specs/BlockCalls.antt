-- The loop-time test and the calls on one block, for C and Rust: the number that each returns, and its promise.
-- Assumes nothing.
use Rattle.std.specs.Prelude.{◌≡◌, List, ℕ, ◌+◌}
use Rattle.block.specs.Answer.{Answer, refused, done}
use Rattle.block.specs.Block.{Verdict, passed, failed}
use Rattle.block.specs.Calls.{build_block, built_bytes, read_block, read_bytes}
use Rattle.line.specs.LoopTime.{loop_time}

-- a refusal's number, 0 if nothing is refused
abbrev pub refusal : {A : Type 0} → Answer A → ℕ
refusal (refused n) = n
refusal (done a) = 0

pub record LoopTimeCall (k speed loop_ms result : ℕ) : Type 0 where
  pub answers : result ≡ refusal (loop_time k speed loop_ms)

pub record BuildBlockCall (k service : ℕ) (payload slice : List ℕ) (result : ℕ) (slice' : List ℕ) : Type 0 where
  pub answers : result ≡ refusal (build_block k service payload slice)
  pub writes : slice' ≡ built_bytes k service payload slice (build_block k service payload slice)

-- a block that passes: 0x100 and its service bits; one that fails: 0x200
abbrev pub read_number : Answer Verdict → ℕ
read_number (refused n) = n
read_number (done (passed service)) = 0x100 + service
read_number (done (failed r)) = 0x200

-- the remainder that comes with a block that fails; without it, the number stays
abbrev pub read_remainder : ℕ → Answer Verdict → ℕ
read_remainder remainder (refused n) = remainder
read_remainder remainder (done (passed service)) = remainder
read_remainder remainder (done (failed r)) = r

pub record ReadBlockCall (k : ℕ) (slice payload : List ℕ) (remainder result : ℕ) (payload' : List ℕ) (remainder' : ℕ) : Type 0 where
  pub answers : result ≡ read_number (read_block k slice payload)
  pub writes : payload' ≡ read_bytes k slice payload (read_block k slice payload)
  pub fails : remainder' ≡ read_remainder remainder (read_block k slice payload)
