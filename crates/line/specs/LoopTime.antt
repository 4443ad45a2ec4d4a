-- Loop times: the longest loop for a block length and a speed, and the loop-time test. docs/PROTOCOL.md, "Loop time". Assumes
-- nothing.
use Rattle.std.specs.Prelude.{◌≡◌, ◌↔◌, Bool, true, not, ◌||◌, List, [], ◌∷◌, ℕ, ◌+◌, ◌-◌, ◌*◌, ◌/◌, ◌<◌, leb, ltb, Result, Ok, Err}
use Rattle.block.specs.Answer as A
use Rattle.line.specs.Refusals as Refusals
use Rattle.line.specs.Refusals.{refusal_number}
use Rattle.block.specs.Answer.{Answer, refused, done, refuse_if}
use Rattle.block.specs.Lengths.{is_length, block_length, among}
use Rattle.line.specs.declared.Refusal.{Refusal}

-- the table's six speeds, in bit/s
abbrev pub speeds : List ℕ
speeds = 200 ∷ 600 ∷ 1200 ∷ 2400 ∷ 3600 ∷ 4800 ∷ []

unfoldable pub is_speed : ℕ → Bool
is_speed speed = among speed speeds

-- how long a block lasts, in whole milliseconds: n times 1000 divided by the speed, rounded down
unfoldable pub block_time : ℕ → ℕ → ℕ
block_time k speed = block_length k * 1000 / speed

-- the table has an entry unless the block is over before 90 ms
unfoldable pub has_entry : ℕ → ℕ → Bool
has_entry k speed = leb 90 (block_time k speed)

-- the longest loop: the block's time less 90
unfoldable pub longest_loop : ℕ → ℕ → ℕ
longest_loop k speed = block_time k speed - 90

-- the loop-time test: 1, 2, 3
unfoldable pub loop_time : ℕ → ℕ → ℕ → Answer (Unit {0})
loop_time k speed loop_ms =
    refuse_if (not (is_length k)) A.block
    (refuse_if (not (is_speed speed)) Refusals.speed
    (refuse_if (not (has_entry k speed) || ltb (longest_loop k speed) loop_ms) Refusals.loop_time (done tt)))

abbrev pub loop_answer : Result Unit Refusal → Answer (Unit {0})
loop_answer (Ok u) = done tt
loop_answer (Err r) = refused (refusal_number r)

pub record LoopTest (k speed loop_ms : ℕ) (answer : Result Unit Refusal) : Type 0 where
  pub answers : loop_answer answer ≡ loop_time k speed loop_ms

-- The test without rounding: 3 exactly if k and the speed are in the tables and the loop and 90 ms together last longer than
-- the block. Where there is no entry 90 ms alone do, so that loop 0 is refused too.
unfoldable pub Unrounded : Type 0
Unrounded =
    (k speed loop_ms : ℕ)
    → (loop_time k speed loop_ms ≡ refused Refusals.loop_time)
    ↔ ((is_length k ≡ true) × (is_speed speed ≡ true) × (block_length k * 1000 < (loop_ms + 90) * speed))
