-- A refusal is told by its number: every refusal is 1 to 63, every other answer 0 or at least 64. Assumes nothing.
use mathlib.Core.Path.{◌≡◌, refl}
use mathlib.Core.Bool.{Bool}
use Prim.Native.Nat.{ℕ}
use borrow.Author.Tests.{le-ltb}
use Rattle.block.proofs.Lengths.{among_each}
use Rattle.line_c.specs.Refused.{is_refusal, RefusalsTold}
use Rattle.line_c.proofs.CallNumbers as C
use Rattle.line_c.proofs.CallNumbers.{in_use, Numbers}

abbrev Told : Bool → ℕ → Type 0
Told t n = is_refusal n ≡ t

told : Numbers Told
told = record { of_refusal = among_each is_refusal in_use refl; of_zero = refl; of_other = λ n h. rw (le-ltb n 64 h) }

pub refusals_told : RefusalsTold
refusals_told =
    record {
      loop_time = C.loop_number Told told;
      build_block = C.build_number Told told;
      read_block = C.read_block-number Told told;
      open_sender = C.open_sender-number Told told;
      send = C.send-number Told told;
      sender_rest = C.rest-number Told told;
      open_receiver = C.open_receiver-number Told told;
      receive = C.receive-number Told told;
      return_bit = C.back_number Told told;
      write_tint = C.write_tint-number Told told;
      read_tint = C.read_tint-number Told told;
      noise = C.noise_number Told told;
    }
