-- A block split anywhere, in step: what is held of it, and its row when it is complete. Assumes nothing.
use mathlib.Core.Path.{◌≡◌, refl, ap, ap₂, sym, ◌∙◌}
use mathlib.Core.Logic.{⊎_elim}
use mathlib.Core.Bool.{Bool, true, false, ◌&&◌}
use mathlib.Core.List.{List, [], ◌++◌, append_assoc}
use native.Mathlib.Omega.{arith}
use Prim.Native.Nat.{ℕ, ◌+◌, ◌*◌, ◌≤◌, ◌<◌}
use lib.Dec.{ltb}
use lib.ListN.{length, take, drop, length-append}
use lib.Seq.{take-append-le, take-append-add, drop-drop}
use borrow.Author.Tests.{ltb-true, ltb-false}
use Rattle.crc.specs.Bits.{Bits, bits_of, bytes_of}
use Rattle.crc.proofs.Bytes.{length-bits_of, bits_of-bytes_of_exact}
use Rattle.block.specs.Lengths.{is_length}
use Rattle.block.proofs.Lengths.{length_facts}
use Rattle.line.specs.Receiving.{array_bytes, Rule, unfinished, standing, sequence_found, reads_sync, check_fails, accepts, previous, out_of_sequence, ends, wrong_length, ends_again, anything_else, waits, meaning, block_rule, held_bits, stops, overwrite, holding, missing, finished_row, in_step}
use Rattle.line.specs.Pieces.{add_used}
use Rattle.line.specs.declared.receiver.Receiver.{Receiver}
use Rattle.line.proofs.InStepBits.{step_on, step_done}
use Rattle.block.proofs.Truth.{either}
use Rattle.line.proofs.Delivery.BlockRules.{Judged, as_sync, fails, as_data, as_other, block-judged}
use Rattle.line.proofs.Delivery.WrittenBits.{length-overwrite, take-overwrite, drop-overwrite, held_bits-holding}
use Rattle.line.proofs.Delivery.BitByBit.{after-holding}

-- a row written behind a row written is both written
overwrite_again : (at : ℕ) (a b row : Bits) → at + length a ≤ length row
    → overwrite (at + length a) b (overwrite at a row) ≡ overwrite at (a ++ b) row
overwrite_again at a b row h =
    ap₂ (λ (x y : Bits). x ++ (b ++ y)) (take-overwrite at a row h)
    (sym (drop-drop (length b) (at + length a) (overwrite at a row)) ∙ ap (drop (length b)) (drop-overwrite at a row h)
    ∙ drop-drop (length b) (at + length a) row ∙ ap (λ (n : ℕ). drop n row) n)
    ∙ append_assoc (take at row) a (b ++ drop (at + length (a ++ b)) row)
    ∙ ap (λ (x : Bits). take at row ++ x) (sym (append_assoc a b (drop (at + length (a ++ b)) row)))
  where
    n : at + length a + length b ≡ at + length (a ++ b)
    n = omega (arith, length-append a b)

module _ (s : Receiver) (array : length s.bits ≡ array_bytes) (a : Bits) (room : s.held + length a ≤ 3864) where
  fits : s.held + length a ≤ length (bits_of s.bits)
  fits = omega (arith, length-bits_of s.bits)

  holding_again : (b : Bits) → holding (holding s a) b ≡ holding s (a ++ b)
  holding_again b =
      ap₂ (λ (bytes : List ℕ) (held : ℕ). record {
        setup = s.setup;
        bits = bytes;
        held = held;
        bad_row = s.bad_row;
        back = s.back;
        taken = s.taken;
        ended = s.ended;
        phase = s.phase;
      })
      (ap (λ (row : Bits). bytes_of array_bytes (overwrite (s.held + length a) b row))
      (bits_of-bytes_of_exact array_bytes (overwrite s.held a (bits_of s.bits)) long)
      ∙ ap (bytes_of array_bytes) (overwrite_again s.held a b (bits_of s.bits) fits)) n
    where
      long : length (overwrite s.held a (bits_of s.bits)) ≡ 8 * array_bytes
      long = omega (arith, length-overwrite s.held a (bits_of s.bits) fits, length-bits_of s.bits)

      n : s.held + length a + length b ≡ s.held + length (a ++ b)
      n = omega (arith, length-append a b)

  finished_row_again : (b : Bits) → length a ≤ missing s → finished_row (holding s a) b ≡ finished_row s (a ++ b)
  finished_row_again b h =
      ap (λ (x : Bits). x ++ take (missing (holding s a)) b) (held_bits-holding s a array room)
      ∙ append_assoc (held_bits s) a (take (missing (holding s a)) b)
      ∙ ap (λ (x : Bits). held_bits s ++ x) (sym (take-append-add a b (missing (holding s a))) ∙ ap (λ (n : ℕ). take n (a ++ b)) n)
    where
      n : length a + missing (holding s a) ≡ missing s
      n = omega arith

-- a first piece that completes no block
module _ (s : Receiver) (array : length s.bits ≡ array_bytes) (known : is_length s.setup.k ≡ true)
    (a : Bits) (h : length a < missing s) (ready : Bool) where
  room : s.held + length a ≤ 3864
  room = omega (arith, length_facts s.setup.k known)

  pub step_add_used : (b : Bits) → in_step s (a ++ b) ready ≡ add_used (length a) (in_step (holding s a) b ready)
  step_add_used b = ⊎_elim (λ t. on (ltb-true (length b) (missing (holding s a)) t))
      (λ t. complete (ltb-false (length b) (missing (holding s a)) t)) (either (ltb (length b) (missing (holding s a))))
    where
      on : length b < missing (holding s a) → in_step s (a ++ b) ready ≡ add_used (length a) (in_step (holding s a) b ready)
      on l =
          step_on s (a ++ b) ready (omega (arith, length-append a b))
          ∙ ap₂ (λ (n : ℕ) (t : Receiver). record { rule = unfinished; row = []; used = n; state = t })
          (length-append a b) (sym (holding_again s array a room b))
          ∙ ap (add_used (length a)) (sym (step_on (holding s a) b ready l))

      complete : missing (holding s a) ≤ length b → in_step s (a ++ b) ready ≡ add_used (length a) (in_step (holding s a) b ready)
      complete l =
          let n : missing s ≡ length a + missing (holding s a) = omega arith in
          let row : Bits = finished_row (holding s a) b in
          let rule : Rule = block_rule s row ready in
          step_done s (a ++ b) ready (omega (arith, length-append a b))
          ∙ ap₂ (λ (x : Bits) (m : ℕ). stops s (block_rule s x ready) x m)
          (sym (finished_row_again s array a room b (omega arith))) n
          ∙ ap (λ (t : Receiver). record { rule = rule; row = row; used = length a + missing (holding s a); state = t })
          (sym (after-holding s a (block-judged s row ready)))
          ∙ ap (add_used (length a)) (sym (step_done (holding s a) b ready l))

-- a block is complete, and bits behind it change nothing
pub step_within : (s : Receiver) (a b : Bits) (ready : Bool) → missing s ≤ length a → in_step s (a ++ b) ready ≡ in_step s a ready
step_within s a b ready h =
    step_done s (a ++ b) ready (omega (arith, length-append a b))
    ∙ ap (λ (x : Bits). stops s (block_rule s (held_bits s ++ x) ready) (held_bits s ++ x) (missing s))
    (take-append-le (missing s) a b h)
    ∙ sym (step_done s a ready h)

-- a rule that uses all bits stores nothing, and reads no block
pub quiet_rule : (x : Rule)
    → ((meaning x).uses_all && (meaning x).stores ≡ false) × ((meaning x).data_or_end && (meaning x).uses_all ≡ false)
quiet_rule unfinished = (refl, refl)
quiet_rule (standing alarm) = (refl, refl)
quiet_rule sequence_found = (refl, refl)
quiet_rule reads_sync = (refl, refl)
quiet_rule (check_fails r) = (refl, refl)
quiet_rule accepts = (refl, refl)
quiet_rule previous = (refl, refl)
quiet_rule out_of_sequence = (refl, refl)
quiet_rule (ends L) = (refl, refl)
quiet_rule wrong_length = (refl, refl)
quiet_rule ends_again = (refl, refl)
quiet_rule anything_else = (refl, refl)
quiet_rule waits = (refl, refl)

pub judged_event : {x : Rule} → Judged x → (meaning x).uses_all ≡ false
judged_event as_sync = refl
judged_event (fails n) = refl
judged_event {x} (as_data h) = rw h at (quiet_rule x).1
judged_event as_other = refl
