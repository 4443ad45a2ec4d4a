-- A receiver in range fits its layout, and so do the states that opening and a receiving call hand back.
-- Assumes nothing.
use mathlib.Core.Path.{◌≡◌, refl}
use mathlib.Core.Bool.{Bool, true, false, not, ◌||◌}
use mathlib.Core.List.{List, [], ◌∷◌, ◌++◌}
use Rattle.std.specs.Prelude.{Option}
use Prim.Native.Nat.{ℕ, suc, ◌+◌, ◌^◌, ◌≤◌, ◌<◌}
use native.Mathlib.Omega.{arith}
use borrow.Author.Tests.{ltb-true, leb-true, not-false}
use lib.Dec.{eqb, leb, ltb}
use lib.ListN.{length, take, length-append, length-drop, length-take}
use Rattle.crc.specs.Bits.{Bits, bits_of}
use Rattle.crc.proofs.Bytes.{length-bytes_of}
use Rattle.block.specs.Answer as A
use Rattle.block.specs.Answer.{done}
use Rattle.block.specs.Lengths.{is_length, block_length}
use Rattle.block.proofs.Lengths.{length_facts}
use Rattle.block.proofs.Truth.{cond_case}
use Rattle.block.proofs.Refusals.{passed_test}
use Rattle.line.specs.Marks.{marks_of}
use Rattle.line.specs.Receiving.{array_bytes, fresh_receiver, open_receiver, Rule, unfinished, standing, sequence_found, reads_sync, check_fails, accepts, previous, out_of_sequence, ends, wrong_length, ends_again, anything_else, waits, block_rule, blank, last_bad, after_bad, after, held_bits, Reception, latest, is_sequence, search, under_alarm, holding, missing, finished_row, in_step, by_phase, reception, held_in_range, receiver_in_range, receive}
use Rattle.line.specs.declared.receiver.Receiver.{Receiver}
use Rattle.line.specs.declared.receiving.Phase.{Phase}
use Rattle.line.specs.declared.receiving.Phase.TheVariants as P
use Rattle.line.proofs.Delivery.WrittenBits.{length-zero_array}
use Rattle.line.proofs.Delivery.SearchAnyBits.{length-latest}
use Rattle.line.proofs.ReceivingCall.{InRange, in_range, held_search, heard}
use Rattle.line_c.specs.State.{ReceiverFits}

-- ---- a state in range

held_small : (p : Phase) (n held : ℕ) → n ≤ 3860 → held_in_range p n held ≡ true → held < 2 ^ 32
held_small P.Search n held g h = omega (arith, leb-true held 15 h)
held_small P.InStep n held g h = omega (arith, ltb-true held n h)
held_small P.SequenceAlarm n held g h = omega (arith, ltb-true held n h)
held_small P.LengthAlarm n held g h = omega (arith, ltb-true held n h)

pub receiver_fits : (s : Receiver) → receiver_in_range s ≡ true → length s.bits ≡ array_bytes → ReceiverFits s
receiver_fits s h b =
    let r = in_range s h in
    let k = length_facts s.setup.k r.known in
    record {
      k = omega arith;
      held = held_small s.phase (block_length s.setup.k) s.held (omega arith) r.held;
      taken = omega (arith, r.taken);
      bad_row = omega (arith, r.bad_row);
      bits = b;
    }

-- ---- the state after an event

abbrev Fits : Reception → Type 0
Fits x = ReceiverFits x.state

module _ (s : Receiver) (r : InRange s) (f : ReceiverFits s) where
  blank_fits : (bad_row : ℕ) (back : Bool) (taken : ℕ) (ended : Bool) (phase : Phase) → bad_row ≤ 8 → taken ≤ s.taken + 1
      → ReceiverFits (blank s bad_row back taken ended phase)
  blank_fits bad_row back taken ended phase h g =
      record {
        k = f.k;
        held = omega arith;
        taken = omega (arith, r.taken);
        bad_row = omega arith;
        bits = length-zero_array;
      }

  after_bad_fits : (search : Bool) → ReceiverFits (after_bad s search)
  after_bad_fits true = blank_fits 0 true s.taken s.ended P.Search (omega arith) (omega arith)
  after_bad_fits false = blank_fits (s.bad_row + 1) true s.taken s.ended P.InStep (omega (arith, r.bad_row)) (omega arith)

  after_fits : (rule : Rule) → ReceiverFits (after s rule)
  after_fits unfinished = f
  after_fits (standing alarm) = f
  after_fits sequence_found = blank_fits 0 false s.taken s.ended P.InStep (omega arith) (omega arith)
  after_fits reads_sync = blank_fits 0 false s.taken s.ended P.InStep (omega arith) (omega arith)
  after_fits (check_fails n) = after_bad_fits (leb last_bad (s.bad_row + 1))
  after_fits accepts = blank_fits 0 false (s.taken + 1) s.ended P.InStep (omega arith) (omega arith)
  after_fits previous = blank_fits 0 false s.taken s.ended P.InStep (omega arith) (omega arith)
  after_fits out_of_sequence = blank_fits 0 true s.taken s.ended P.SequenceAlarm (omega arith) (omega arith)
  after_fits (ends L) = blank_fits 0 false s.taken true P.InStep (omega arith) (omega arith)
  after_fits wrong_length = blank_fits 0 true s.taken s.ended P.LengthAlarm (omega arith) (omega arith)
  after_fits ends_again = blank_fits 0 false s.taken s.ended P.InStep (omega arith) (omega arith)
  after_fits anything_else = after_bad_fits (leb last_bad (s.bad_row + 1) || eqb s.taken 0)
  after_fits waits = blank_fits 0 true s.taken s.ended P.InStep (omega arith) (omega arith)

  -- ---- in search

  search_fits : (new window : Bits) (used : ℕ) → length window ≤ 15 → ReceiverFits (search s window new used).state
  search_fits [] window used h =
      record {
        k = f.k;
        held = omega arith;
        taken = f.taken;
        bad_row = f.bad_row;
        bits = simp (length-append, length-bytes_of, length-drop, f.bits);
      }
  search_fits (b ∷ bs) window used h =
      cond_case Fits (is_sequence (window ++ (b ∷ []))) (λ e. after_fits sequence_found)
      (λ e. search_fits bs (latest (window ++ (b ∷ []))) (suc used) (length-latest (window ++ (b ∷ []))))

  -- ---- in step

  holding_fits : (new : Bits) → length new < missing s → ReceiverFits (holding s new)
  holding_fits new h =
      let k = length_facts s.setup.k r.known in
      record { k = f.k; held = omega arith; taken = f.taken; bad_row = f.bad_row; bits = length-bytes_of array_bytes _ }

  step_fits : (new : Bits) (ready : Bool) → ReceiverFits (in_step s new ready).state
  unfolding in_step
  step_fits new ready =
      cond_case Fits (ltb (length new) (missing s)) (λ e. holding_fits new (ltb-true (length new) (missing s) e))
      (λ e. after_fits (block_rule s (finished_row s new) ready))

  -- ---- by the phase

  under_alarm_fits : ReceiverFits (under_alarm s)
  under_alarm_fits = record { k = f.k; held = f.held; taken = f.taken; bad_row = omega arith; bits = f.bits }

  by_phase_fits : (p : Phase) → s.phase ≡ p → (new : Bits) (ready : Bool) → ReceiverFits (by_phase s p new ready).state
  by_phase_fits P.Search e new ready =
      let h = held_search s r e in
      search_fits new (held_bits s) 0 (simp length-take (omega arith))
  by_phase_fits P.InStep e new ready = step_fits new ready
  by_phase_fits P.SequenceAlarm e new ready = under_alarm_fits
  by_phase_fits P.LengthAlarm e new ready = under_alarm_fits

  reception_fits : (new : Bits) (count : ℕ) (ready : Bool) → ReceiverFits (reception s new count ready).state
  unfolding reception
  reception_fits new count ready = cond_case Fits (eqb count 0) (λ e. f) (λ e. by_phase_fits s.phase refl new ready)

-- ---- opening and a receiving call

pub opened_fits : (k : ℕ) (size : Option ℕ) (u : Unit {0}) → open_receiver k size ≡ done u
    → ReceiverFits (fresh_receiver k (marks_of size))
unfolding open_receiver fresh_receiver
opened_fits k size u e =
    let h = length_facts k (not-false (is_length k) (passed_test (not (is_length k)) A.block _ u e).0) in
    record { k = omega arith; held = omega arith; taken = omega arith; bad_row = omega arith; bits = length-zero_array }

pub received_fits : (s : Receiver) (line : List ℕ) (count : ℕ) (ready : Bool) (store : List ℕ) (x : Reception) → length s.bits ≡ array_bytes
    → receive s line count ready store ≡ done x → ReceiverFits x.state
received_fits s line count ready store x b e =
    let h = heard s line count ready store x e in
    rw (← h.2) (reception_fits s (in_range s h.0) (receiver_fits s h.0 b) (take count (bits_of line)) count ready)
