-- What holds of each way in which a call can end holds of every call. A call that finds the sequence is in search, and has used a
-- bit; one that completes a block is in step, and the block's last bit is among its bits; any other call uses all its bits.
-- Assumes nothing.
use mathlib.Core.Path.{◌≡◌, refl, subst}
use mathlib.Core.Bool.{Bool}
use mathlib.Core.List.{List, [], ◌∷◌, ◌++◌}
use Prim.Native.Nat.{ℕ, suc, ◌+◌, ◌≤◌}
use native.Mathlib.Omega.{arith}
use borrow.Author.Tests.{ltb-false, eqb-true}
use lib.Dec.{eqb, ltb}
use lib.ListN.{length, take}
use Rattle.crc.specs.Bits.{Bits, bits_of}
use Rattle.block.specs.Answer.{done}
use Rattle.block.proofs.Truth.{cond_case}
use Rattle.line.specs.Receiving.{unfinished, sequence_found, block_rule, held_bits, Reception, stops, latest, searching, is_sequence, search, missing, finished_row, in_step, alarm_reception, by_phase, idle, reception, receive}
use Rattle.line.specs.declared.receiver.Receiver.{Receiver}
use Rattle.line.specs.declared.receiving.Phase.{Phase}
use Rattle.line.specs.declared.receiving.Phase.TheVariants as P
use Rattle.line.specs.declared.receiving.Event.TheVariants as E
use Rattle.line.proofs.InStepBits.{held_on}
use Rattle.line.proofs.ReceivingCall.{heard}

module _ (s : Receiver) (line : List ℕ) (count : ℕ) (ready : Bool) where
  -- the bits that are lent
  abbrev new : Bits
  new = take count (bits_of line)

  module _ (Holds : Reception → Type 0) (none_lent : count ≡ 0 → Holds (idle s))
      (not_found : (window : Bits) (used : ℕ) → used ≡ length new
      → Holds (record { rule = unfinished; row = []; used = used; state = searching s window }))
      (found : s.phase ≡ P.Search → (used : ℕ) → 1 ≤ used → used ≤ length new → Holds (stops s sequence_found [] used))
      (held : Holds (held_on s new))
      (complete : s.phase ≡ P.InStep → missing s ≤ length new
      → Holds (stops s (block_rule s (finished_row s new) ready) (finished_row s new) (missing s)))
      (sequence_alarm : Holds (alarm_reception s E.SequenceAlarm (length new)))
      (length_alarm : Holds (alarm_reception s E.LengthAlarm (length new))) where
    search_case : s.phase ≡ P.Search → (bits window : Bits) (used : ℕ) → used + length bits ≡ length new → Holds (search s window bits used)
    search_case p [] window used n = not_found window used (omega arith)
    search_case p (b ∷ bits) window used n =
        cond_case Holds (is_sequence (window ++ (b ∷ []))) (λ e. found p (suc used) (omega arith) (omega arith))
        (λ e. search_case p bits (latest (window ++ (b ∷ []))) (suc used) (omega arith))

    step_case : s.phase ≡ P.InStep → Holds (in_step s new ready)
    unfolding in_step
    step_case p =
        cond_case Holds (ltb (length new) (missing s)) (λ e. held) (λ e. complete p (ltb-false (length new) (missing s) e))

    phase_case : (p : Phase) → s.phase ≡ p → Holds (by_phase s p new ready)
    phase_case P.Search e = search_case e new (held_bits s) 0 (omega arith)
    phase_case P.InStep e = step_case e
    phase_case P.SequenceAlarm e = sequence_alarm
    phase_case P.LengthAlarm e = length_alarm

    pub reception_case : Holds (reception s new count ready)
    unfolding reception
    reception_case = cond_case Holds (eqb count 0) (λ e. none_lent (eqb-true count 0 e)) (λ e. phase_case s.phase refl)

    pub received_case : (store : List ℕ) (x : Reception) → receive s line count ready store ≡ done x → Holds x
    received_case store x e = subst Holds (heard s line count ready store x e).2 reception_case
