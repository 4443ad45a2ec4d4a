-- How many bits a receiving call uses, from its promise. A computed call for each clause, so that what is supposed can be met.
-- Assumes nothing.
use mathlib.Core.Path.{◌≡◌, refl, sym, ap, ◌∙◌}
use mathlib.Core.Bool.{Bool, true, false, not, true≢false}
use mathlib.Core.List.{List, [], ◌∷◌, ◌++◌}
use Prim.Native.Nat.{ℕ}
use lib.ListN.{replicate}
use Rattle.crc.specs.Bits.{binary, number, bits_of}
use Rattle.block.specs.Answer as A
use Rattle.block.specs.Answer.{Answer, refused, done, refuse_if}
use Rattle.block.specs.Lengths.{is_length}
use Rattle.line.specs.Marks.{marks_in_range}
use Rattle.line.specs.Receiving.{Reception, reception, receiver_in_range, receive, reported}
use Rattle.line.specs.BitsUsed.{Uses}
use Rattle.line.specs.declared.receiver.Receiver.{Receiver}
use Rattle.line.specs.declared.receiving.Phase.TheVariants as P
use Rattle.line.proofs.BitsUsed as Line
use Rattle.line_c.specs.State.{word_at, marks_in, holds, holds_receiver, receiver_in, receiver_of}
use Rattle.line_c.specs.ReceiverCalls.{receive_in, received_state, report_used, ReceiveCall}
use Rattle.line_c.specs.Refused.{is_refusal, is_refused}
use Rattle.line_c.specs.UsedTold.{UsedTold}
use Rattle.line_c.proofs.Refused.{refusals_told}

module _ (s : Receiver) (line : List ℕ) (count : ℕ) (ready : Bool) (store : List ℕ) (used : ℕ) where
  answer_uses : (a : Answer Reception) → receive s line count ready store ≡ a → is_refused a ≡ false
      → Uses s.phase count (report_used used (reported a))
  answer_uses (refused n) e h = absurd (true≢false h)
  answer_uses (done x) e h = (Line.bits_used).uses s line count ready store x e

  -- the receiver that the bytes hold, if they do
  held_uses : (t : Bool) →
      let a : Answer Reception = receive_in line count ready store (refuse_if t A.spoiled (done s)) in
      is_refused a ≡ false → Uses s.phase count (report_used used (reported a))
  held_uses true h = absurd (true≢false h)
  held_uses false h = answer_uses (receive s line count ready store) refl h

pub used_told : UsedTold
unfolding UsedTold receiver_of
used_told state line count ready store used len remainder result state' store' used' len' remainder' r n =
    rw r.uses
    (held_uses (receiver_in state) line count ready store used (not (holds_receiver state))
    (sym (refusals_told.receive state line count ready store) ∙ ap is_refusal (sym r.answers) ∙ n))

-- ---- what is supposed can be met: calls on the bytes of a receiver of k 240 with nothing held, computed

-- return bit 1, nothing taken, no marks
abbrev bytes : ℕ → List ℕ
bytes phase = 240 ∷ (replicate 12 0 ++ (1 ∷ 0 ∷ phase ∷ replicate 485 0))

-- `receive_in`, and where this unfolds so does all that it computes with
unfoldable received_in : List ℕ → ℕ → Bool → List ℕ → Answer Receiver → Answer Reception
unfolding receive receiver_in_range marks_in_range is_length reception receiver_of receiver_in holds word_at marks_in number binary bits_of
received_in = receive_in

module _ (phase : ℕ) (line : List ℕ) (count result used : ℕ) where
  -- a call that answers this, and writes so many bits used
  abbrev Answers : Type 0
  Answers =
      ReceiveCall (bytes phase) line count true [] 99 0 0 result
      (received_state (bytes phase) (receive_in line count true [] (receiver_of (bytes phase)))) [] used 0 0

  call_uses : Answers → is_refusal result ≡ false → Uses (receiver_in (bytes phase)).phase count used
  unfolding UsedTold
  call_uses = used_told (bytes phase) line count true [] 99 0 0 result _ [] used 0 0

-- in search: 24 bits, and the sequence is found at the sixteenth
pub search_uses : Uses P.Search 24 16
unfolding received_in
search_uses =
    call_uses 0 (0x50 ∷ 0xa5 ∷ 0 ∷ []) 24 65 16
    (record { answers = refl; keeps = refl; writes = refl; uses = refl; ends = refl; fails = refl }) refl

-- under a standing alarm: all
pub alarm_uses : Uses P.SequenceAlarm 5 5
unfolding received_in
alarm_uses =
    call_uses 2 (0 ∷ []) 5 69 5
    (record { answers = refl; keeps = refl; writes = refl; uses = refl; ends = refl; fails = refl }) refl

-- 0 bits: none
pub none_used : Uses P.InStep 0 0
unfolding received_in
none_used =
    call_uses 1 [] 0 64 0 (record { answers = refl; keeps = refl; writes = refl; uses = refl; ends = refl; fails = refl }) refl
