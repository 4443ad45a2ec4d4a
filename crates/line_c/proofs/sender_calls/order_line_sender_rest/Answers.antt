-- `order_line_sender_rest`: what a sending call with nothing lent answers tells whether the sender goes on.
-- Assumes nothing.
use mathlib.Core.Path.{◌≡◌, refl, sym, ap, ◌∙◌}
use mathlib.Core.Bool.{Bool, true, false, cond, not, ◌||◌}
use mathlib.Core.List.{List}
use Prim.Native.Nat.{ℕ}
use lib.Dec.{eqb}
use Rattle.std.specs.Prelude.{Result, Ok, Err}
use Rattle.block.specs.Answer as A
use Rattle.line.specs.Refusals as Refusals
use Rattle.line.specs.Refusals.{refusal_number}
use Rattle.block.specs.Answer.{Answer, refused, done, refuse_if}
use Rattle.block.specs.Lengths.{block_length}
use Rattle.block.specs.Calls.{too_short}
use Rattle.line.specs.Sending.{Block, transmit, sender_in_range, gave_up, send, sent_answer}
use Rattle.line.specs.declared.Refusal.{Refusal}
use Rattle.line.specs.declared.Refusal.TheVariants as R
use Rattle.line.specs.declared.sender.Sender.{Sender}
use Rattle.line.specs.declared.sender.Sent.{Sent}
use Rattle.line_c.specs.State.{sender_of}
use Rattle.line_c.specs.SenderCalls.{going_on_number, finished_number, gave_up_number, rest_in, SenderRestCall}
use Rattle.line_c.proofs.sender_calls.order_line_sender_rest.Goals as goal

-- the number that an answer comes to
abbrev rest_after : Bool → Answer Block → ℕ
rest_after finished (refused n) = cond (eqb n A.spoiled) A.spoiled (cond (eqb n Refusals.rest) (cond finished finished_number gave_up_number) going_on_number)
rest_after finished (done b) = going_on_number

rest_tests : (range finished gave_up_lem short : Bool) (b : Block)
    → rest_after finished (refuse_if (not range) A.spoiled (refuse_if (finished || gave_up_lem) Refusals.rest (refuse_if short A.short (done b))))
    ≡ cond range (cond finished finished_number (cond gave_up_lem gave_up_number going_on_number)) A.spoiled
rest_tests false finished gave_up_lem short b = refl
rest_tests true true gave_up_lem short b = refl
rest_tests true false true short b = refl
rest_tests true false false true b = refl
rest_tests true false false false b = refl

rest-sent : (s : Sender) (order : List ℕ) (reading : Bool) (slice : List ℕ)
    → rest_after s.finished (send s order reading slice) ≡ rest_in (done s)
unfolding send
rest-sent s order reading slice =
    rest_tests (sender_in_range s) s.finished (gave_up s)
    (too_short order s.setup.length || too_short slice (block_length s.setup.k)) (transmit s s.next reading).block

-- an answer that is no refusal, and one that is another
goes_on : (finished : Bool) (a : Result Sent Refusal) → ((r : Refusal) → a ≡ Err r → ⊥) → going_on_number ≡ rest_after finished (sent_answer a)
goes_on finished (Ok x) k = refl
goes_on finished (Err r) k = absurd (k r refl)

other_refusal : (finished : Bool) (r : Refusal) → (r ≡ R.Spoiled → ⊥) → (r ≡ R.Rest → ⊥)
    → going_on_number ≡ rest_after finished (refused (refusal_number r))
other_refusal finished R.Block h g = refl
other_refusal finished R.Speed h g = refl
other_refusal finished R.LoopTime h g = refl
other_refusal finished R.Empty h g = refl
other_refusal finished R.Long h g = refl
other_refusal finished R.Short h g = refl
other_refusal finished R.Spoiled h g = absurd (h refl)
other_refusal finished R.Rest h g = absurd (g refl)
other_refusal finished R.CodeSize h g = refl

module _ (state : List ℕ) (s : Sender) (e : done s ≡ sender_of state) (order : List ℕ) (reading : Bool) (slice : List ℕ) (x : Result Sent Refusal) (w : sent_answer x ≡ send s order reading slice) (n : ℕ) where
  -- by what a sending call answers
  answered : n ≡ rest_after s.finished (sent_answer x) → SenderRestCall state n
  answered r = record { answers = r ∙ ap (rest_after s.finished) w ∙ rest-sent s order reading slice ∙ ap rest_in e }

  turned : (r : Refusal) → x ≡ Err r → n ≡ rest_after s.finished (refused (refusal_number r)) → SenderRestCall state n
  turned r h g = answered (g ∙ ap (λ (y : Result Sent Refusal). rest_after s.finished (sent_answer y)) (sym h))

pub returns-in_default : goal.returns-in_default
returns-in_default c = answered _ _ c.in-Ok.ensures.held _ _ _ _ c.send.ensures.answers _ (goes_on _ _ c.in_default.not-Err)

pub returns-in-Spoiled : goal.returns-in-Spoiled
returns-in-Spoiled c = turned _ _ c.in-Ok.ensures.held _ _ _ _ c.send.ensures.answers _ _ c.in-Err-answer.is
    (c.from-in-Spoiled.ensures ∙ rw c.in-Spoiled.is refl)

pub returns-in-Rest : goal.returns-in-Rest
returns-in-Rest c = turned _ _ c.in-Ok.ensures.held _ _ _ _ c.send.ensures.answers _ _ c.in-Err-answer.is
    (rw (c.in-Rest.is, c.if-sender.true) refl)

pub returns-in-Rest-2 : goal.returns-in-Rest-2
returns-in-Rest-2 c = turned _ _ c.in-Ok.ensures.held _ _ _ _ c.send.ensures.answers _ _ c.in-Err-answer.is
    (rw (c.in-Rest-2.is, c.if-sender.false) refl)

pub returns-in_default-refusal : goal.returns-in_default-refusal
returns-in_default-refusal c = turned _ _ c.in-Ok.ensures.held _ _ _ _ c.send.ensures.answers _ _ c.in-Err-answer.is
    (other_refusal _ _ c.in_default-refusal.not-Spoiled c.in_default-refusal.not-Rest)
