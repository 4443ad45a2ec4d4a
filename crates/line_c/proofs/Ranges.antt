-- A sender in range fits its layout, so do the states that opening and a sending call hand back, and the number of the
-- item that a call sends fits its word. Assumes nothing.
use mathlib.Core.Path.{◌≡◌, refl, sym, ◌∙◌}
use mathlib.Core.Bool.{Bool, true, false}
use mathlib.Core.List.{List}
use Rattle.std.specs.Prelude.{Option, Result, Ok}
use Prim.Native.Nat.{ℕ, ◌+◌, ◌-◌, ◌≤◌, ◌<◌}
use native.Mathlib.Omega.{arith}
use Rattle.block.specs.Answer.{done}
use Rattle.block.proofs.Lengths.{length_facts}
use Rattle.line.specs.Order.{most_items}
use Rattle.line.specs.Sending.{open_sender, Block, synchronising, item, transmit, sender_in_range, send, send_state, sent_block, sent_answer}
use Rattle.line.specs.declared.Refusal.{Refusal}
use Rattle.line.specs.declared.sender.Sender.{Sender}
use Rattle.line.specs.declared.sender.Next.{Next}
use Rattle.line.specs.declared.sender.Next.TheVariants.{Sync, Older, Newer}
use Rattle.line.specs.declared.sender.Sent.{Sent}
use Rattle.line.specs.declared.sender.Sent.TheVariants as W
use Rattle.line.specs.declared.sender.Step.{Step}
use Rattle.line.proofs.Items.{valid_most, item_count_fits}
use Rattle.line.proofs.SenderRange.{in_range, opened_in_range, sendable, send_in_range}
use Rattle.line_c.specs.State.{SenderFits}
use Rattle.line_c.specs.SenderCalls.{number_fits}

newer_most : (s : Sender) → sender_in_range s ≡ true → s.newer ≤ most_items + 1
newer_most s h =
    let r = in_range s h in
    omega (arith, r.last, item_count_fits s.setup.k s.setup.length r.known r.valid)

pub sender_fits : (s : Sender) → sender_in_range s ≡ true → SenderFits s
sender_fits s h =
    let r = in_range s h in
    let k = length_facts s.setup.k r.known in
    let L = valid_most s.setup.length r.valid in
    let n = newer_most s h in
    record { k = omega arith; length = omega arith; newer = omega arith; run = omega (arith, r.cancels) }

pub opened_fits : (k speed loop_ms L : ℕ) (size : Option ℕ) (order : List ℕ) (s : Sender)
    → open_sender k speed loop_ms L size order ≡ done s → SenderFits s
opened_fits k speed loop_ms L size order s e =
    sender_fits s (opened_in_range k speed loop_ms L size order s (record { answers = sym e }))

-- ---- a sending call that sends

sent_of : Block → Result Sent Refusal
sent_of synchronising = Ok W.Synchronising
sent_of (item i end used cancelled) = Ok (W.Item i end used cancelled)

answer_of : (b : Block) → sent_answer (sent_of b) ≡ done b
unfolding sent_of
answer_of synchronising = refl
answer_of (item i end used cancelled) = refl

item_at_most : (s : Sender) (next : Next) (reading : Bool) (i : ℕ) (end used cancelled : Bool)
    → (transmit s next reading).block ≡ item i end used cancelled → i ≤ s.newer
unfolding transmit
item_at_most s Sync reading i end used cancelled e = absurd (let z : ◌≡◌ {A = ℕ} 0 1 = cc in omega arith)
item_at_most s Older reading i end used cancelled e = let z : s.newer - 1 ≡ i = cc in omega arith
item_at_most s Newer false i end used cancelled e = let z : s.newer ≡ i = cc in omega arith
item_at_most s Newer true i end used cancelled e = let z : s.newer ≡ i = cc in omega arith

module _ (s : Sender) (order : List ℕ) (reading : Bool) (slice : List ℕ) where
  pub sent_fits : (b : Block) → send s order reading slice ≡ done b → SenderFits (send_state s reading (done b))
  sent_fits b e =
      let result : Step = record { state = send_state s reading (done b); answer = sent_of b } in
      sender_fits result.state
      (send_in_range s order reading slice result _
      (record { answers = answer_of b ∙ sym e; state = rw e; writes = refl })
      (sendable s order reading slice b e).range)

  pub item_fits : (i : ℕ) (end used cancelled : Bool) → send s order reading slice ≡ done (item i end used cancelled)
      → i < 65536
  item_fits i end used cancelled e =
      let q = sendable s order reading slice (item i end used cancelled) e in
      omega (arith, newer_most s q.range, item_at_most s s.next reading i end used cancelled q.block)

  pub number_fits_of : (x : Sent) → done (sent_block x) ≡ send s order reading slice → number_fits x
  number_fits_of W.Synchronising e = tt
  number_fits_of (W.Item i end used cancelled) e = item_fits i end used cancelled (sym e)
