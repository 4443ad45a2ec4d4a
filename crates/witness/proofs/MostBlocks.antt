-- The most blocks that a sender sends are reached: an order of one item, each pair confirmed at its 64th reading. Assumes nothing.
use mathlib.Core.Path.{◌≡◌, refl, sym}
use mathlib.Core.Bool.{Bool, true, false, not, cond, ◌||◌}
use Prim.Native.Nat.{ℕ, zero, suc, ◌+◌, ◌*◌}
use lib.Dec.{eqb}
use Rattle.std.proofs.Common.{None, Result, Ok, Err}
use Rattle.block.specs.Answer as A
use Rattle.block.specs.Answer.{Answer, done, refuse_if}
use Rattle.block.specs.Lengths.{is_length, block_length}
use Rattle.block.specs.Calls.{too_short}
use Rattle.line.specs.Refusals as Refusals
use Rattle.line.specs.Marks.{marks_in_range}
use Rattle.line.specs.Order.{valid_length, item_count}
use Rattle.line.specs.Sending.{fresh_sender, OpenSender, Block, synchronising, item, transmit, sender_in_range, send, send_state, send_bytes, sent_answer, gave_up}
use Rattle.line.specs.SendCalls.{SendCalls, none, call}
use Rattle.line.specs.MostBlocks.{sent_blocks, first_pair, later_pair}
use Rattle.line.specs.declared.Refusal.{Refusal}
use Rattle.line.specs.declared.Refusal.TheVariants as N
use Rattle.line.specs.declared.sender.Sender.{Sender}
use Rattle.line.specs.declared.sender.Sent.{Sent}
use Rattle.line.specs.declared.sender.Sent.TheVariants as W
use Rattle.witness.proofs.Sends.{order, slice, fresh, opens}

pub met : OpenSender 240 200 0 8 None order (Ok fresh)
met = record { answers = sym opens }

-- 0 at the last chance
abbrev reading : Sender → Bool
reading s = not (eqb s.run 63)

abbrev answer : Sender → Answer Block
answer s = send s order (reading s) slice

-- the answer in the code's type, from the three tests of a sending call
abbrev block : Block → Sent
block synchronising = W.Synchronising
block (item i end used cancelled) = W.Item i end used cancelled

abbrev told : (spoiled rest short : Bool) → Block → Result Sent Refusal
told spoiled rest short b = cond spoiled (Err N.Spoiled) (cond rest (Err N.Rest) (cond short (Err N.Short) (Ok (block b))))

told_answers : (spoiled rest short : Bool) (b : Block) → sent_answer (told spoiled rest short b)
    ≡ refuse_if spoiled A.spoiled (refuse_if rest Refusals.rest (refuse_if short A.short (done b)))
told_answers true rest short b = refl
told_answers false true short b = refl
told_answers false false true b = refl
told_answers false false false synchronising = refl
told_answers false false false (item i end used cancelled) = refl

abbrev result : Sender → Result Sent Refusal
result s =
    told (not (sender_in_range s)) (s.finished || gave_up s) (too_short order s.setup.length || too_short slice (block_length s.setup.k))
    (transmit s s.next (reading s)).block

result_answers : (s : Sender) → sent_answer (result s) ≡ answer s
unfolding send
result_answers s = told_answers _ _ _ _

pub after : ℕ → Sender → Sender
after zero s = s
after (suc n) s = after n (send_state s (reading s) (answer s))

pub calls : (n : ℕ) (s : Sender) → SendCalls s (after n s)
unfolding after
calls zero s = none
calls (suc n) s =
    call order (reading s) slice (record { state = send_state s (reading s) (answer s); answer = result s })
    (send_bytes s order slice (answer s)) (record { answers = result_answers s; state = refl; writes = refl })
    (calls n (send_state s (reading s) (answer s)))

pub reached : sent_blocks (calls 379 fresh) ≡ first_pair + later_pair * item_count 240 8
unfolding sent_blocks calls send sender_in_range marks_in_range is_length valid_length item_count fresh_sender transmit
reached = refl

pub finishes : (after 379 fresh).finished ≡ true
unfolding after send sender_in_range marks_in_range is_length valid_length item_count fresh_sender transmit
finishes = refl
