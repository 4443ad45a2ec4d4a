-- What the sending end promises is met by calls that go through: an order of eight bits is sent to its end, and a sender
-- that is always asked to repeat gives up. Assumes nothing.
use mathlib.Core.Path.{◌≡◌, refl}
use mathlib.Core.Bool.{Bool, true, false}
use mathlib.Core.List.{List, [], ◌∷◌}
use Prim.Native.Nat.{ℕ, zero, suc}
use lib.ListN.{replicate}
use Rattle.std.proofs.Common.{None}
use Rattle.block.specs.Answer.{Answer, done}
use Rattle.block.specs.Lengths.{is_length}
use Rattle.line.specs.LoopTime.{is_speed, block_time, has_entry, longest_loop, loop_time}
use Rattle.line.specs.Marks.{marks_of, marks_in_range}
use Rattle.line.specs.Order.{valid_length, item_count}
use Rattle.line.specs.Sending.{fresh_sender, open_sender, Block, synchronising, item, transmit, sender_in_range, gave_up, send, send_state}
use Rattle.line.specs.declared.sender.Sender.{Sender}

abbrev pub order : List ℕ
order = 0xa5 ∷ []

abbrev pub slice : List ℕ
slice = replicate 33 0

abbrev pub fresh : Sender
fresh = fresh_sender 240 8 (marks_of None)

pub opens : open_sender 240 200 0 8 None order ≡ done fresh
unfolding open_sender marks_in_range loop_time is_length is_speed has_entry longest_loop block_time
opens = refl

-- the state after n calls on the same reading
unfoldable pub after : ℕ → Bool → Sender → Sender
unfolding send sender_in_range marks_in_range is_length valid_length item_count fresh_sender transmit
after zero reading s = s
after (suc n) reading s = after n reading (send_state s reading (send s order reading slice))

-- what n calls on readings of 0 answer
abbrev answers : ℕ → Sender → List (Answer Block)
answers zero s = []
answers (suc n) s =
    let a = send s order false slice in
    a ∷ answers n (send_state s false a)

-- on readings of 0: a synchronising block, item 0 and the two end blocks
pub sends_all :
    answers 4 fresh
    ≡ done synchronising ∷ done (item 0 false false false) ∷ done (item 1 true true false) ∷ done (item 2 true true false) ∷ []
unfolding after
sends_all = refl

pub finishes : (after 4 false fresh).finished ≡ true
unfolding after
finishes = refl

-- on readings of 1: the opening lasts, and each third call is a cancel
pub gives_up : gave_up (after 192 true fresh) ≡ true
unfolding after
gives_up = refl

pub not_before : gave_up (after 191 true fresh) ≡ false
unfolding after
not_before = refl
