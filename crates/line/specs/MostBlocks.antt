-- How many blocks a sender sends at most, whatever it reads. Assumes nothing.
use Rattle.std.specs.Prelude.{ℕ, ◌+◌, ◌*◌, ◌≤◌, List, Option, Result, Ok, Err}
use Rattle.line.specs.Order.{item_count}
use Rattle.line.specs.Sending.{OpenSender}
use Rattle.line.specs.SendCalls.{SendCalls, none, call}
use Rattle.line.specs.declared.Refusal.{Refusal}
use Rattle.line.specs.declared.sender.Sender.{Sender}
use Rattle.line.specs.declared.sender.Sent.{Sent}

-- a call sends one block, or none where it is refused
abbrev pub blocks_of : Result Sent Refusal → ℕ
blocks_of (Ok x) = 1
blocks_of (Err r) = 0

unfoldable pub sent_blocks : {s t : Sender} → SendCalls s t → ℕ
sent_blocks none = 0
sent_blocks (call order reading slice result slice' p rest) = blocks_of result.answer + sent_blocks rest

-- The first pair, sent up to 64 times while opening lasts: 64 synchronising blocks, 64 older and 64 newer items.
abbrev pub first_pair : ℕ
first_pair = 192

-- A later pair, its older item confirmed before: 64 newer items, 63 older ones, and 60 synchronising blocks from the fourth
-- cancel on.
abbrev pub later_pair : ℕ
later_pair = 187

-- of an order of N items there are N later pairs, the last one of the two end blocks
unfoldable pub MostBlocks : Type 0
MostBlocks =
    (k speed loop_ms L : ℕ) (size : Option ℕ) (order : List ℕ) (s t : Sender) → OpenSender k speed loop_ms L size order (Ok s)
    → (calls : SendCalls s t) → sent_blocks calls ≤ first_pair + later_pair * item_count k L
