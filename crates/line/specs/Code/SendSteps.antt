-- What a sending call is given and does once it is not refused. Assumes nothing.
use Rattle.std.specs.Prelude.{◌≡◌, Bool, true, cond, not, ◌||◌, List, ℕ, ◌*◌, ◌≤◌, ◌<◌, length, Result, Ok, Err}
use Rattle.block.specs.Answer.{done}
use Rattle.block.specs.Lengths.{is_length, block_length}
use Rattle.block.specs.Calls.{too_short}
use Rattle.line.specs.Order.{valid_length}
use Rattle.line.specs.declared.sender.Setup.{Setup}
use Rattle.line.specs.declared.sender.Sender.{Sender}
use Rattle.line.specs.declared.Refusal.{Refusal}
use Rattle.line.specs.declared.Refusal.TheVariants as N
use Rattle.line.specs.declared.sender.Next.{Next}
use Rattle.line.specs.declared.sender.Step.{Step}
use Rattle.line.specs.Sending.{last_run, transmit, sender_in_range, gave_up, send_bytes, sent_answer}

-- what opening fixed, in range, and room for a block
pub record Writable (t : Setup) (slice : List ℕ) : Type 0 where
  pub known : is_length t.k ≡ true
  pub valid : valid_length t.length ≡ true
  pub room : block_length t.k ≤ 8 * length slice

-- a state in range that is not at rest for giving up
pub record GoingOn (s : Sender) : Type 0 where
  pub range : sender_in_range s ≡ true
  pub run : s.run < last_run

-- such a state, with the order lent whole and room for the block
pub record Lent (s : Sender) (order slice : List ℕ) : Type 0 where
  pub sender : GoingOn s
  pub order_lent : s.setup.length ≤ 8 * length order
  pub room : block_length s.setup.k ≤ 8 * length slice

-- what a call is refused for, if it is
abbrev pub judged : Sender → List ℕ → List ℕ → Result Unit Refusal
judged s order slice =
    cond (not (sender_in_range s)) (Err N.Spoiled)
    (cond (s.finished || gave_up s) (Err N.Rest)
    (cond (too_short order s.setup.length || too_short slice (block_length s.setup.k)) (Err N.Short) (Ok tt)))

-- the block that is next goes out
pub record Sends (s : Sender) (next : Next) (reading : Bool) (order slice : List ℕ) (result : Step) (slice' : List ℕ) : Type 0 where
  pub answers : sent_answer result.answer ≡ done (transmit s next reading).block
  pub state : result.state ≡ (transmit s next reading).state
  pub writes : slice' ≡ send_bytes s order slice (done (transmit s next reading).block)
