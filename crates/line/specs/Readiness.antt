-- The machine's readiness: at ready the step to *wait* is the identity, and no call waits; not ready, only two rules wait, and a
-- call takes nothing and does not look at the store. The call that brings a block's last bit decides. Assumes nothing.
use Rattle.std.specs.Prelude.{◌≡◌, Bool, true, false, List, [], ℕ}
use Rattle.std.proofs.Math.Option.{none}
use Rattle.crc.specs.Bits.{Bits}
use Rattle.block.specs.Answer.{done}
use Rattle.line.specs.Receiving.{Rule, meaning, event_kind, judge, or_wait, block_rule, Reception, receive, receive_store}
use Rattle.line.specs.declared.receiver.Receiver.{Receiver}

-- the store as lent, the items and the end as they were
pub record TakesNothing (s : Receiver) (store : List ℕ) (x : Reception) : Type 0 where
  pub stored : receive_store s store (done x) ≡ store
  pub taken : x.state.taken ≡ s.taken
  pub ended : x.state.ended ≡ s.ended

pub record Readiness : Type 0 where
  -- ready: the step is the identity, a finished block's rule is the judging's, and no call waits
  pub at_ready : (rule : Rule) → or_wait true rule ≡ rule
  pub judged : (s : Receiver) (row : Bits)
      → block_rule s row true ≡ judge s.setup.marks.in_use s.setup.k s.taken s.ended row
  pub no_wait : (s : Receiver) (line : List ℕ) (count : ℕ) (store : List ℕ) (x : Reception)
      → receive s line count true store ≡ done x → (event_kind (meaning x.rule).event).wait ≡ false
  -- not ready: a rule that reports neither a new block nor the end stays; a call takes nothing, and answers the same whatever
  -- the store
  pub others : (rule : Rule) → (event_kind (meaning rule).event).new ≡ false → (event_kind (meaning rule).event).length ≡ none
      → or_wait false rule ≡ rule
  pub takes_nothing : (s : Receiver) (line : List ℕ) (count : ℕ) (store : List ℕ) (x : Reception)
      → receive s line count false store ≡ done x → TakesNothing s store x
  pub any_store : (s : Receiver) (line : List ℕ) (count : ℕ) (store store' : List ℕ)
      → receive s line count false store ≡ receive s line count false store'
  -- a call that completes no block, so that it has no row of n bits, comes to the same, ready or not
  pub undecided : (s : Receiver) (line : List ℕ) (count : ℕ) (ready ready' : Bool) (store : List ℕ) (x : Reception)
      → receive s line count ready store ≡ done x → x.row ≡ [] → receive s line count ready' store ≡ done x
