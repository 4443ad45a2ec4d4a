-- How many of the bits lent a receiving call uses: at least one, so that calls which are lent again what was not used come to an
-- end; under a standing alarm all of them. Assumes nothing.
use Rattle.std.specs.Prelude.{◌≡◌, Bool, true, false, List, ℕ, suc, ◌-◌, ◌≤◌}
use Rattle.block.specs.Answer.{done}
use Rattle.line.specs.Receiving.{Reception, receive}
use Rattle.line.specs.declared.receiver.Receiver.{Receiver}
use Rattle.line.specs.declared.receiving.Phase.{Phase}
use Rattle.line.specs.declared.receiving.Phase.TheVariants as P

abbrev pub alarm_stands : Phase → Bool
alarm_stands P.Search = false
alarm_stands P.InStep = false
alarm_stands P.SequenceAlarm = true
alarm_stands P.LengthAlarm = true

-- the phase before the call, the number of bits lent, and the number of those used
pub record Uses (phase : Phase) (count used : ℕ) : Type 0 where
  pub at_least_one : 1 ≤ count → 1 ≤ used
  pub at_most_lent : used ≤ count
  pub under_alarm : alarm_stands phase ≡ true → used ≡ count
  pub of_none : count ≡ 0 → used ≡ 0

-- Calls that are not refused, each on the state that the one before handed back and lent as many bits as that one left, whatever
-- the line's bytes, the readiness and the store: the first state and the bits lent there, the number of calls, the bits left.
pub data LentAgain : Receiver → ℕ → ℕ → ℕ → Type 0 where
  no_call : {s : Receiver} {left : ℕ} → LentAgain s left 0 left
  call : {s : Receiver} {count calls left : ℕ} (line : List ℕ) (ready : Bool) (store : List ℕ) (x : Reception)
      → receive s line count ready store ≡ done x → LentAgain x.state (count - x.used) calls left
      → LentAgain s count (suc calls) left

pub record BitsUsed : Type 0 where
  -- of every call that is not refused
  pub uses : (s : Receiver) (line : List ℕ) (count : ℕ) (ready : Bool) (store : List ℕ) (x : Reception)
      → receive s line count ready store ≡ done x → Uses s.phase count x.used
  -- after as many calls as bits were lent, if not before, nothing is left
  pub nothing_left : (s : Receiver) (count calls left : ℕ) → LentAgain s count calls left → count ≤ calls → left ≡ 0
