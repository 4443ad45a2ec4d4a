-- What stands at *used after a receiving call that is not refused: at least one bit if any was lent, at most as many as were
-- lent, and all of them if an alarm stood in the state's bytes. Assumes nothing.
use Rattle.std.specs.Prelude.{◌≡◌, Bool, false, List, ℕ}
use Rattle.line.specs.BitsUsed.{Uses}
use Rattle.line_c.specs.State.{receiver_in}
use Rattle.line_c.specs.ReceiverCalls.{ReceiveCall}
use Rattle.line_c.specs.Refused.{is_refusal}

unfoldable pub UsedTold : Type 0
UsedTold =
    (state line : List ℕ) (count : ℕ) (ready : Bool) (store : List ℕ) (used len remainder result : ℕ) (state' store' : List ℕ)
    (used' len' remainder' : ℕ)
    → ReceiveCall state line count ready store used len remainder result state' store' used' len' remainder'
    → is_refusal result ≡ false → Uses (receiver_in state).phase count used'
