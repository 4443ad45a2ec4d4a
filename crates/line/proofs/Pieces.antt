-- A receiving call may be lent its bits in pieces. In search: Search; in step: Step; in any phase: Reception; any number of
-- calls: Calls. Assumes nothing.
pub mod Search
pub mod Step
pub mod Reception
pub mod Calls
use mathlib.Core.Path.{◌≡◌, ap, sym, ◌∙◌}
use native.Mathlib.Omega.{arith}
use Prim.Native.Nat.{◌*◌}
use lib.ListN.{length, length-take}
use borrow.Author.Tests.{ltb-false}
use Rattle.crc.specs.Bits.{bits_of}
use Rattle.crc.proofs.Bytes.{length-bits_of}
use Rattle.line.specs.Pieces.{lent, joined, total, Outcome, next_calls, Pieces}
use Rattle.line.proofs.Pieces.Calls.{Full, outcome, row_answer, receive_row, full_rest, next_calls_lem}

pub pieces : Pieces
unfolding Pieces
pieces s ready store whole first further array held counts bits =
    ap (outcome s store) (receive_row s ready store whole full ∙ ap (row_answer s ready store) bits)
    ∙ next_calls_lem s ready store array further (lent first) parts.1
    ∙ ap (λ (y : Outcome). next_calls y ready further) (ap (outcome s store) (sym (receive_row s ready store first parts.0)))
  where
    full : Full whole
    full =
        let n = ltb-false (8 * length whole.line) whole.count held in
        omega (arith, length-take whole.count (bits_of whole.line), length-bits_of whole.line)

    parts : Full first × (length (joined further) ≡ total further)
    parts = full_rest first further (ap length (sym bits) ∙ full ∙ counts)
