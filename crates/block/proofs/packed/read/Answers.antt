-- `read` keeps its promise: both slices judged, then the check, then the data moved. Assumes nothing.
use mathlib.Core.Path.{◌≡◌, ap, ◌∙◌}
use mathlib.Core.List.{List, ◌++◌}
use Prim.Native.Nat.{ℕ, ◌*◌, ◌/◌}
use native.Mathlib.Omega.{arith}
use lib.ListN.{take, drop}
use Rattle.crc.specs.Bits.{bits_of}
use Rattle.block.specs.Lengths.{block_length}
use Rattle.block.specs.Block.{payload_of, verdict}
use Rattle.block.specs.Calls.{verdict_of, overwritten}
use Rattle.block.proofs.Packing.{row_judged}
use Rattle.block.proofs.Refusals.{data_bytes, read_slice, read_payload, read_kept, read-moved}
use Rattle.block.proofs.packed.read.Goals as goal
use Rattle.block.proofs.packed.read.Goals.{After-judged-answer}

pub returns-then-payload-m : goal.returns-then-payload-m
returns-then-payload-m c = let a = c.args in
    read_payload (8 * a.m) a.block.now a.payload.now (omega arith)

pub returns-then-block-m : goal.returns-then-block-m
returns-then-block-m c = let a = c.args in
    read_slice (8 * a.m) a.block.now a.payload.now (omega arith)

answered : (c : After-judged-answer)
    → verdict_of c.judged-answer.result ≡ verdict (take (block_length (8 * c.args.m)) (bits_of c.args.block.now))
answered c =
    let a = c.args in
    c.judged-answer.ensures
    ∙ row_judged (block_length (8 * a.m)) a.block.now _ (omega arith) (omega arith) (c.shared_slice_known-2-1.given 0).fits c.remainder_of.ensures

pub returns-in-Passed : goal.returns-in-Passed
returns-in-Passed c = let a = c.args in
    let n : a.m ≡ 8 * a.m / 8 = omega arith in
    read-moved (8 * a.m) a.block.now a.payload.now (omega arith) (omega arith) _ (answered (goal.at.returns-in-Passed c).After-judged-answer) c.in-Passed.in-Passed-own.keys1 _
    (c.shift_half.ensures
    ∙ ap (λ (l : List ℕ). l ++ drop a.m a.payload.now) (data_bytes a.m a.block.now a.payload.now (omega arith))
    ∙ ap (λ (x : ℕ). overwritten x (payload_of (8 * a.m) (bits_of a.block.now)) a.payload.now) n)

pub returns-in_default : goal.returns-in_default
returns-in_default c = let a = c.args in
    read_kept (8 * a.m) a.block.now a.payload.now (omega arith) (omega arith) _ (answered (goal.at.returns-in_default c).After-judged-answer) c.in_default.in_default-own.keys2
