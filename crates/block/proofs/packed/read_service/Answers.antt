-- `read_service` keeps its promise: it is refused as the check is, and judges the check's remainder by zero. Assumes nothing.
use mathlib.Core.Path.{◌≡◌, sym, ap, ◌∙◌}
use Prim.Native.Nat.{◌*◌, ◌<◌}
use native.Mathlib.Omega.{arith}
use lib.ListN.{length, take}
use Rattle.crc.specs.Bits.{bits_of}
use Rattle.crc.specs.Check.{remainder}
use Rattle.block.specs.Answer.{done}
use Rattle.block.specs.Lengths.{block_length}
use Rattle.block.specs.Block.{verdict}
use Rattle.std.proofs.lemmas.Result.{err_from_is_err_and}
use Rattle.block.specs.Calls.{checked_answer}
use Rattle.block.specs.Packed.{service_packed}
use Rattle.block.proofs.Refusals.{service_refused, service_checked}
use Rattle.block.proofs.Packing.{row_judged}
use Rattle.block.proofs.packed.read_service.Goals as goal
use Rattle.block.proofs.packed.read_service.Goals.{In_ok-remainder}

-- what a remainder handed over says
checked : (c : In_ok-remainder)
    → (c.in_ok-remainder.remainder ≡ remainder (take (block_length (8 * c.args.m)) (bits_of c.args.block.now)))
    × (0 < length c.args.block.now)
    × (service_packed (8 * c.args.m) c.args.block.now ≡ done (verdict (take (block_length (8 * c.args.m)) (bits_of c.args.block.now))))
checked c =
    service_checked _ _ _ (sym c.check.ensures.answers ∙ ap checked_answer c.in_ok-remainder.was)

pub bounds-block-0 : goal.bounds-block-0
bounds-block-0 c = (checked (goal.at.bounds-block-0 c).In_ok-remainder).1

pub returns : goal.returns
returns c = let a = c.args in
    let f = checked (goal.at.returns c).In_ok-remainder in
    record {
      answers = ap done
          (c.judged.ensures ∙ row_judged (block_length (8 * a.m)) a.block.now _ (omega arith) f.1 (c.shared_slice_known-2-1.given 0).fits f.0)
          ∙ sym f.2;
    }

pub returns-in_err-remainder : goal.returns-in_err-remainder
returns-in_err-remainder c = let a = c.args in
    let p = err_from_is_err_and c.from_residual.result c.from_residual.ensures.1 in
    rw (p.1, p.2)
    record { answers = sym (service_refused (8 * a.m) a.block.now _ (sym c.check.ensures.answers ∙ ap checked_answer c.in_err-remainder.was)) }
