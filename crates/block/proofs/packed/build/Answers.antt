-- `build` keeps its promise: each refusal by its tests, in their order, and the block filled in. Assumes nothing.
use mathlib.Core.Path.{◌≡◌, ap, ◌∙◌}
use native.Mathlib.Omega.{arith}
use Prim.Native.Nat.{ℕ, ◌/◌, ◌+◌, ◌*◌}
use lib.ListN.{take}
use Rattle.crc.specs.Bits.{binary, bits_of}
use Rattle.block.specs.Block.{block_bits}
use Rattle.block.specs.Calls.{overwritten}
use Rattle.block.proofs.Refusals.{build_service, build_payload, build_slice, build_done}
use Rattle.block.proofs.packed.build.Goals as goal

pub returns-then-service-gt15 : goal.returns-then-service-gt15
returns-then-service-gt15 c = let a = c.args in
    build_service (8 * a.m) a.service a.payload.now a.block.now c.if-service-gt15.true

pub returns-then-payload-m : goal.returns-then-payload-m
returns-then-payload-m c = let a = c.args in
    build_payload (8 * a.m) a.service a.payload.now a.block.now c.if-service-gt15.false (omega arith)

pub returns-then-block-m : goal.returns-then-block-m
returns-then-block-m c = let a = c.args in
    build_slice (8 * a.m) a.service a.payload.now a.block.now c.if-service-gt15.false (omega arith) (omega arith)

pub returns : goal.returns
returns c = let a = c.args in
    let n : a.m ≡ 8 * a.m / 8 = omega arith in
    build_done (8 * a.m) a.service a.payload.now a.block.now c.if-service-gt15.false (omega arith) (omega arith) _
    (c.fill_block.ensures
    ∙ ap (λ (x : ℕ). overwritten (x + 3) (block_bits (binary 4 a.service) (take (8 * a.m) (bits_of a.payload.now))) a.block.now) n)
