-- The worked examples, computed. Assumes nothing.
use Rattle.std.proofs.Common.{refl}
use Rattle.crc.specs.Bits.{binary, xor_bits}
use Rattle.crc.specs.Check.{remainder, passes, check}
use Rattle.block.specs.Block.{block_bits, cancelled}
use Rattle.noise.specs.Generator.{xor_left, xor_right, next_first, next, drawn}
use Rattle.noise.specs.Load.{span_load, load, places}
use Rattle.noise.specs.Examples.{Examples}

pub examples : Examples
unfolding xor_left xor_right next_first next drawn span_load load places binary xor_bits block_bits cancelled check remainder passes
examples =
    record {
      five_draws = refl;
      span = refl;
      seven_bits = refl;
      turned_over = refl;
      cancelled_fails = refl;
      restored = refl;
      passes_changed = refl;
      changed = refl;
    }
