-- Bits of two blocks lent in pieces, and in one call, each computed at k 240. Assumes nothing.
use mathlib.Core.Path.{◌≡◌, refl}
use mathlib.Core.Bool.{true, false}
use mathlib.Core.List.{List, [], ◌∷◌, ◌++◌}
use lib.ListN.{take, drop, replicate}
use Rattle.crc.specs.Bits.{Bits, bytes_of}
use Rattle.block.specs.Answer.{done}
use Rattle.block.specs.Block.{sync_block}
use Rattle.line.specs.Order.{letter_a, letter_b}
use Rattle.line.specs.Receiving.{sequence_found, accepts, waits, blank}
use Rattle.line.specs.Pieces.{Piece, call, Pieces}
use Rattle.line.specs.declared.receiver.Receiver.{Receiver}
use Rattle.line.specs.declared.receiving.Phase.TheVariants as P
use Rattle.line.proofs.Delivery.WrittenBits.{length-zero_array}
use Rattle.line.proofs.Pieces.{pieces}
use Rattle.witness.proofs.PeriodRows.{received, receiver, good, zero_block}

-- ---- in search: the end of a data block and 20 bits of the synchronising block behind it, then the rest of that

abbrev searches : Receiver
searches = receiver 0 true 2 false P.Search

abbrev earlier : Bits
earlier = drop 200 (zero_block letter_b) ++ take 20 (sync_block 240)

abbrev all : Piece
all = record { line = bytes_of 40 (earlier ++ drop 20 (sync_block 240)); count = 320 }

-- found at the last bit
pub search_split : call searches true [] all
    ≡ record { answer = done (record { rule = sequence_found; row = []; used = 320; state = blank searches 0 false 2 false P.InStep }); store = [] }
unfolding Pieces received
search_split =
    pieces searches true [] all (record { line = bytes_of 10 earlier; count = 80 })
    (record { line = bytes_of 30 (drop 20 (sync_block 240)); count = 240 } ∷ [])
    length-zero_array refl refl refl

-- ---- in step: 100 bits of a data block, its other 160, and 40 bits of the block behind it, which are not looked at

abbrev stepping : Receiver
stepping = good 0 false

abbrev first : Piece
first = record { line = bytes_of 13 (take 100 (zero_block letter_a)); count = 100 }

abbrev further : List Piece
further =
    record { line = bytes_of 20 (drop 100 (zero_block letter_a)); count = 160 }
    ∷ record { line = bytes_of 5 (take 40 (zero_block letter_b)); count = 40 }
    ∷ []

abbrev joint : Piece
joint = record { line = bytes_of 38 (zero_block letter_a ++ take 40 (zero_block letter_b)); count = 300 }

-- accepted and stored at the block's last bit
pub step_split : call stepping true (replicate 30 255) joint
    ≡ record {
      answer = done (record { rule = accepts; row = zero_block letter_a; used = 260; state = blank stepping 0 false 1 false P.InStep });
      store = replicate 30 0;
    }
unfolding Pieces received
step_split = pieces stepping true (replicate 30 255) joint first further length-zero_array refl refl refl

-- the machine not ready, it waits at that bit, and nothing is stored
pub wait_split : call stepping false (replicate 30 255) joint
    ≡ record {
      answer = done (record { rule = waits; row = zero_block letter_a; used = 260; state = blank stepping 0 true 0 false P.InStep });
      store = replicate 30 255;
    }
unfolding Pieces received
wait_split = pieces stepping false (replicate 30 255) joint first further length-zero_array refl refl refl
