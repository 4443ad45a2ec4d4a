-- Why a good block between two losses is needed: the list of docs/PROTOCOL.md, which meets all else and stores item 4 as
-- item 1. Assumes nothing.
use mathlib.Core.Path.{◌≡◌, refl}
use mathlib.Core.Bool.{true, false}
use mathlib.Core.List.{List, [], ◌∷◌, ◌++◌}
use Prim.Native.Nat.{ℕ}
use lib.ListN.{replicate}
use Rattle.crc.specs.Bits.{Bits}
use Rattle.block.specs.Block.{sync_block}
use Rattle.line.specs.Order.{order_bits, item_bits}
use Rattle.line.specs.Sending.{synchronising, item, fresh_sender}
use Rattle.line.specs.Receiving.{fresh_receiver}
use Rattle.line.specs.Course.{World, opened, course, final}
use Rattle.line.specs.Delivery.{All}
use Rattle.line.specs.declared.sender.Next.TheVariants.{Older, Newer}
use Rattle.line.specs.declared.receiving.Event.TheVariants as E
use Rattle.line.proofs.Delivery.BetweenLosses.{BetweenLosses}
use Rattle.witness.proofs.Meets.{Met, breaks}
use Rattle.witness.proofs.PeriodRows.{Row, all_calls, trace, no_marks, sender, good, bad, period, damaged, damaged_remainder}

-- five data items
abbrev order : List ℕ
order = replicate 30 1 ++ (replicate 30 2 ++ (replicate 30 3 ++ (replicate 30 4 ++ replicate 30 5)))

abbrev content : Bits
content = order_bits 1200 order

abbrev block : ℕ → Bits
block i = item_bits no_marks 240 1200 content i

-- the store as first lent, and with item 0 in it
abbrev initial_store : List ℕ
initial_store = replicate 150 0

abbrev one : List ℕ
one = replicate 30 1 ++ replicate 120 0

-- and with item 4 where item 1 belongs
abbrev wrong : List ℕ
wrong = replicate 30 1 ++ (replicate 30 5 ++ replicate 90 0)

abbrev pub w₀ : World
w₀ = opened (fresh_sender 240 1200 no_marks) (fresh_receiver 240 no_marks) initial_store

-- Item 1 is damaged, item 2 too, and its reading lost; item 3 arrives whole with its reading lost, and passes as previous.
abbrev pub moved : List Row
moved =
    period order initial_store initial_store true (sync_block 240) synchronising true true E.Sync
    (sender 1200 1 0 true Older false) (good 0 false)
    ∷ period order initial_store one false (block 0) (item 0 false false false) false true E.Accepted
    (sender 1200 1 0 true Newer false) (good 1 false)
    ∷ period order one one false (damaged (block 1)) (item 1 false true false) false false (E.Bad damaged_remainder)
    (sender 1200 2 0 false Newer false) (bad 1 1)
    ∷ period order one one false (damaged (block 2)) (item 2 false true false) true false (E.Bad damaged_remainder)
    (sender 1200 3 0 false Newer false) (bad 2 1)
    ∷ period order one one false (block 3) (item 3 false true false) true true E.Previous
    (sender 1200 4 0 false Newer false) (good 1 false)
    ∷ period order one wrong false (block 4) (item 4 false true false) false true E.Accepted
    (sender 1200 5 0 false Newer false) (good 2 false)
    ∷ []

pub moved_computed : trace w₀ moved ≡ moved
unfolding trace
moved_computed = refl

-- that clause alone is broken
pub moved_breaks : All (Met 240 content) (course w₀ (all_calls moved)) × (BetweenLosses (course w₀ (all_calls moved)) → ⊥)
unfolding trace
moved_breaks = breaks 240 content (course w₀ (all_calls moved)) refl

pub moved_stored : (final w₀ (all_calls moved)).store ≡ wrong
unfolding trace
moved_stored = refl
