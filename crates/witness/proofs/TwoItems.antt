-- Orders of two data items, whose items 2 and 3 are end blocks: their stores, and block periods that several lists of calls
-- have. Assumes nothing.
use mathlib.Core.Bool.{Bool, true, false}
use mathlib.Core.List.{List, [], ◌∷◌, ◌++◌}
use Prim.Native.Nat.{ℕ}
use lib.ListN.{drop, replicate}
use Rattle.crc.specs.Bits.{Bits}
use Rattle.block.specs.Block.{sync_block, cancelled}
use Rattle.line.specs.Order.{order_bits, item_bits}
use Rattle.line.specs.Sending.{synchronising, item, fresh_sender}
use Rattle.line.specs.Receiving.{fresh_receiver, searching}
use Rattle.line.specs.Course.{World, opened}
use Rattle.line.specs.declared.sender.Next.{Next}
use Rattle.line.specs.declared.sender.Next.TheVariants.{Sync, Older, Newer}
use Rattle.line.specs.declared.receiver.Receiver.{Receiver}
use Rattle.line.specs.declared.receiving.Event.TheVariants as E
use Rattle.line.specs.declared.receiving.Phase.TheVariants as P
use Rattle.witness.proofs.PeriodRows.{Row, no_marks, sender, receiver, good, bad, period, damaged, cancelled_remainder, damaged_remainder}

-- ---- any such order

pub record Items : Type 0 where
  pub order : List ℕ
  pub L : ℕ
  -- the store as first lent, with item 0 in it, with both items in it
  pub initial_store : List ℕ
  pub one : List ℕ
  pub two : List ℕ

module _ (x : Items) where
  abbrev pub content_of : Bits
  content_of = order_bits x.L x.order

  abbrev pub block_of : ℕ → Bits
  block_of i = item_bits no_marks 240 x.L content_of i

  abbrev pub opened_of : World
  opened_of = opened (fresh_sender 240 x.L no_marks) (fresh_receiver 240 no_marks) x.initial_store

  -- the first period: a synchronising block, found; and the second: item 0, accepted
  abbrev pub synchronised : Row
  synchronised =
      period x.order x.initial_store x.initial_store true (sync_block 240) synchronising true true E.Sync
      (sender x.L 1 0 true Older false) (good 0 false)

  abbrev pub accepted : Row
  accepted =
      period x.order x.initial_store x.one false (block_of 0) (item 0 false false false) false true E.Accepted
      (sender x.L 1 0 true Newer false) (good 1 false)

  -- item 1 is damaged, and asked for again
  abbrev pub asks : Row
  asks =
      period x.order x.one x.one false (damaged (block_of 1)) (item 1 false true false) false false (E.Bad damaged_remainder)
      (sender x.L 2 0 false Newer false) (bad 1 1)

  -- item 2 is cancelled: the store, the return bit then standing, the run, what is next, and the receiver afterwards
  abbrev pub cancels : List ℕ → Bool → ℕ → Next → Receiver → Row
  cancels store back run next r =
      period x.order store store true (cancelled (block_of 2)) (item 2 true true true) back true (E.Bad cancelled_remainder)
      (sender x.L 2 run false next false) r

  -- item 1 comes again, and is accepted
  abbrev pub accepted_again : Row
  accepted_again =
      period x.order x.one x.two true (block_of 1) (item 1 false false false) true true E.Accepted
      (sender x.L 2 1 false Newer false) (good 2 false)

  -- item 2 brings the end: the return bit then standing
  abbrev pub ends : Bool → Row
  ends back =
      period x.order x.two x.two false (block_of 2) (item 2 true true false) back true (E.Ended x.L)
      (sender x.L 3 0 false Newer false) (good 2 true)

  -- item 3, the end again, and the sender is finished
  abbrev pub finishes : Row
  finishes =
      period x.order x.two x.two false (block_of 3) (item 3 true true false) false true E.Previous
      (sender x.L 3 0 false Newer true) (good 2 true)

-- ---- one of 60 bytes

abbrev pub order : List ℕ
order = replicate 30 1 ++ replicate 30 2

abbrev pub initial_store : List ℕ
initial_store = replicate 61 9

abbrev pub one : List ℕ
one = replicate 30 1 ++ replicate 31 9

abbrev pub two : List ℕ
two = replicate 30 1 ++ (replicate 30 2 ++ replicate 1 9)

abbrev pub sixty : Items
sixty = record { order = order; L = 480; initial_store = initial_store; one = one; two = two }

abbrev pub content : Bits
content = content_of sixty

abbrev pub block : ℕ → Bits
block = block_of sixty

abbrev pub w₀ : World
w₀ = opened_of sixty

-- item 1 is repeated, and damaged: the store, the run, and the receiver afterwards
abbrev pub fails : List ℕ → ℕ → Receiver → Row
fails store run r =
    period order store store true (damaged (block 1)) (item 1 false false false) true false (E.Bad damaged_remainder)
    (sender 480 2 run false Newer false) r

-- a search passes item 1 and a cancelled block, and finds a synchronising block: the store and the items taken
abbrev pub resynchronises : List ℕ → ℕ → List Row
resynchronises store taken =
    period order store store true (block 1) (item 1 false false false) true true E.None
    (sender 480 2 4 false Newer false) (searching (receiver 0 true taken false P.Search) (drop 245 (block 1)))
    ∷ period order store store true (cancelled (block 2)) (item 2 true true true) true true E.None
    (sender 480 2 5 false Sync false) (searching (receiver 0 true taken false P.Search) (drop 245 (cancelled (block 2))))
    ∷ period order store store true (sync_block 240) synchronising true true E.Sync
    (sender 480 2 5 false Older false) (good taken false)
    ∷ []
