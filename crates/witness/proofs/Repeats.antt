-- Lists of calls that lose no request: a damaged block with its cancel and repeat; a search and resynchronising.
-- Assumes nothing.
use mathlib.Core.Path.{◌≡◌, refl}
use mathlib.Core.Bool.{true, false}
use mathlib.Core.List.{List, [], ◌∷◌, ◌++◌}
use lib.ListN.{drop}
use Rattle.block.specs.Block.{sync_block, cancelled}
use Rattle.line.specs.Receiving.{searching}
use Rattle.line.specs.Sending.{synchronising, item}
use Rattle.line.specs.Course.{course}
use Rattle.line.specs.Delivery.{Assumptions}
use Rattle.line.specs.declared.sender.Next.TheVariants.{Sync, Older, Newer}
use Rattle.line.specs.declared.receiving.Event.TheVariants as E
use Rattle.line.specs.declared.receiving.Phase.TheVariants as P
use Rattle.witness.proofs.Meets.{meets}
use Rattle.witness.proofs.PeriodRows.{Row, all_calls, trace, sender, receiver, good, bad, period}
use Rattle.witness.proofs.TwoItems.{Items, order, content, block, one, two, w₀, sixty, synchronised, accepted, asks, cancels, fails, resynchronises, accepted_again, ends, finishes}

-- ---- any order of two data items

module _ (x : Items) where
  -- Item 1 is damaged, and the next block is cancelled.
  abbrev asked : List Row
  asked = synchronised x ∷ accepted x ∷ asks x ∷ cancels x x.one true 1 Older (bad 2 1) ∷ []

  -- Item 1 is repeated.
  abbrev pub repeats : List Row
  repeats = asked ++ (accepted_again x ∷ ends x false ∷ finishes x ∷ [])

-- ---- the order of 60 bytes

pub repeats_computed : trace w₀ (repeats sixty) ≡ repeats sixty
unfolding trace
repeats_computed = refl

pub repeats_meets : Assumptions 240 content (course w₀ (all_calls (repeats sixty)))
unfolding trace
repeats_meets = meets 240 content (course w₀ (all_calls (repeats sixty))) refl

-- Eight bad blocks in a row start a search. It passes a damaged synchronising block, item 1 and a cancelled block, and
-- finds the next synchronising block.
abbrev pub searches : List Row
searches =
    asked sixty
    ++ (fails one 1 (bad 3 1)
    ∷ cancels sixty one true 2 Older (bad 4 1)
    ∷ fails one 2 (bad 5 1)
    ∷ cancels sixty one true 3 Older (bad 6 1)
    ∷ fails one 3 (bad 7 1)
    ∷ cancels sixty one true 4 Sync (receiver 0 true 1 false P.Search)
    ∷ period order one one true (cancelled (sync_block 240)) synchronising true false E.None
    (sender 480 2 4 false Older false) (searching (receiver 0 true 1 false P.Search) (drop 245 (cancelled (sync_block 240))))
    ∷ (resynchronises one 1
    ++ (period order one two false (block 1) (item 1 false false false) false true E.Accepted
    (sender 480 2 5 false Newer false) (good 2 false)
    ∷ ends sixty false
    ∷ [])))

pub searches_computed : trace w₀ searches ≡ searches
unfolding trace
searches_computed = refl

pub searches_meets : Assumptions 240 content (course w₀ (all_calls searches))
unfolding trace
searches_meets = meets 240 content (course w₀ (all_calls searches)) refl
