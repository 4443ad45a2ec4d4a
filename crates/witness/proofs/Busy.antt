-- The machine is not ready for a block: item 1 and the end wait, and are taken later; six periods in a row that are undisturbed
-- but for waits bring nothing; a machine that is never ready makes the sender give up. Assumes nothing.
use mathlib.Core.Path.{◌≡◌, refl, ap, ap₂, ◌∙◌}
use mathlib.Core.Bool.{Bool, true, false, not, ◌&&◌, ◌||◌, beq}
use mathlib.Core.List.{List, [], ◌∷◌, ◌++◌}
use native.Mathlib.Omega.{arith}
use Prim.Native.Nat.{ℕ, zero, suc, ◌+◌, ◌<◌, ◌≤◌}
use lib.Dec.{eqb}
use lib.ListN.{length, take, drop, replicate}
use borrow.Author.Tests.{eqb-true, not-false, le-leb, ne_eqb}
use Rattle.crc.specs.Bits.{Bits}
use Rattle.block.specs.Answer.{Answer, refused, done}
use Rattle.block.specs.Lengths.{is_length, block_length}
use Rattle.block.specs.Block.{sync_block, cancelled}
use Rattle.block.proofs.Truth.{and_true, or-false}
use Rattle.line.specs.Refusals as Refusals
use Rattle.line.specs.Marks.{marks_in_range}
use Rattle.line.specs.Order.{valid_length, item_count}
use Rattle.line.specs.Sending.{Block, synchronising, item, last_run, transmit, sender_in_range, gave_up, send}
use Rattle.line.specs.Course.{Call, sending, World, Sent, Entry, on_sent, send_entry, send_after, course, final}
use Rattle.line.specs.Delivery.{All, some, is_new, is_end, is_alarm, is_lost, Assumptions, Period, group, used_bits, brings, progress_periods}
use Rattle.line.specs.declared.sender.Sender.{Sender}
use Rattle.line.specs.declared.sender.Next.{Next}
use Rattle.line.specs.declared.sender.Next.TheVariants.{Sync, Older, Newer}
use Rattle.line.specs.declared.receiver.Receiver.{Receiver}
use Rattle.line.specs.declared.receiving.Event.{Event}
use Rattle.line.specs.declared.receiving.Event.TheVariants as E
use Rattle.line.proofs.Delivery.Prefixes.{course-append, final-append}
use Rattle.witness.proofs.Meets.{same_bits, same_bit, same_bits_lem, unmet, meets, meets_unlost}
use Rattle.witness.proofs.PeriodRows.{Row, all_calls, trace, sender, good, bad, waited, between, period, period_with, cancelled_remainder}
use Rattle.witness.proofs.TwoItems.{order, content, block, initial_store, one, two, w₀, sixty, synchronised, accepted, cancels, accepted_again, finishes}

-- A period in which the machine is not ready, undisturbed otherwise: the store; the return bit, which is also the reading; the
-- bits sent, which also arrive; the block, the event, and the states afterwards.
abbrev busy : List ℕ → Bool → Bits → Block → Event → Sender → Receiver → Row
busy store back bits b event s r = period_with false order store store back bits b back true event s r

-- ---- blocks that wait, and are taken later

-- item 3 is cancelled: the run afterwards
abbrev last_cancelled : ℕ → Row
last_cancelled run =
    busy two true (cancelled (block 3)) (item 3 true true true) (E.Bad cancelled_remainder)
    (sender 480 3 run false Older false) (bad 1 2)

-- Item 1 waits, and is accepted when it comes again. The end waits, waits again, and is then taken.
abbrev pub waits : List Row
waits =
    synchronised sixty
    ∷ accepted sixty
    ∷ busy one false (block 1) (item 1 false true false) E.Wait (sender 480 2 0 false Newer false) (waited 1)
    ∷ cancels sixty one true 1 Older (bad 1 1)
    ∷ accepted_again sixty
    ∷ busy two false (block 2) (item 2 true true false) E.Wait (sender 480 3 0 false Newer false) (waited 2)
    ∷ last_cancelled 1
    ∷ busy two true (block 2) (item 2 true false false) E.Wait (sender 480 3 1 false Newer false) (waited 2)
    ∷ last_cancelled 2
    ∷ period order two two true (block 2) (item 2 true false false) true true (E.Ended 480)
    (sender 480 3 2 false Newer false) (good 2 true)
    ∷ finishes sixty
    ∷ []

pub waits_computed : trace w₀ waits ≡ waits
unfolding trace
waits_computed = refl

pub waits_meets : Assumptions 240 content (course w₀ (all_calls waits))
unfolding trace
waits_meets = meets 240 content (course w₀ (all_calls waits)) refl

-- ---- a machine that is never ready: turns of three periods, by the run before them

-- a synchronising block is found, item 0 waits, and item 1 is cancelled
abbrev sync_found : ℕ → Row
sync_found run = busy initial_store true (sync_block 240) synchronising E.Sync (sender 480 1 run true Older false) (good 0 false)

abbrev data_waits : ℕ → Row
data_waits run = busy initial_store false (block 0) (item 0 false false false) E.Wait (sender 480 1 run true Newer false) (waited 0)

abbrev next-cancelled : ℕ → Row
next-cancelled run =
    busy initial_store true (cancelled (block 1)) (item 1 false true true) (E.Bad cancelled_remainder)
    (sender 480 1 (run + 1) true Sync false) (bad 1 0)

abbrev turn : ℕ → List Row
turn run = sync_found run ∷ data_waits run ∷ next-cancelled run ∷ []

abbrev pub two_turns : List Row
two_turns = turn 0 ++ turn 1

pub two_turns_computed : trace w₀ two_turns ≡ two_turns
unfolding trace
two_turns_computed = refl

-- the calls, which are the same at every run
abbrev calls : List Call
calls = all_calls (turn 0)

abbrev times : {A : Type 0} → ℕ → List A → List A
times zero x = []
times (suc n) x = x ++ times n x

abbrev pub turns : ℕ → List Call
turns n = times n calls

-- ---- what a turn does

-- the world behind one
abbrev behind : ℕ → World
behind run = between (sender 480 1 run true Sync false) (bad 1 0) initial_store (item 1 false true true)

-- what the first does, and what each other does
abbrev first : List Entry
first = course w₀ calls

abbrev later : List Entry
later = course (behind 1) calls

-- what calls do, and the world behind them
abbrev told : World → List Call → List Entry × World
told w cs = (course w cs, final w cs)

abbrev onto : List Entry → List Entry × World → List Entry × World
onto es x = (es ++ x.0, x.1)

told_append : (w : World) (a b : List Call) → told w (a ++ b) ≡ onto (course w a) (told (final w a) b)
told_append w a b = ap₂ (λ (es : List Entry) (v : World). (es, v)) (course-append w a b) (final-append w a b)

abbrev slice : List ℕ
slice = replicate 33 0

-- a sending call that is not refused, and further calls
told_sent : (w : World) (reading : Bool) (arrives : Bits) (further : List Call) (b : Block) → send w.sender order reading slice ≡ done b
    → told w (sending order reading slice arrives ∷ further)
    ≡ onto (send_entry w order reading arrives (done b) ∷ []) (told (send_after w reading arrives (done b)) further)
told_sent w reading arrives further b =
    ap (λ (a : Answer Block). onto (send_entry w order reading arrives a ∷ []) (told (send_after w reading arrives a) further))

module _ (run : ℕ) (below : run < last_run) where
  sends : (next : Next) (reading : Bool) →
      let s = sender 480 1 run true next false in send s order reading slice ≡ done (transmit s next reading).block
  unfolding send sender_in_range is_length valid_length marks_in_range item_count
  sends next reading = rw (le-leb run last_run (omega (arith, below)), ne_eqb run last_run (omega (arith, below)))

  -- the same at every run, which grows by one
  told_turn : told (behind run) calls ≡ (later, behind (run + 1))
  unfolding trace
  told_turn =
      told_sent (behind run) true (sync_block 240) (drop 1 calls) synchronising (sends Sync true)
      ∙ ap (onto (course (behind 1) (take 2 calls)))
      (told_sent (sync_found run).world false (block 0) (drop 3 calls) (item 0 false false false) (sends Older false))
      ∙ ap (onto (course (behind 1) (take 4 calls)))
      (told_sent (data_waits run).world true (cancelled (block 1)) (drop 5 calls) (item 1 false true true) (sends Newer true))

told_turns : (n run : ℕ) → run + n ≤ last_run → told (behind run) (turns n) ≡ (times n later, behind (run + n))
told_turns zero run h = ap (λ (m : ℕ). ([], behind m)) (omega arith)
told_turns (suc n) run h =
    told_append (behind run) calls (turns n)
    ∙ ap (λ (x : List Entry × World). onto x.0 (told x.1 (turns n))) (told_turn run (omega (arith, h)))
    ∙ ap (onto later) (told_turns n (run + 1) (omega (arith, h)))
    ∙ ap (λ (m : ℕ). (times (suc n) later, behind m)) (omega arith)

-- the first finds its synchronising block in search
first_turn_lem : final w₀ calls ≡ behind 1
unfolding trace
first_turn_lem = refl

told_all : (n : ℕ) → 1 + n ≤ last_run → told w₀ (turns (suc n)) ≡ (first ++ times n later, behind (1 + n))
told_all n h =
    told_append w₀ calls (turns n)
    ∙ ap (λ (w : World). onto first (told w (turns n))) first_turn_lem
    ∙ ap (onto first) (told_turns n 1 h)

-- ---- what no call of any turn does

none_append : (f : Entry → Bool) (a b : List Entry) → some f a ≡ false → some f b ≡ false → some f (a ++ b) ≡ false
none_append f [] b h g = g
none_append f (e ∷ a) b h g = let p = or-false (f e) (some f a) h in ap₂ ◌||◌ p.0 (none_append f a b p.1 g)

none_times : (f : Entry → Bool) (n : ℕ) (es : List Entry) → some f es ≡ false → some f (times n es) ≡ false
none_times f zero es h = refl
none_times f (suc n) es h = none_append f es (times n es) h (none_times f n es h)

abbrev pub any : List (Entry → Bool) → Entry → Bool
any [] e = false
any (f ∷ fs) e = f e || any fs e

none_either : (f g : Entry → Bool) (es : List Entry) → some (λ e. f e || g e) es ≡ false → (some f es ≡ false) × (some g es ≡ false)
none_either f g [] h = (refl, refl)
none_either f g (e ∷ es) h =
    let a = or-false (f e || g e) (some (λ x. f x || g x) es) h in
    let b = or-false (f e) (g e) a.0 in
    let c = none_either f g es a.1 in
    (ap₂ ◌||◌ b.0 c.0, ap₂ ◌||◌ b.1 c.1)

none_each : (fs : List (Entry → Bool)) (es : List Entry) → some (any fs) es ≡ false → All (λ (f : Entry → Bool). some f es ≡ false) fs
none_each [] es h = tt
none_each (f ∷ fs) es h = let a = none_either f (any fs) es h in (a.0, none_each fs es a.1)

-- the reading is the return bit, and the copy is as sent
abbrev calm : Sent → Bool
calm x = beq x.reading x.back && same_bits x.arrives x.bits

pub record Uneventful (es : List Entry) : Type 0 where
  pub none_new : some is_new es ≡ false
  pub no_end : some is_end es ≡ false
  pub no_alarm : some is_alarm es ≡ false
  pub none_lost : some is_lost es ≡ false
  pub all_calm : some (on_sent false (λ x. not (calm x))) es ≡ false
  pub assumptions : Assumptions 240 content es

abbrev pub events : List (Entry → Bool)
events = is_new ∷ is_end ∷ is_alarm ∷ is_lost ∷ on_sent false (λ x. not (calm x)) ∷ unmet 240 content ∷ []

pub without_events : (es : List Entry) → some (any events) es ≡ false → Uneventful es
without_events es h =
    let none = none_each events es h in
    record {
      none_new = none.0;
      no_end = none.1.0;
      no_alarm = none.1.1.0;
      none_lost = none.1.1.1.0;
      all_calm = none.1.1.1.1.0;
      assumptions = meets_unlost 240 content es none.1.1.1.1.1.0 none.1.1.1.0;
    }

in_first : some (any events) first ≡ false
unfolding trace
in_first = refl

in_later : some (any events) later ≡ false
unfolding trace
in_later = refl

in_all : (n : ℕ) → 1 + n ≤ last_run → some (any events) (course w₀ (turns (suc n))) ≡ false
in_all n h =
    ap (λ (x : List Entry × World). some (any events) x.0) (told_all n h)
    ∙ none_append (any events) first (times n later) in_first (none_times (any events) n later in_later)

uneventful : (n : ℕ) → 1 + n ≤ last_run → Uneventful (course w₀ (turns (suc n)))
uneventful n h = without_events (course w₀ (turns (suc n))) (in_all n h)

-- ---- two turns: six periods that are undisturbed but for waits

-- what `Undisturbed` asks, but that no block waits
pub record ButForWaits (p : Period) : Type 0 where
  pub reading : p.start.reading ≡ p.start.back
  pub as_sent : p.start.arrives ≡ p.start.bits
  pub all_used : used_bits p.calls ≡ block_length 240

abbrev disturbed : Period → Bool
disturbed p = not (calm p.start && eqb (used_bits p.calls) (block_length 240))

but_for_waits : (p : Period) → disturbed p ≡ false → ButForWaits p
but_for_waits p h =
    let a = and_true _ _ (not-false _ h) in
    let b = and_true _ _ a.0 in
    record {
      reading = same_bit p.start.reading p.start.back b.0;
      as_sent = same_bits_lem p.start.arrives p.start.bits b.1;
      all_used = eqb-true (used_bits p.calls) (block_length 240) a.1;
    }

all_but_for_waits : (ps : List Period) → some disturbed ps ≡ false → All ButForWaits ps
all_but_for_waits [] h = tt
all_but_for_waits (p ∷ ps) h =
    let a = or-false (disturbed p) (some disturbed ps) h in
    (but_for_waits p a.0, all_but_for_waits ps a.1)

-- All that `Guarantees` supposes of six periods in a row but that, and they bring neither a new block nor the end.
pub record NoProgress (es : List Entry) (w : World) : Type 0 where
  pub uneventful : Uneventful es
  pub not_given_up : gave_up w.sender ≡ false
  pub six : length (group es).periods ≡ progress_periods
  pub but_for_waits : All ButForWaits (group es).periods
  pub nothing : brings (λ e. is_new e || is_end e) (group es).periods ≡ false

pub no_progress : NoProgress (course w₀ (all_calls two_turns)) (final w₀ (all_calls two_turns))
unfolding trace
no_progress =
    record {
      uneventful = uneventful 1 (omega arith);
      not_given_up = refl;
      six = refl;
      but_for_waits = all_but_for_waits (group (course w₀ (all_calls two_turns))).periods refl;
      nothing = refl;
    }

-- ---- 64 turns: the sender gives up

-- it sends nothing more, and the store is as it was first lent
pub record GivenUp (es : List Entry) (w : World) : Type 0 where
  pub uneventful : Uneventful es
  pub gave_up_lem : gave_up w.sender ≡ true
  pub rests : (lent : List ℕ) (reading : Bool) (room : List ℕ) → send w.sender lent reading room ≡ refused Refusals.rest
  pub untouched : w.store ≡ initial_store

pub never_ready : GivenUp (course w₀ (turns 64)) (final w₀ (turns 64))
unfolding send sender_in_range is_length valid_length marks_in_range item_count
never_ready =
    let world : final w₀ (turns 64) ≡ behind 64 = ap (λ (x : List Entry × World). x.1) (told_all 63 (omega arith)) in
    record {
      uneventful = uneventful 63 (omega arith);
      gave_up_lem = ap (λ (w : World). gave_up w.sender) world;
      rests = λ lent reading room. ap (λ (w : World). send w.sender lent reading room) world;
      untouched = ap (λ (w : World). w.store) world;
    }

pub not_before : gave_up (final w₀ (turns 63)).sender ≡ false
not_before = ap (λ (x : List Entry × World). gave_up x.1.sender) (told_all 62 (omega arith))
