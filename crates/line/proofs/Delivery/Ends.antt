-- The two ends at block level: what one sending call and the reading of one block do to the numbers that matter, and the
-- invariant over them. Truth values are 0 and 1, so that every clause is linear. Assumes nothing.
use mathlib.Core.Path.{◌≡◌}
use mathlib.Core.Logic.{◌⊎◌}
use Prim.Native.Nat.{ℕ, ◌+◌, ◌*◌, ◌≤◌, ◌<◌}
use Rattle.line.specs.declared.sender.Next.{Next}
use Rattle.line.specs.declared.sender.Next.TheVariants.{Sync, Older, Newer}
use Rattle.line.specs.declared.receiving.Event.{Event}
use Rattle.line.specs.declared.receiving.Event.TheVariants as E

abbrev pub is_newer : Next → ℕ
is_newer Sync = 0
is_newer Older = 0
is_newer Newer = 1

abbrev pub is_sync : Next → ℕ
is_sync Sync = 1
is_sync Older = 0
is_sync Newer = 0

pub record Ends : Type 0 where
  pub item : ℕ  -- the sender's newer item
  pub run : ℕ
  pub opening : ℕ
  pub finished : ℕ
  pub search : ℕ
  pub bad_row : ℕ
  pub back : ℕ  -- the return bit
  pub taken : ℕ  -- r
  pub ended : ℕ
  pub alarm : ℕ
  pub lost : ℕ  -- a request was lost
  pub danger : ℕ  -- one was lost, and no good block was read since

-- a block on the line: synchronising, or item i, arriving as it was before cancelling (1) or not (0)
pub data LineBlock : Type 0 where
  sync : LineBlock
  item : ℕ → ℕ → LineBlock

pub record SameReceiver (s t : Ends) : Type 0 where
  pub search : t.search ≡ s.search
  pub bad_row : t.bad_row ≡ s.bad_row
  pub back : t.back ≡ s.back
  pub taken : t.taken ≡ s.taken
  pub ended : t.ended ≡ s.ended
  pub alarm : t.alarm ≡ s.alarm

pub record SameSender (s t : Ends) : Type 0 where
  pub item : t.item ≡ s.item
  pub run : t.run ≡ s.run
  pub opening : t.opening ≡ s.opening
  pub finished : t.finished ≡ s.finished
  pub lost : t.lost ≡ s.lost

-- what a used reading of 0 loses: nothing at return bit 0; at return bit 1 the request, which while no alarm stands is
-- supposed only where no other was lost since the last good block
abbrev pub Loss : Ends → Ends → Type 0
Loss s t =
    ((s.back ≡ 0) × (t.lost ≡ s.lost) × (t.danger ≡ s.danger))
    ⊎ ((s.back ≡ 1) × (s.danger ≤ s.alarm) × (t.lost ≡ 1) × (t.danger ≡ 1))

-- one sending call that is not refused, on a reading: from s to t, what was next, what is next then, the block
pub data Sends (N : ℕ) (s : Ends) (reading : ℕ) (t : Ends) : Next → Next → LineBlock → Type 0 where
  syncs : SameReceiver s t → SameSender s t → t.danger ≡ s.danger → Sends N s reading t Sync Older sync
  olders : {i w : ℕ} → SameReceiver s t → SameSender s t → t.danger ≡ s.danger → i + 1 ≡ s.item → w ≤ 1
      → Sends N s reading t Older Newer (item i w)
  -- the newer item, reading 0
  wholes : {i w : ℕ} → SameReceiver s t → reading ≡ 0 → i ≡ s.item → s.item ≤ N → w ≤ 1 → t.item ≡ s.item + 1
      → t.run ≡ 0 → t.opening ≡ 0 → t.finished ≡ 0 → Loss s t → Sends N s reading t Newer Newer (item i w)
  lasts : {i w : ℕ} → SameReceiver s t → reading ≡ 0 → i ≡ s.item → s.item ≡ N + 1 → w ≤ 1 → t.item ≡ s.item
      → t.run ≡ 0 → t.opening ≡ 0 → t.finished ≡ 1 → Loss s t → Sends N s reading t Newer Newer (item i w)
  -- the newer item, reading 1: cancelled, so that it does not arrive whole
  cancels_older : {i : ℕ} → SameReceiver s t → reading ≡ 1 → i ≡ s.item → t.item ≡ s.item → t.run ≡ s.run + 1
      → t.run < 4
      → s.opening ≡ 0 → t.opening ≡ 0 → t.finished ≡ 0 → t.lost ≡ s.lost → t.danger ≡ s.danger
      → Sends N s reading t Newer Older (item i 0)
  cancels_sync : {i : ℕ} → SameReceiver s t → reading ≡ 1 → i ≡ s.item → t.item ≡ s.item → t.run ≡ s.run + 1
      → 4 ≤ t.run + 4 * t.opening → t.opening ≡ s.opening → t.finished ≡ 0 → t.lost ≡ s.lost
      → t.danger ≡ s.danger
      → Sends N s reading t Newer Sync (item i 0)

-- in step with return 0, the bad row cleared: r items taken, the end taken (1) or not (0), in danger or not
pub record InStep (t : Ends) (r end d : ℕ) : Type 0 where
  pub search : t.search ≡ 0
  pub bad_row : t.bad_row ≡ 0
  pub back : t.back ≡ 0
  pub taken : t.taken ≡ r
  pub ended : t.ended ≡ end
  pub alarm : t.alarm ≡ 0
  pub danger : t.danger ≡ d

-- return 1, in search (1) or in step (0), with a row
pub record Rejected (s t : Ends) (h ρ : ℕ) : Type 0 where
  pub search : t.search ≡ h
  pub bad_row : t.bad_row ≡ ρ
  pub back : t.back ≡ 1
  pub taken : t.taken ≡ s.taken
  pub ended : t.ended ≡ s.ended
  pub alarm : t.alarm ≡ 0
  pub danger : t.danger ≡ s.danger

-- an alarm stands
pub record Alarms (s t : Ends) (d : ℕ) : Type 0 where
  pub taken : t.taken ≡ s.taken
  pub ended : t.ended ≡ s.ended
  pub alarm : t.alarm ≡ 1
  pub danger : t.danger ≡ d

-- in step, no alarm standing
pub record Synchronised (s : Ends) : Type 0 where
  pub alarm : s.alarm ≡ 0
  pub search : s.search ≡ 0

-- a block that does not arrive as an item before cancelling
abbrev pub NotWhole : LineBlock → Type 0
NotWhole f = (f ≡ sync) ⊎ ((i : ℕ) × (f ≡ item i 0))

-- the reading of one block to its last bit, with the event that it comes to
pub data Reads (N : ℕ) (s t : Ends) : LineBlock → Event → Type 0 where
  under_alarm_lem : {f : LineBlock} {e : Event} → SameSender s t → Alarms s t s.danger → s.alarm ≡ 1 → Reads N s t f e
  searches : {f : LineBlock} → SameSender s t → SameReceiver s t → t.danger ≡ s.danger → s.alarm ≡ 0 → s.search ≡ 1
      → Reads N s t f E.None
  syncs : SameSender s t → s.alarm ≡ 0 → InStep t s.taken s.ended s.danger → Reads N s t sync E.Sync
  -- rule 2, or rule 7 of a synchronising block
  bad_step : {f : LineBlock} {n : ℕ} → SameSender s t → Synchronised s → s.bad_row < 7 → NotWhole f → Rejected s t 0 (s.bad_row + 1)
      → Reads N s t f (E.Bad n)
  bad_eighth : {f : LineBlock} {n : ℕ} → SameSender s t → Synchronised s → s.bad_row ≡ 7 → NotWhole f → Rejected s t 1 0
      → Reads N s t f (E.Bad n)
  bad_first : {n : ℕ} → SameSender s t → Synchronised s → s.taken ≡ 0 → Rejected s t 1 0 → Reads N s t sync (E.Bad n)
  -- rules 3 to 6 of a data or end block that arrives whole
  accepts : {i : ℕ} → SameSender s t → Synchronised s → i < N → s.ended ≡ 0 → i ≡ s.taken → InStep t (s.taken + 1) 0 0
      → Reads N s t (item i 1) E.Accepted
  repeats : {i : ℕ} → SameSender s t → Synchronised s → i < N → s.ended ≡ 0 → i + 1 ≡ s.taken → InStep t s.taken 0 0
      → Reads N s t (item i 1) E.Previous
  out_of_sequence : {i : ℕ} → SameSender s t → Synchronised s → i < N → s.ended ≡ 0 → i ≡ s.taken + 1 → Alarms s t 0
      → Reads N s t (item i 1) E.SequenceAlarm
  ends : {i L : ℕ} → SameSender s t → Synchronised s → N ≤ i → s.ended ≡ 0 → s.taken ≡ N → InStep t s.taken 1 0
      → Reads N s t (item i 1) (E.Ended L)
  ends_again : {i : ℕ} → SameSender s t → Synchronised s → N ≤ i → s.ended ≡ 1 → InStep t s.taken 1 0
      → Reads N s t (item i 1) E.Previous
  wrong_length : {i : ℕ} → SameSender s t → Synchronised s → N ≤ i → s.ended ≡ 0 → (s.taken ≡ N → ⊥) → Alarms s t 0
      → Reads N s t (item i 1) E.LengthAlarm
  -- rule 3 or rule 6 of one, the machine not ready: like a bad block that does not count in the row
  waits : {i : ℕ} → SameSender s t → Synchronised s → Rejected s t 0 0 → Reads N s t (item i 1) E.Wait

-- ---- the invariant

-- what holds always
pub record Basic (N : ℕ) (s : Ends) : Type 0 where
  pub low : 1 ≤ s.item
  pub high : s.item ≤ N + 1
  pub taken : s.taken ≤ N
  pub ended : s.ended ≤ 1
  pub lost : s.lost ≤ 1
  pub danger : s.danger ≤ s.lost
  pub finished : s.finished ≤ s.lost + s.ended

-- what holds while no alarm stands, between blocks (what is next: n)
pub record Between (s : Ends) (n : Next) : Type 0 where
  pub alarm : s.alarm ≡ 0
  pub bad_row : s.bad_row ≤ 7
  pub search : s.search ≤ 1
  pub back : s.back ≤ 1
  pub zero : s.bad_row + 8 * s.search ≤ 8 * s.back
  pub behind : s.taken + s.ended ≤ s.item
  pub ahead : s.item ≤ s.taken + s.ended + 1 + s.danger
  pub newer : s.item + 2 * is_newer n ≤ s.taken + s.ended + 2 * s.back + 2
  pub rows : s.bad_row ≤ 2 * s.run + is_newer n + 8 * s.opening + 8 * s.lost
  pub searches : 8 * s.search ≤ 2 * s.run + is_newer n + 8 * s.opening + 8 * s.lost
  pub resync : 4 * is_sync n ≤ s.run + 4 * s.opening + 4 * s.lost

-- the block on the line, against the pair as it is after sending
pub data FromPair (N : ℕ) (s : Ends) : Next → LineBlock → Type 0 where
  syncing : 4 ≤ s.run + 4 * s.opening + 4 * s.lost → FromPair N s Older LineBlock.sync
  below : {i w : ℕ} → i + 1 ≡ s.item → w ≤ 1 → FromPair N s Newer (item i w)
  last : {i w : ℕ} → i ≡ s.item → s.item ≡ N + 1 → w ≤ 1 → FromPair N s Newer (item i w)
  cancelled : {n : Next} {i w : ℕ} → w ≡ 0 → FromPair N s n (item i w)

pub record During (s : Ends) (n : Next) : Type 0 where
  pub alarm : s.alarm ≡ 0
  pub bad_row : s.bad_row ≤ 7
  pub search : s.search ≤ 1
  pub back : s.back ≤ 1
  pub zero : s.bad_row + 8 * s.search ≤ 8 * s.back
  pub behind : s.taken + s.ended ≤ s.item
  pub ahead : s.item ≤ s.taken + s.ended + 1 + s.danger
  pub rows : s.bad_row + 1 ≤ 2 * s.run + is_newer n + 8 * s.opening + 8 * s.lost
  pub searches : 8 * s.search ≤ 2 * s.run + is_newer n + 8 * s.opening + 8 * s.lost
  pub resync : 4 * is_sync n ≤ s.run + 4 * s.opening + 4 * s.lost

pub record Alarmed (s : Ends) : Type 0 where
  pub alarm : s.alarm ≡ 1
  pub lost : s.lost ≡ 1
  pub open_end : s.ended ≡ 0

-- no block is on the line
pub record Idle (N : ℕ) (s : Ends) (n : Next) : Type 0 where
  pub basic : Basic N s
  pub all : s.ended ≡ 1 → s.taken ≡ N
  pub state : Alarmed s ⊎ Between s n

-- a block is on the line, its last bit not used yet
pub record Busy (N : ℕ) (s : Ends) (n : Next) (f : LineBlock) : Type 0 where
  pub basic : Basic N s
  pub all : s.ended ≡ 1 → s.taken ≡ N
  pub state : Alarmed s ⊎ (During s n × FromPair N s n f)

-- a data item that arrives whole, with r items taken: it is item r, the one before it or the one after it, and the end is
-- not taken
pub record Neighbour (r ended i : ℕ) : Type 0 where
  pub open_end : ended ≡ 0
  pub low : r ≤ i + 1
  pub high : i ≤ r + 1
