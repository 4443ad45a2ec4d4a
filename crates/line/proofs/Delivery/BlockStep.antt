-- The reading of a block to its last bit, in step, is a step of the two ends at block level. Assumes nothing.
use mathlib.Core.Path.{◌≡◌, refl, ap, sym}
use mathlib.Core.Logic.{◌⊎◌, inl, inr, ⊎_elim}
use mathlib.Core.Bool.{Bool, true, false, ◌||◌, false≢true}
use mathlib.Core.List.{[]}
use mathlib.Core.Option.{Option, none, some}
use Prim.Native.Nat.{ℕ, ◌+◌, ◌≤◌, ◌<◌}
use native.Mathlib.Omega.{arith}
use lib.ListN.{length, take}
use lib.Dec.{eqb, leb}
use borrow.Author.Tests.{eqb-true, leb-true, leb-false, lt-ltb}
use Rattle.crc.specs.Bits.{bit, bits_of}
use Rattle.block.specs.Lengths.{block_length}
use Rattle.block.proofs.Truth.{or_true, or-false, or_no, or_yes}
use Rattle.line.specs.Receiving.{array_bytes, Rule, unfinished, standing, sequence_found, reads_sync, check_fails, accepts, previous, out_of_sequence, ends, wrong_length, ends_again, anything_else, waits, meaning, EventKind, event_kind, last_bad, blank, after_good, after_bad, after_wait, alarmed, after, held_bits, held_in_range}
use Rattle.line.specs.declared.sender.Sender.{Sender}
use Rattle.line.specs.declared.receiver.Receiver.{Receiver}
use Rattle.line.specs.declared.receiving.Phase.{Phase}
use Rattle.line.specs.declared.receiving.Phase.TheVariants as P
use Rattle.line.specs.declared.receiving.Event.TheVariants as E
use Rattle.line.proofs.Delivery.Ends.{LineBlock, Reads, SameSender, NotWhole}
use Rattle.line.proofs.Delivery.Ends as D
use Rattle.line.proofs.Delivery.WrittenBits.{length-zero_array}
use Rattle.line.proofs.Delivery.BlockRules as J
use Rattle.line.proofs.Delivery.BlockRules.{Unharmed}
use Rattle.line.proofs.Delivery.Progress.{ending}
use Rattle.line.proofs.Delivery.State.{Session, N, in_search, alarm_stands, Held}
use Rattle.line.proofs.Delivery.State as S

-- ---- a rule that ends a block or a search

abbrev pub ends_block : Rule → Bool
ends_block unfinished = false
ends_block (standing alarm) = false
ends_block sequence_found = true
ends_block reads_sync = true
ends_block (check_fails n) = true
ends_block accepts = true
ends_block previous = true
ends_block out_of_sequence = true
ends_block (ends L) = true
ends_block wrong_length = true
ends_block ends_again = true
ends_block anything_else = true
ends_block waits = true

-- what it leaves: nothing held, and the items and the end as its event says
pub record After (r t : Receiver) (stores : Bool) (v : EventKind) : Type 0 where
  pub setup : t.setup ≡ r.setup
  pub array : length t.bits ≡ array_bytes
  pub held : t.held ≡ 0
  pub bad_row : t.bad_row < last_bad
  pub taken : t.taken ≡ bit stores + r.taken
  pub ended : t.ended ≡ (r.ended || ending v)
  pub alarms : alarm_stands t.phase ≡ v.alarm
  pub stored : stores ≡ v.new

-- nothing, or an alarm
abbrev only : Bool → EventKind
only alarm = record { new = false; wait = false; alarm = alarm; length = none }

module _ (r : Receiver) where
  blank-after : (bad_row : ℕ) (back : Bool) (taken : ℕ) (ended : Bool) (phase : Phase) (stores wait : Bool) (end : Option ℕ)
      → let v : EventKind = record { new = stores; wait = wait; alarm = alarm_stands phase; length = end } in
      bad_row < last_bad → taken ≡ bit stores + r.taken → ended ≡ (r.ended || ending v)
      → After r (blank r bad_row back taken ended phase) stores v
  blank-after bad_row back taken ended phase stores wait end h t e =
      record {
        setup = refl;
        array = length-zero_array;
        held = refl;
        bad_row = h;
        taken = t;
        ended = e;
        alarms = refl;
        stored = refl;
      }

  same_end : r.ended ≡ (r.ended || false)
  same_end = sym (or_no r.ended)

  good_after : After r (after_good r r.taken r.ended) false (only false)
  good_after = blank-after 0 false r.taken r.ended P.InStep false false none (omega arith) (omega arith) same_end

  alarm_after : (alarm : Phase) → After r (alarmed r alarm) false (only (alarm_stands alarm))
  alarm_after alarm = blank-after 0 true r.taken r.ended alarm false false none (omega arith) (omega arith) same_end

  bad_after : (search : Bool) → (search ≡ false → r.bad_row + 1 < last_bad) → After r (after_bad r search) false (only false)
  bad_after true h = blank-after 0 true r.taken r.ended P.Search false false none (omega arith) (omega arith) same_end
  bad_after false h = blank-after (r.bad_row + 1) true r.taken r.ended P.InStep false false none (h refl) (omega arith) same_end

  pub after_is : (x : Rule) → ends_block x ≡ true → After r (after r x) (meaning x).stores (event_kind (meaning x).event)
  after_is unfinished e = absurd (false≢true e)
  after_is (standing alarm) e = absurd (false≢true e)
  after_is sequence_found e = good_after
  after_is reads_sync e = good_after
  after_is (check_fails n) e = bad_after (leb last_bad (r.bad_row + 1)) (leb-false last_bad (r.bad_row + 1))
  after_is accepts e = blank-after 0 false (r.taken + 1) r.ended P.InStep true false none (omega arith) (omega arith) same_end
  after_is previous e = good_after
  after_is out_of_sequence e = alarm_after P.SequenceAlarm
  after_is (ends L) e = blank-after 0 false r.taken true P.InStep false false (some L) (omega arith) (omega arith) (sym (or_yes r.ended))
  after_is wrong_length e = alarm_after P.LengthAlarm
  after_is ends_again e = good_after
  after_is anything_else e =
      bad_after (leb last_bad (r.bad_row + 1) || eqb r.taken 0)
      (λ f. leb-false last_bad (r.bad_row + 1) (or-false (leb last_bad (r.bad_row + 1)) (eqb r.taken 0) f).0)
  after_is waits e = blank-after 0 true r.taken r.ended P.InStep false true none (omega arith) (omega arith) same_end

pub none_held : (p : Phase) (k : ℕ) → held_in_range p (block_length k) 0 ≡ true
none_held P.Search k = refl
none_held P.InStep k = lt-ltb 0 (block_length k) (omega arith)
none_held P.SequenceAlarm k = lt-ltb 0 (block_length k) (omega arith)
none_held P.LengthAlarm k = lt-ltb 0 (block_length k) (omega arith)

pub held_none : (t : Receiver) → t.held ≡ 0 → Held t []
held_none t e = record { step = λ p. empty; search = λ p. ([], empty) }
  where
    empty : held_bits t ≡ []
    empty = ap (λ (n : ℕ). take n (bits_of t.bits)) e

-- ---- in step

abbrev pub same_sender : (s : Sender) (r t : Receiver) (l d e : ℕ) → SameSender (S.ends s r l d) (S.ends s t l e)
same_sender s r t l d e = record { item = refl; run = refl; opening = refl; finished = refl; lost = refl }

pub good_in_step : (s : Sender) (r : Receiver) (taken : ℕ) (ended : Bool) (l d e : ℕ) → bit ended ≡ e
    → D.InStep (S.ends s (after_good r taken ended) l d) taken e d
good_in_step s r taken ended l d e h =
    record { search = refl; bad_row = refl; back = refl; taken = refl; ended = h; alarm = refl; danger = refl }

module _ (o : Session) (s : Sender) (r : Receiver) (l d : ℕ) (step : r.phase ≡ P.InStep) where
  in_step : D.Synchronised (S.ends s r l d)
  in_step =
      record { alarm = ap (λ (p : Phase). bit (alarm_stands p)) step; search = ap (λ (p : Phase). bit (in_search p)) step }

  pub unharmed_reads : (i : ℕ) (x : Rule) → Unharmed o.k o.L r.taken r.ended i x
      → Reads (N o) (S.ends s r l d) (S.ends s (after r x) l 0) (LineBlock.item i 1) (meaning x).event
  unharmed_reads i x (J.expected_item h e m) =
      D.accepts (same_sender s r (after r accepts) l d 0) in_step h e m
      (good_in_step s r (r.taken + 1) r.ended l 0 0 e)
  unharmed_reads i x (J.last_item h e m) =
      D.repeats (same_sender s r (after r previous) l d 0) in_step h e m (good_in_step s r r.taken r.ended l 0 0 e)
  unharmed_reads i x (J.next_item h e m) =
      D.out_of_sequence (same_sender s r (after r out_of_sequence) l d 0) in_step h e m
      (record { taken = refl; ended = refl; alarm = refl; danger = refl })
  unharmed_reads i x (J.end_again h e) =
      D.ends_again (same_sender s r (after r ends_again) l d 0) in_step h (ap bit e)
      (good_in_step s r r.taken r.ended l 0 1 (ap bit e))
  unharmed_reads i x (J.end_all h e t) =
      D.ends (same_sender s r (after r (ends o.L)) l d 0) in_step h (ap bit e) t (good_in_step s r r.taken true l 0 1 refl)
  unharmed_reads i x (J.end_short h e t) =
      D.wrong_length (same_sender s r (after r wrong_length) l d 0) in_step h (ap bit e) t
      (record { taken = refl; ended = refl; alarm = refl; danger = refl })

  -- the machine is not ready
  pub waits_reads : (i : ℕ) → Reads (N o) (S.ends s r l d) (S.ends s (after_wait r) l d) (LineBlock.item i 1) E.Wait
  waits_reads i =
      D.waits (same_sender s r (after_wait r) l d d) in_step
      (record { search = refl; bad_row = refl; back = refl; taken = refl; ended = refl; alarm = refl; danger = refl })

  -- a bad block
  bad_reads : (f : LineBlock) (remainder : ℕ) (search : Bool) → NotWhole f → r.bad_row ≤ 7
      → (search ≡ true → (r.bad_row ≡ 7) ⊎ ((f ≡ LineBlock.sync) × (r.taken ≡ 0))) → (search ≡ false → r.bad_row < 7)
      → Reads (N o) (S.ends s r l d) (S.ends s (after_bad r search) l d) f (E.Bad remainder)
  bad_reads f remainder true w h y n =
      ⊎_elim
      (λ e. D.bad_eighth (same_sender s r (after_bad r true) l d d) in_step e w rejected)
      (λ e. rw e.0 (D.bad_first (same_sender s r (after_bad r true) l d d) in_step e.1 rejected))
      (y refl)
    where
      rejected : D.Rejected (S.ends s r l d) (S.ends s (after_bad r true) l d) 1 0
      rejected = record {
        search = refl;
        bad_row = refl;
        back = refl;
        taken = refl;
        ended = refl;
        alarm = refl;
        danger = refl;
      }
  bad_reads f remainder false w h y n =
      D.bad_step (same_sender s r (after_bad r false) l d d) in_step (n refl) w
      (record { search = refl; bad_row = refl; back = refl; taken = refl; ended = refl; alarm = refl; danger = refl })

  pub fails_reads : (f : LineBlock) (remainder : ℕ) → NotWhole f → r.bad_row ≤ 7
      → Reads (N o) (S.ends s r l d) (S.ends s (after r (check_fails remainder)) l d) f (E.Bad remainder)
  fails_reads f remainder w h =
      bad_reads f remainder (leb last_bad (r.bad_row + 1)) w h
      (λ e. let q = leb-true last_bad (r.bad_row + 1) e in inl (omega arith))
      (λ e. let q = leb-false last_bad (r.bad_row + 1) e in omega arith)

  pub other_reads : r.bad_row ≤ 7 → Reads (N o) (S.ends s r l d) (S.ends s (after r anything_else) l d) LineBlock.sync (E.Bad 0)
  other_reads h =
      bad_reads LineBlock.sync 0 (leb last_bad (r.bad_row + 1) || eqb r.taken 0) (inl refl) h
      (λ e. ⊎_elim (λ z. let q = leb-true last_bad (r.bad_row + 1) z in inl (omega arith))
      (λ z. inr (refl, eqb-true r.taken 0 z)) (or_true (leb last_bad (r.bad_row + 1)) (eqb r.taken 0) e))
      (λ e. let q = leb-false last_bad (r.bad_row + 1)
      (or-false (leb last_bad (r.bad_row + 1)) (eqb r.taken 0) e).0 in omega arith)
