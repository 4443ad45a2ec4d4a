-- The receiving end: opening a receiver and a receiving call, with their promises. docs/PROTOCOL.md, "Receiving", whose rules
-- have their numbers here. Assumes nothing.
use Rattle.std.specs.Prelude.{◌≡◌, Bool, true, false, cond, not, ◌&&◌, ◌||◌, List, [], ◌∷◌, ◌++◌, ℕ, zero, suc, ◌+◌, ◌-◌, ◌*◌, eqb, leb, ltb, length, take, drop, replicate, Result, Ok, Err}
use Rattle.std.proofs.Math.Option.{Option, none, some}
use Rattle.crc.specs.Bits.{Bits, number, bits_of, bytes_of}
use Rattle.block.specs.Answer as A
use Rattle.block.specs.Answer.{Answer, refused, done, refuse_if}
use Rattle.block.specs.Lengths.{is_length, block_length}
use Rattle.block.specs.Block.{service_of, payload_of, Verdict, passed, failed, verdict, service_sync, sync_sequence}
use Rattle.block.specs.Calls.{too_short}
use Rattle.line.specs.Refusals as Refusals
use Rattle.line.specs.declared.Refusal.{Refusal}
use Rattle.line.specs.Marks.{marks_of, marks_in_range, is_mark}
use Rattle.line.specs.Order.{most_items, valid_length, item_count, letter, is_letter, end_service, version}
use Rattle.std.specs.Prelude as Core
use Rattle.line.specs.declared.marks.Marks.{Marks}
use Rattle.line.specs.declared.receiver.Receiver.{Receiver}
use Rattle.line.specs.declared.receiving.Phase.{Phase}
use Rattle.line.specs.declared.receiving.Phase.TheVariants as P
use Rattle.line.specs.declared.receiving.Event.{Event}
use Rattle.line.specs.declared.receiving.Event.TheVariants as E
use Rattle.line.specs.declared.receiving.Received.{Received}
use Rattle.line.specs.declared.receiver.Step.{Step}
use Rattle.line.specs.declared.receiver.Opened.{Opened}

-- ---- opening: 1, 9

-- the bytes of the array that holds one unfinished block
abbrev pub array_bytes : ℕ
array_bytes = 483

unfoldable pub zero_array : List ℕ
zero_array = replicate array_bytes 0

-- it starts in search with return bit 1
unfoldable pub fresh_receiver : ℕ → Marks → Receiver
fresh_receiver k m =
    record {
      setup = record { k = k; marks = m };
      bits = zero_array;
      held = 0;
      bad_row = 0;
      back = true;
      taken = 0;
      ended = false;
      phase = P.Search;
    }

unfoldable pub open_receiver : ℕ → Core.Option ℕ → Answer (Unit {0})
open_receiver k size =
    refuse_if (not (is_length k)) A.block
    (refuse_if (not (marks_in_range (marks_of size))) Refusals.code_size (done tt))

-- a refused opening hands back a state that every step refuses, k being 0, and without marks
abbrev pub opened_receiver : ℕ → Core.Option ℕ → Answer (Unit {0}) → Receiver
opened_receiver k size (refused n) = fresh_receiver 0 (marks_of Core.None)
opened_receiver k size (done u) = fresh_receiver k (marks_of size)

abbrev pub opening_answer : Result Unit Refusal → Answer (Unit {0})
opening_answer (Ok u) = done tt
opening_answer (Err r) = refused (Refusals.refusal_number r)

pub record OpenReceiver (k : ℕ) (size : Core.Option ℕ) (result : Opened) : Type 0 where
  pub answers : opening_answer result.answer ≡ open_receiver k size
  pub state : result.state ≡ opened_receiver k size (open_receiver k size)

-- ---- the rules

-- how a call comes to its event
pub data Rule : Type 0 where
  unfinished : Rule  -- all bits were used without an event
  standing : Event → Rule  -- an alarm stood before the call
  sequence_found : Rule  -- the search found its sequence
  reads_sync : Rule  -- rule 1
  check_fails : ℕ → Rule  -- rule 2, with this remainder
  accepts : Rule  -- rule 3
  previous : Rule  -- rule 4
  out_of_sequence : Rule  -- rule 5
  ends : ℕ → Rule  -- rule 6, with this L
  wrong_length : Rule  -- rule 6, the length alarm
  ends_again : Rule  -- rule 6, the end already taken
  anything_else : Rule  -- rule 7
  waits : Rule  -- rule 3 or rule 6 would take the block, and the machine is not ready

-- what a rule comes to
pub record Meaning : Type 0 where
  pub event : Event
  pub uses_all : Bool  -- all bits are used: without an event, or under an alarm that stood before the call
  pub stores : Bool  -- the data go to the store
  pub data_or_end : Bool  -- rules 3 to 6 read the block
  pub checked : Bool  -- the block was read in step with a passing check

abbrev pub meant : Event → Bool → Bool → Bool → Bool → Meaning
meant event uses_all stores data_or_end checked =
    record { event = event; uses_all = uses_all; stores = stores; data_or_end = data_or_end; checked = checked }

abbrev pub meaning : Rule → Meaning
meaning unfinished = meant E.None true false false false
meaning (standing alarm) = meant alarm true false false false
meaning sequence_found = meant E.Sync false false false false
meaning reads_sync = meant E.Sync false false false false
meaning (check_fails remainder) = meant (E.Bad remainder) false false false false
meaning accepts = meant E.Accepted false true true true
meaning previous = meant E.Previous false false true true
meaning out_of_sequence = meant E.SequenceAlarm false false true true
meaning (ends L) = meant (E.Ended L) false false true true
meaning wrong_length = meant E.LengthAlarm false false true true
meaning ends_again = meant E.Previous false false true true
meaning anything_else = meant (E.Bad 0) false false false true
meaning waits = meant E.Wait false false true true

-- what an event says: a new block, a wait, an alarm, the end with its length
pub record EventKind : Type 0 where
  pub new : Bool
  pub wait : Bool
  pub alarm : Bool
  pub length : Option ℕ

abbrev pub event_kind : Event → EventKind
event_kind E.None = record { new = false; wait = false; alarm = false; length = none }
event_kind E.Sync = record { new = false; wait = false; alarm = false; length = none }
event_kind (E.Bad remainder) = record { new = false; wait = false; alarm = false; length = none }
event_kind E.Accepted = record { new = true; wait = false; alarm = false; length = none }
event_kind E.Previous = record { new = false; wait = false; alarm = false; length = none }
event_kind E.SequenceAlarm = record { new = false; wait = false; alarm = true; length = none }
event_kind E.LengthAlarm = record { new = false; wait = false; alarm = true; length = none }
event_kind (E.Ended L) = record { new = false; wait = false; alarm = false; length = some L }
event_kind E.Wait = record { new = false; wait = true; alarm = false; length = none }

-- `f` of the end's length; without the end, `other`
abbrev pub with_length : {A : Type 0} → A → (ℕ → A) → Option ℕ → A
with_length other f none = other
with_length other f (some L) = f L

abbrev pub is_accepted : Event → Bool
is_accepted e = (event_kind e).new

abbrev pub is_ended : Event → Bool
is_ended e = with_length false (λ L. true) (event_kind e).length

-- the machine took a block
abbrev pub takes_block : Event → Bool
takes_block e = is_accepted e || is_ended e

-- ---- in step, at each n-th bit: whether marks are in use, k, the items taken and whether the end is, and the row of n bits

-- with marks: any of the four is item 0's, whatever the receiver's own code size; item i + 1 has the letter of i
abbrev pub is_marked : ℕ → ℕ → Bool
is_marked zero service = is_mark service
is_marked (suc i) service = eqb service (letter i)

-- whether service bits are those of item i
unfoldable pub is_of : Bool → ℕ → ℕ → Bool
is_of in_use i service = cond in_use (is_marked i service) (eqb service (letter i))

-- service bits against the items taken: of item r, of item r - 1, of item r + 1, or of none of these
pub data Place : Type 0 where
  expected last next other : Place

unfoldable pub place : Bool → ℕ → ℕ → Place
place in_use r service =
    cond (is_of in_use r service) expected
    (cond (leb 1 r && is_of in_use (r - 1) service) last (cond (is_of in_use (r + 1) service) next other))

-- rules 3, 4, 5 and 7, the end not taken
abbrev pub place_rule : ℕ → Place → Rule
place_rule r expected = cond (ltb r most_items) accepts anything_else
place_rule r last = previous
place_rule r next = out_of_sequence
place_rule r other = anything_else

-- L makes r items
abbrev pub makes_items : ℕ → ℕ → ℕ → Bool
makes_items k L r = eqb (item_count k L) r

-- rule 6: the version, L in 1 to the longest order, and L makes r items
abbrev pub length_rule : ℕ → ℕ → Bool → ℕ → Rule
length_rule k r known L = cond (known && valid_length L && makes_items k L r) (ends L) wrong_length

unfoldable pub end_rule : ℕ → ℕ → Bool → Bits → Rule
end_rule k r ended payload =
    cond ended ends_again (length_rule k r (eqb (number (take 8 payload)) version) (number (take 32 (drop 8 payload))))

-- no letter and no end block: a mark goes by its place where marks are in use and the end is not taken, all else by rule 7
unfoldable pub mark_rule : Bool → ℕ → Bool → ℕ → Rule
mark_rule in_use r ended service =
    cond (in_use && is_mark service && not ended) (place_rule r (place in_use r service)) anything_else

-- rules 3 to 7: by the service bits of a block that passes
unfoldable pub service_rule : Bool → ℕ → ℕ → Bool → ℕ → Bits → Rule
service_rule in_use k r ended service payload =
    cond (is_letter service) (cond ended out_of_sequence (place_rule r (place in_use r service)))
    (cond (eqb service end_service) (end_rule k r ended payload) (mark_rule in_use r ended service))

-- rule 2
abbrev pub verdict_rule : Bool → ℕ → ℕ → Bool → Bits → Verdict → Rule
verdict_rule in_use k r ended row (failed remainder) = check_fails remainder
verdict_rule in_use k r ended row (passed service) = service_rule in_use k r ended service (payload_of k row)

-- rule 1: first four bits 0101 and last sixteen the sequence
unfoldable pub looks_sync : ℕ → Bits → Bool
looks_sync k row =
    eqb (number (service_of row)) (number service_sync) && eqb (number (drop (k + 4) row)) (number sync_sequence)

unfoldable pub judge : Bool → ℕ → ℕ → Bool → Bits → Rule
judge in_use k r ended row = cond (looks_sync k row) reads_sync (verdict_rule in_use k r ended row (verdict row))

-- ---- after the judging, the machine's readiness: a block that would be accepted or ended waits where it is not ready

abbrev pub or_wait : Bool → Rule → Rule
or_wait ready unfinished = unfinished
or_wait ready (standing alarm) = standing alarm
or_wait ready sequence_found = sequence_found
or_wait ready reads_sync = reads_sync
or_wait ready (check_fails remainder) = check_fails remainder
or_wait ready accepts = cond ready accepts waits
or_wait ready previous = previous
or_wait ready out_of_sequence = out_of_sequence
or_wait ready (ends L) = cond ready (ends L) waits
or_wait ready wrong_length = wrong_length
or_wait ready ends_again = ends_again
or_wait ready anything_else = anything_else
or_wait ready waits = waits

-- ---- the state after an event: nothing held

abbrev pub blank : Receiver → ℕ → Bool → ℕ → Bool → Phase → Receiver
blank s bad_row back taken ended phase =
    record {
      setup = s.setup;
      bits = zero_array;
      held = 0;
      bad_row = bad_row;
      back = back;
      taken = taken;
      ended = ended;
      phase = phase;
    }

-- in step with return 0, the bad row cleared
abbrev pub after_good : Receiver → ℕ → Bool → Receiver
after_good s taken ended = blank s 0 false taken ended P.InStep

-- the eighth bad in a row starts a search, and a search's start clears the bad row
abbrev pub last_bad : ℕ
last_bad = 8

-- after a bad block with return 1: in search, or in step with one more in the bad row
abbrev pub after_bad : Receiver → Bool → Receiver
after_bad s search =
    cond search (blank s 0 true s.taken s.ended P.Search)
    (blank s (s.bad_row + 1) true s.taken s.ended P.InStep)

-- in step with return 1, the bad row cleared
abbrev pub after_wait : Receiver → Receiver
after_wait s = blank s 0 true s.taken s.ended P.InStep

abbrev pub alarmed : Receiver → Phase → Receiver
alarmed s alarm = blank s 0 true s.taken s.ended alarm

abbrev pub after : Receiver → Rule → Receiver
after s unfinished = s
after s (standing alarm) = s
after s sequence_found = after_good s s.taken s.ended
after s reads_sync = after_good s s.taken s.ended
after s (check_fails remainder) = after_bad s (leb last_bad (s.bad_row + 1))
after s accepts = after_good s (s.taken + 1) s.ended
after s previous = after_good s s.taken s.ended
after s out_of_sequence = alarmed s P.SequenceAlarm
after s (ends L) = after_good s s.taken true
after s wrong_length = alarmed s P.LengthAlarm
after s ends_again = after_good s s.taken s.ended
after s anything_else = after_bad s (leb last_bad (s.bad_row + 1) || eqb s.taken 0)
after s waits = after_wait s

-- ---- the bits of a call, up to the next event or to the last

abbrev pub held_bits : Receiver → Bits
held_bits s = take s.held (bits_of s.bits)

-- what a call reads: the rule, the row of n bits that it read if any, the bits used, and the state afterwards
pub record Reception : Type 0 where
  pub rule : Rule
  pub row : Bits
  pub used : ℕ
  pub state : Receiver

abbrev pub stops : Receiver → Rule → Bits → ℕ → Reception
stops s rule row used = record { rule = rule; row = row; used = used; state = after s rule }

-- Search: the window is the latest 15 bits at most, received since the search began.
abbrev pub latest : Bits → Bits
latest row = drop (length row - 15) row

-- no event: the window in the array's first two bytes, zero bits behind it; return 1
abbrev pub searching : Receiver → Bits → Receiver
searching s window =
    record {
      setup = s.setup;
      bits = bytes_of 2 window ++ drop 2 s.bits;
      held = length window;
      bad_row = s.bad_row;
      back = true;
      taken = s.taken;
      ended = s.ended;
      phase = s.phase;
    }

abbrev pub is_sequence : Bits → Bool
is_sequence row = eqb (length row) 16 && eqb (number row) (number sync_sequence)

abbrev pub search : Receiver → Bits → Bits → ℕ → Reception
search s window [] used = record { rule = unfinished; row = []; used = used; state = searching s window }
search s window (b ∷ bs) used =
    cond (is_sequence (window ++ (b ∷ []))) (stops s sequence_found [] (suc used))
    (search s (latest (window ++ (b ∷ []))) bs (suc used))

-- In step: the new bits stand behind those held, and no other bit of the array changes.
abbrev pub overwrite : ℕ → Bits → Bits → Bits
overwrite at new row = take at row ++ (new ++ drop (at + length new) row)

abbrev pub holding : Receiver → Bits → Receiver
holding s new =
    record {
      setup = s.setup;
      bits = bytes_of array_bytes (overwrite s.held new (bits_of s.bits));
      held = s.held + length new;
      bad_row = s.bad_row;
      back = s.back;
      taken = s.taken;
      ended = s.ended;
      phase = s.phase;
    }

abbrev pub missing : Receiver → ℕ
missing s = block_length s.setup.k - s.held

-- the rule of a finished block, and whether the machine is ready at its last bit
abbrev pub block_rule : Receiver → Bits → Bool → Rule
block_rule s row ready = or_wait ready (judge s.setup.marks.in_use s.setup.k s.taken s.ended row)

abbrev pub finished_row : Receiver → Bits → Bits
finished_row s new = held_bits s ++ take (missing s) new

unfoldable pub in_step : Receiver → Bits → Bool → Reception
in_step s new ready =
    cond (ltb (length new) (missing s))
    (record { rule = unfinished; row = []; used = length new; state = holding s new })
    (stops s (block_rule s (finished_row s new) ready) (finished_row s new) (missing s))

-- A standing alarm: return 1, the bad row cleared, all bits used.
abbrev pub under_alarm : Receiver → Receiver
under_alarm s =
    record {
      setup = s.setup;
      bits = s.bits;
      held = s.held;
      bad_row = 0;
      back = true;
      taken = s.taken;
      ended = s.ended;
      phase = s.phase;
    }

abbrev pub alarm_reception : Receiver → Event → ℕ → Reception
alarm_reception s alarm used = record { rule = standing alarm; row = []; used = used; state = under_alarm s }

abbrev pub by_phase : Receiver → Phase → Bits → Bool → Reception
by_phase s P.Search new ready = search s (held_bits s) new 0
by_phase s P.InStep new ready = in_step s new ready
by_phase s P.SequenceAlarm new ready = alarm_reception s E.SequenceAlarm (length new)
by_phase s P.LengthAlarm new ready = alarm_reception s E.LengthAlarm (length new)

-- 0 bits: nothing changed, but a standing alarm is reported
abbrev pub idle_rule : Phase → Rule
idle_rule P.Search = unfinished
idle_rule P.InStep = unfinished
idle_rule P.SequenceAlarm = standing E.SequenceAlarm
idle_rule P.LengthAlarm = standing E.LengthAlarm

abbrev pub idle : Receiver → Reception
idle s = record { rule = idle_rule s.phase; row = []; used = 0; state = s }

unfoldable pub reception : Receiver → Bits → ℕ → Bool → Reception
reception s new count ready = cond (eqb count 0) (idle s) (by_phase s s.phase new ready)

-- ---- a receiving call: 7, then 6

-- held bits below n, in search at most 15
abbrev pub held_in_range : Phase → ℕ → ℕ → Bool
held_in_range P.Search n held = leb held 15
held_in_range P.InStep n held = ltb held n
held_in_range P.SequenceAlarm n held = ltb held n
held_in_range P.LengthAlarm n held = ltb held n

-- every field within its range
unfoldable pub receiver_in_range : Receiver → Bool
receiver_in_range s =
    is_length s.setup.k && marks_in_range s.setup.marks && ltb s.bad_row last_bad && leb s.taken most_items
    && held_in_range s.phase (block_length s.setup.k) s.held

-- the store is judged only where a block would be accepted
abbrev pub judge_store : Receiver → List ℕ → Reception → Answer Reception
judge_store s store x =
    refuse_if ((meaning x.rule).stores && too_short store (s.taken * s.setup.k + s.setup.k)) A.short (done x)

unfoldable pub receive : Receiver → List ℕ → ℕ → Bool → List ℕ → Answer Reception
receive s line count ready store =
    refuse_if (not (receiver_in_range s)) A.spoiled
    (refuse_if (too_short line count) A.short (judge_store s store (reception s (take count (bits_of line)) count ready)))

abbrev pub receive_state : Receiver → Answer Reception → Receiver
receive_state s (refused n) = s
receive_state s (done x) = x.state

-- the k data bits go to the store at bit r times k
unfoldable pub store_at : ℕ → Bits → List ℕ → List ℕ
store_at at payload store = bytes_of (length store) (overwrite at payload (bits_of store))

abbrev pub receive_store : Receiver → List ℕ → Answer Reception → List ℕ
receive_store s store (refused n) = store
receive_store s store (done x) =
    cond (meaning x.rule).stores (store_at (s.taken * s.setup.k) (payload_of s.setup.k x.row) store) store

-- what is reported: the event and the number of bits used
pub record Report : Type 0 where
  pub event : Event
  pub used : ℕ

abbrev pub reported : Answer Reception → Answer Report
reported (refused n) = refused n
reported (done x) = done (record { event = (meaning x.rule).event; used = x.used })

abbrev pub received_answer : Result Received Refusal → Answer Report
received_answer (Ok r) = done (record { event = r.event; used = r.bits })
received_answer (Err r) = refused (Refusals.refusal_number r)

pub record Receive (s : Receiver) (line : List ℕ) (count : ℕ) (ready : Bool) (store : List ℕ) (result : Step) (store' : List ℕ) : Type 0 where
  pub answers : received_answer result.answer ≡ reported (receive s line count ready store)
  pub state : result.state ≡ receive_state s (receive s line count ready store)
  pub writes : store' ≡ receive_store s store (receive s line count ready store)
