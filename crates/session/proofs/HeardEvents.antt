-- The receiving calls of a period by their events: after accepted or ended the calls that follow complete no block. Assumes nothing.
use mathlib.Core.Path.{◌≡◌, refl, sym, ap, subst, ◌∙◌}
use mathlib.Core.Bool.{Bool, true, false, ◌||◌, false≢true, or_assoc}
use mathlib.Core.List.{List, [], ◌∷◌, ◌++◌}
use mathlib.Core.Logic.{⊎_elim}
use Prim.Native.Nat.{ℕ, zero, suc, ◌+◌, ◌*◌, ◌≤◌, ◌<◌}
use native.Mathlib.Omega.{arith}
use borrow.Author.Tests.{le-leb, lt-ltb, le-ltb}
use lib.Dec.{leb}
use lib.ListN.{length, drop, length-drop}
use Rattle.crc.specs.Bits.{Bits, bit, bytes_of}
use Rattle.crc.proofs.Bytes.{length-bytes_of}
use Rattle.block.specs.Answer.{Answer, refused, done}
use Rattle.block.specs.Lengths.{block_length}
use Rattle.block.specs.Calls.{too_short}
use Rattle.block.proofs.Lengths.{length_facts}
use Rattle.block.proofs.Truth.{either, or_no}
use Rattle.line.specs.Receiving.{is_accepted, is_ended, takes_block, meaning, Reception, holding, held_in_range, reception, receive, receive_store}
use Rattle.line.specs.Delivery.{All, some}
use Rattle.line.specs.declared.receiver.Receiver.{Receiver}
use Rattle.line.specs.declared.receiving.Event.{Event}
use Rattle.line.specs.declared.receiving.Event.TheVariants as E
use Rattle.line.specs.declared.receiving.Phase.{Phase}
use Rattle.line.specs.declared.receiving.Phase.TheVariants as P
use Rattle.line.proofs.InStepBits.{held_on, step_on}
use Rattle.line.proofs.KeptSetup.{received_setup}
use Rattle.line.proofs.ReceivingCall.{InRange, range_in, reception-some}
use Rattle.line.proofs.TakenBlock.{received_takes}
use Rattle.session.specs.Period.{line_bytes, last_event, ready, Hearing, hearing, answered, hear}
use Rattle.session.specs.LastEvent.{answered_events, heard_events, last_of, how_many}
use Rattle.session.proofs.ReceivingCalls.{held_bits_lem}
use Rattle.session.proofs.Uses.{receive_uses}

-- a call that is lent these bits
abbrev call : Receiver → Bits → List ℕ → Answer Reception
call s bits store = receive s (bytes_of line_bytes bits) (length bits) ready store

-- ---- calls that complete no block

-- in step and in range, and these bits do not complete the block
pub record Quiet (s : Receiver) (bits : Bits) : Type 0 where
  pub range : InRange s
  pub in_step : s.phase ≡ P.InStep
  pub room : s.held + length bits < block_length s.setup.k

module _ (s : Receiver) (bits : Bits) (q : Quiet s bits) where
  quiet-call : (store : List ℕ) → 0 < length bits → call s bits store ≡ done (held_on s bits)
  unfolding receive
  quiet-call store h =
      let k = length_facts s.setup.k q.range.known in
      let l : length bits ≤ 8 * line_bytes = omega (arith, q.room) in
      let enough : too_short (bytes_of line_bytes bits) (length bits) ≡ false =
      le-ltb (8 * length (bytes_of line_bytes bits)) (length bits) (omega (arith, length-bytes_of line_bytes bits)) in
      let reads : reception s bits (length bits) ready ≡ held_on s bits =
      sym (reception-some s store bits (length bits) ready (λ z. omega arith) P.InStep q.in_step) ∙ step_on s bits ready (omega (arith, q.room)) in
      rw (range_in s q.range, enough, held_bits_lem bits l, reads)

  quiet_next : Quiet (holding s bits) (drop (length bits) bits)
  quiet_next =
      record {
        range =
            record {
              known = q.range.known;
              marks = q.range.marks;
              bad_row = q.range.bad_row;
              taken = q.range.taken;
              held = ap (λ (p : Phase). held_in_range p (block_length s.setup.k) (s.held + length bits)) q.in_step
                  ∙ lt-ltb (s.held + length bits) (block_length s.setup.k) q.room;
            };
        in_step = q.in_step;
        room = omega (arith, q.room, length-drop (length bits) bits);
      }

-- ---- what holds of every call holds of all

module _ (Q : Receiver → Bits → Event → List Event → Hearing → Type 0)
    (over : (s : Receiver) (bits : Bits) (store : List ℕ) (last : Event) → Q s bits last [] (hearing s (done last) store))
    (refuses : (s : Receiver) (bits : Bits) (store : List ℕ) (last : Event) (n : ℕ) → 0 < length bits → call s bits store ≡ refused n
    → Q s bits last [] (hearing s (refused n) store))
    (goes_on : (s : Receiver) (bits : Bits) (store : List ℕ) (last : Event) (x : Reception) (events : List Event) (h : Hearing) → 0 < length bits
    → call s bits store ≡ done x → Q x.state (drop x.used bits) (last_event last (meaning x.rule).event) events h
    → Q s bits last ((meaning x.rule).event ∷ events) h) where
  hear_case : (calls : ℕ) (s : Receiver) (bits : Bits) (store : List ℕ) (last : Event)
      → Q s bits last (heard_events calls s bits store) (hear calls s bits store last)
  unfolding hear heard_events
  hear_case zero s bits store last = over s bits store last
  hear_case (suc calls) s [] store last = over s [] store last
  hear_case (suc calls) s (b ∷ bs) store last =
      by_answer (call s (b ∷ bs) store) refl
      (λ x. hear_case calls x.state (drop x.used (b ∷ bs)) (receive_store s store (done x)) (last_event last (meaning x.rule).event))
    where
      by_answer : (a : Answer Reception) → call s (b ∷ bs) store ≡ a
          → ((x : Reception) → Q x.state (drop x.used (b ∷ bs)) (last_event last (meaning x.rule).event)
          (heard_events calls x.state (drop x.used (b ∷ bs)) (receive_store s store (done x)))
          (hear calls x.state (drop x.used (b ∷ bs)) (receive_store s store (done x)) (last_event last (meaning x.rule).event)))
          → Q s (b ∷ bs) last (answered_events (heard_events calls) s (b ∷ bs) store a) (answered (hear calls) s (b ∷ bs) store last a)
      by_answer (refused n) e next = refuses s (b ∷ bs) store last n (omega arith) e
      by_answer (done x) e next = goes_on s (b ∷ bs) store last x _ _ (omega arith) e (next x)

-- ---- events in a list

abbrev pub IsNone : Event → Type 0
IsNone e = e ≡ E.None

-- one that takes a block is the last other than none
takes_last : (last e : Event) → takes_block e ≡ true → last_event last e ≡ e
takes_last last E.None h = absurd (false≢true h)
takes_last last E.Sync h = refl
takes_last last (E.Bad n) h = refl
takes_last last E.Accepted h = refl
takes_last last E.Previous h = refl
takes_last last E.SequenceAlarm h = refl
takes_last last E.LengthAlarm h = refl
takes_last last (E.Ended L) h = refl
takes_last last E.Wait h = refl

abbrev pub last_events : Answer Event → List Event
last_events (refused n) = []
last_events (done e) = e ∷ []

one_more_lem : (b t : Bool) (n : ℕ) → t ≡ leb 1 n → b || t ≡ leb 1 (bit b + n)
one_more_lem true t n e = sym (le-leb 1 (1 + n) (omega arith))
one_more_lem false t n e = let z : 0 + n ≡ n = omega arith in rw z e

some_number : (p : Event → Bool) (events : List Event) → some p events ≡ leb 1 (how_many p events)
some_number p [] = refl
some_number p (e ∷ es) = one_more_lem (p e) (some p es) (how_many p es) (some_number p es)

pub some_same : (p : Event → Bool) (es fs : List Event) → how_many p es ≡ how_many p fs → some p es ≡ some p fs
some_same p es fs h = some_number p es ∙ ap (leb 1) h ∙ sym (some_number p fs)

-- a choice among those that take a block
module _ (p : Event → Bool) (only : (e : Event) → p e ≡ true → takes_block e ≡ true) where
  pub not_none : p E.None ≡ false
  not_none = ⊎_elim (λ t. absurd (false≢true (only E.None t))) (λ f. f) (either (p E.None))

  none_counted : (events : List Event) → All IsNone events → how_many p events ≡ 0
  none_counted [] a = refl
  none_counted (e ∷ es) a = rw (a.0, not_none) (omega (arith, none_counted es a.1))

  last_not : (last e : Event) → p last ≡ false → p e ≡ false → p (last_event last e) ≡ false
  last_not last E.None h f = h
  last_not last E.Sync h f = f
  last_not last (E.Bad n) h f = f
  last_not last E.Accepted h f = f
  last_not last E.Previous h f = f
  last_not last E.SequenceAlarm h f = f
  last_not last E.LengthAlarm h f = f
  last_not last (E.Ended L) h f = f
  last_not last E.Wait h f = f

-- ---- the calls of a period

pub record Told (s : Receiver) (bits : Bits) (last : Event) (events : List Event) (h : Hearing) : Type 0 where
  pub setup : h.receiver.setup ≡ s.setup
  pub taken : h.receiver.taken ≡ s.taken + how_many is_accepted events
  pub ended : h.receiver.ended ≡ s.ended || some is_ended events
  pub shown : (e : Event) → h.last ≡ done e → e ≡ last_of last events
  -- bits that complete no block bring no event and no refusal
  pub quiet : Quiet s bits → All IsNone events × (h.last ≡ done last)
  -- of bits that are one block at most, an event that takes a block is the last but none, and so is told
  pub last_taken : length bits ≤ block_length s.setup.k → (before : List Event) (e : Event) (after : List Event)
      → events ≡ before ++ (e ∷ after) → takes_block e ≡ true → All IsNone after × (h.last ≡ done e)
  pub number : length bits ≤ block_length s.setup.k → (p : Event → Bool) → ((e : Event) → p e ≡ true → takes_block e ≡ true) → p last ≡ false
      → how_many p events ≡ how_many p (last_events h.last)

pub no_event : (before : List Event) (e : Event) (after : List Event) → [] ≡ before ++ (e ∷ after) → ⊥
no_event [] e after h = let z : ◌≡◌ {A = ℕ} 0 1 = cc in omega arith
no_event (b ∷ before) e after h = let z : ◌≡◌ {A = ℕ} 0 1 = cc in omega arith

over_told : (s : Receiver) (bits : Bits) (store : List ℕ) (last : Event) → Told s bits last [] (hearing s (done last) store)
over_told s bits store last =
    record {
      setup = refl;
      taken = omega arith;
      ended = sym (or_no s.ended);
      shown = λ e h. cc;
      quiet = λ q. (tt, refl);
      last_taken = λ l before e after h t. absurd (no_event before e after h);
      number = λ l p only f. rw f;
    }

refused_told : (s : Receiver) (bits : Bits) (store : List ℕ) (last : Event) (n : ℕ) → 0 < length bits → call s bits store ≡ refused n
    → Told s bits last [] (hearing s (refused n) store)
refused_told s bits store last n h r =
    record {
      setup = refl;
      taken = omega arith;
      ended = sym (or_no s.ended);
      shown = λ e t. absurd (let z : ◌≡◌ {A = ℕ} 0 1 = cc in omega arith);
      quiet = λ q. absurd (let c = quiet-call s bits q store h in let z : ◌≡◌ {A = ℕ} 0 1 = cc in omega arith);
      last_taken = λ l before e after t u. absurd (no_event before e after t);
      number = λ l p only f. refl;
    }

-- one call more
module _ (s : Receiver) (bits : Bits) (store : List ℕ) (last : Event) (x : Reception) (events : List Event) (h : Hearing)
    (some_left : 0 < length bits) (done_x : call s bits store ≡ done x) where
  abbrev event : Event
  event = (meaning x.rule).event

  abbrev left : Bits
  left = drop x.used bits

  same_setup : x.state.setup ≡ s.setup
  same_setup = received_setup s (bytes_of line_bytes bits) (length bits) ready store x done_x

  fewer : length left + 1 ≤ length bits
  fewer =
      let u = receive_uses s (bytes_of line_bytes bits) (length bits) ready store x done_x some_left in
      omega (arith, length-drop x.used bits)

  module _ (fits : length bits ≤ block_length s.setup.k) where
    fits_next : length left ≤ block_length x.state.setup.k
    fits_next = rw same_setup (omega (arith, fewer))

    -- fewer than n bits are left, and nothing is held
    quiet-after : takes_block event ≡ true → Quiet x.state left
    quiet-after t =
        let b = (received_takes s (bytes_of line_bytes bits) (length bits) ready store x done_x).blank t in
        let room : length left < block_length x.state.setup.k = rw same_setup (omega (arith, fewer)) in
        record { range = b.range; in_step = b.in_step; room = omega (arith, b.held) }

    module _ (t : Told x.state left (last_event last event) events h) where
      last_taken_after : (before : List Event) (e : Event) (after : List Event) → event ∷ events ≡ before ++ (e ∷ after) → takes_block e ≡ true
          → All IsNone after × (h.last ≡ done e)
      last_taken_after [] e after r w =
          let same : event ≡ e = cc in
          let rest : events ≡ after = cc in
          let q = t.quiet (quiet-after (ap takes_block same ∙ w)) in
          (subst (All IsNone) rest q.0, q.1 ∙ ap done (ap (last_event last) same ∙ takes_last last e w))
      last_taken_after (b ∷ before) e after r w = t.last_taken fits_next before e after (cc) w

      number-after : (p : Event → Bool) → ((e : Event) → p e ≡ true → takes_block e ≡ true) → p last ≡ false
          → how_many p (event ∷ events) ≡ how_many p (last_events h.last)
      number-after p only f =
          ⊎_elim
          (λ y.
          let w = only event y in
          let q = t.quiet (quiet-after w) in
          rw (q.1, takes_last last event w) (omega (arith, none_counted p only events q.0)))
          (λ n. rw n (omega (arith, t.number fits_next p only (last_not p only last event f n)))) (either (p event))

  quiet_told : Told x.state left (last_event last event) events h → Quiet s bits
      → All IsNone (event ∷ events) × (h.last ≡ done last)
  quiet_told t q =
      let same : x ≡ held_on s bits = cc (quiet-call s bits q store some_left) in
      let none : event ≡ E.None = ap (λ (y : Reception). (meaning y.rule).event) same in
      let next : Quiet x.state left = subst (λ (y : Reception). Quiet y.state (drop y.used bits)) (sym same) (quiet_next s bits q) in
      let r = t.quiet next in
      ((none, r.0), r.1 ∙ ap (λ (e : Event). done (last_event last e)) none)

  goes_on_told : Told x.state left (last_event last event) events h → Told s bits last (event ∷ events) h
  goes_on_told t =
      let taking = received_takes s (bytes_of line_bytes bits) (length bits) ready store x done_x in
      record {
        setup = t.setup ∙ same_setup;
        taken = omega (arith, t.taken, taking.taken);
        ended = t.ended ∙ ap (λ (b : Bool). b || some is_ended events) taking.ended ∙ or_assoc s.ended (is_ended event) (some is_ended events);
        shown = t.shown;
        quiet = quiet_told t;
        last_taken = λ fits. last_taken_after fits t;
        number = λ fits. number-after fits t;
      }

pub told : (calls : ℕ) (s : Receiver) (bits : Bits) (store : List ℕ) (last : Event)
    → Told s bits last (heard_events calls s bits store) (hear calls s bits store last)
told = hear_case Told over_told refused_told goes_on_told
