-- The receiving calls of a period, one call at a time. Assumes nothing.
use mathlib.Core.Path.{◌≡◌, refl, sym, ap, ◌∙◌}
use mathlib.Core.List.{List, [], ◌∷◌}
use Prim.Native.Nat.{ℕ, zero, suc, ◌-◌, ◌*◌, ◌≤◌, ◌<◌}
use native.Mathlib.Omega.{arith}
use lib.ListN.{length, take, drop, length-drop}
use lib.Seq.{take_at, drop-append-le, length-take-le}
use Rattle.crc.specs.Bits.{Bits, bits_of, bytes_of, zeros}
use Rattle.crc.proofs.Bytes.{length-bits_of, length-bytes_of, bits_of-bytes_of, bytes_of-zeros}
use Rattle.block.specs.Answer.{Answer, refused, done}
use Rattle.line.specs.Receiving.{Reception, Report, meaning, receive, receive_store, reported, Receive}
use Rattle.line.specs.declared.Refusal.{Refusal}
use Rattle.line.specs.Refusals.{refusal_number}
use Rattle.line.specs.declared.receiving.Received.{Received}
use Rattle.std.proofs.Common.{Ok, Err}
use Rattle.line.specs.declared.receiver.Step.{Step}
use Rattle.line.specs.declared.receiver.Receiver.{Receiver}
use Rattle.line.specs.declared.receiving.Event.{Event}
use Rattle.session.specs.Period.{line_bytes, invert_first, arriving, Lent, disturbed, last_event, ready, Hearing, hearing, answered, hear}
use Rattle.session.specs.declared.period.Kind.{Kind}
use Rattle.session.specs.declared.period.Kind.TheVariants as K
use Rattle.session.proofs.Sent.{inverted_packed}
use Rattle.session.proofs.Uses.{receive_uses}

-- enough calls are enough
hear_calls : (f g : ℕ) (s : Receiver) (bits : Bits) (store : List ℕ) (last : Event) → length bits ≤ f → length bits ≤ g
    → hear f s bits store last ≡ hear g s bits store last
unfolding hear
hear_calls zero zero s bits store last hf hg = refl
hear_calls zero (suc g) s [] store last hf hg = refl
hear_calls zero (suc g) s (b ∷ bs) store last hf hg = absurd (omega arith)
hear_calls (suc f) zero s [] store last hf hg = refl
hear_calls (suc f) zero s (b ∷ bs) store last hf hg = absurd (omega arith)
hear_calls (suc f) (suc g) s [] store last hf hg = refl
hear_calls (suc f) (suc g) s (b ∷ bs) store last hf hg = by_answer (receive s (bytes_of line_bytes (b ∷ bs)) (length (b ∷ bs)) ready store) refl
    (λ x n.
    hear_calls f g x.state (drop x.used (b ∷ bs)) (receive_store s store (done x)) (last_event last (meaning x.rule).event)
    (rw length-drop (omega arith)) (rw length-drop (omega arith)))
  where
    by_answer : (a : Answer Reception) → receive s (bytes_of line_bytes (b ∷ bs)) (length (b ∷ bs)) ready store ≡ a
        → ((x : Reception) → 0 < x.used
        → hear f x.state (drop x.used (b ∷ bs)) (receive_store s store (done x)) (last_event last (meaning x.rule).event)
        ≡ hear g x.state (drop x.used (b ∷ bs)) (receive_store s store (done x)) (last_event last (meaning x.rule).event))
        → answered (hear f) s (b ∷ bs) store last a ≡ answered (hear g) s (b ∷ bs) store last a
    by_answer (refused n) e next = refl
    by_answer (done x) e next = next x (receive_uses s (bytes_of line_bytes (b ∷ bs)) (length (b ∷ bs)) ready store x e (omega arith)).0

-- the bits that a packed array holds
pub held_bits_lem : (bits : Bits) → length bits ≤ 8 * line_bytes → take (length bits) (bits_of (bytes_of line_bytes bits)) ≡ bits
held_bits_lem bits h = rw (bits_of-bytes_of line_bytes bits h) (take_at bits (zeros (8 * line_bytes - length bits)) (length bits) refl)

pub lent_packed : (bits : Bits) → length bits ≤ 8 * line_bytes → Lent (bytes_of line_bytes bits) (length bits)
lent_packed bits h = (h, ap (bytes_of line_bytes) (sym (held_bits_lem bits h)))

lent_length : (line : List ℕ) (count : ℕ) → Lent line count → length (take count (bits_of line)) ≡ count
lent_length line count l =
    length-take-le count (bits_of line)
    (rw (length-bits_of line, l.1, length-bytes_of line_bytes (take count (bits_of line))) l.0)

-- the array with bits used: the others moved to its start
moved : (bits : Bits) (used : ℕ) → length bits ≤ 8 * line_bytes → used ≤ length bits
    → bytes_of line_bytes (drop used (bits_of (bytes_of line_bytes bits))) ≡ bytes_of line_bytes (drop used bits)
moved bits used h u =
    rw (bits_of-bytes_of line_bytes bits h, drop-append-le used bits (zeros (8 * line_bytes - length bits)) u)
    (bytes_of-zeros line_bytes (drop used bits) (8 * line_bytes - length bits))

-- one call more: what it leaves is lent, and the calls from there on give the rest
module _ (s : Receiver) (store : List ℕ) (last : Event) (x : Reception) where
  rest : Bits → Hearing
  rest bits = hear (length bits) x.state bits (receive_store s store (done x)) (last_event last (meaning x.rule).event)

  first_call : (bits : Bits) → receive s (bytes_of line_bytes bits) (length bits) ready store ≡ done x → 0 < length bits
      → hear (length bits) s bits store last ≡ rest (drop x.used bits)
  unfolding hear rest
  first_call [] e h = absurd (omega arith)
  first_call (b ∷ bs) e h =
      let u = receive_uses s (bytes_of line_bytes (b ∷ bs)) (length (b ∷ bs)) ready store x e h in
      rw e
      (hear_calls (length bs) (length (drop x.used (b ∷ bs))) x.state (drop x.used (b ∷ bs)) (receive_store s store (done x))
      (last_event last (meaning x.rule).event) (rw length-drop (omega arith)) (omega arith))

  pub record More (line : List ℕ) (left : ℕ) (line' : List ℕ) : Type 0 where
    pub uses : (0 < x.used) × (x.used ≤ left)
    pub lent : Lent line' (left - x.used)
    pub goes_on : hear left s (take left (bits_of line)) store last
        ≡ hear (left - x.used) x.state (take (left - x.used) (bits_of line')) (receive_store s store (done x))
        (last_event last (meaning x.rule).event)

  packed_more : (bits : Bits) → length bits ≤ 8 * line_bytes → 0 < length bits
      → receive s (bytes_of line_bytes bits) (length bits) ready store ≡ done x
      → More (bytes_of line_bytes bits) (length bits) (bytes_of line_bytes (drop x.used (bits_of (bytes_of line_bytes bits))))
  unfolding rest
  packed_more bits l h e =
      let u = receive_uses s (bytes_of line_bytes bits) (length bits) ready store x e h in
      let d : Bits = drop x.used bits in
      let n : length d ≡ length bits - x.used = length-drop x.used bits in
      let f : length d ≤ 8 * line_bytes = omega arith in
      let m : bytes_of line_bytes (drop x.used (bits_of (bytes_of line_bytes bits))) ≡ bytes_of line_bytes d = moved bits x.used l (omega arith) in
      record {
        uses = (u.0, omega arith);
        lent = rw (m, ← n) (lent_packed d f);
        goes_on = rw (m, ← n, held_bits_lem bits l, held_bits_lem d f) (first_call bits e h);
      }

  pub call_more : (line : List ℕ) (left : ℕ) → Lent line left → 0 < left → receive s line left ready store ≡ done x
      → More line left (bytes_of (length line) (drop x.used (bits_of line)))
  call_more line left l h e =
      let n : length (take left (bits_of line)) ≡ left = lent_length line left l in
      let m : length line ≡ line_bytes = ap length l.1 ∙ length-bytes_of line_bytes (take left (bits_of line)) in
      rw m (lent_more (take left (bits_of line)) n l.1)
    where
      lent_more : (bits : Bits) → length bits ≡ left → line ≡ bytes_of line_bytes bits
          → More line left (bytes_of line_bytes (drop x.used (bits_of line)))
      lent_more bits n p =
          let g : receive s (bytes_of line_bytes bits) (length bits) ready store ≡ done x = rw (← p, n) e in
          rw (p, ← n) (packed_more bits (omega arith) (omega arith) g)

pub call_refused : (s : Receiver) (line : List ℕ) (left : ℕ) (store : List ℕ) (last : Event) (n : ℕ) → Lent line left → 0 < left
    → receive s line left ready store ≡ refused n → hear left s (take left (bits_of line)) store last ≡ hearing s (refused n) store
unfolding hear
call_refused s line left store last n l h e = from_bits (take left (bits_of line)) (lent_length line left l) l.1
  where
    packed : (bits : Bits) → 0 < length bits → receive s (bytes_of line_bytes bits) (length bits) ready store ≡ refused n
        → hear (length bits) s bits store last ≡ hearing s (refused n) store
    packed [] g e = absurd (omega arith)
    packed (b ∷ bs) g e = rw e

    from_bits : (bits : Bits) → length bits ≡ left → line ≡ bytes_of line_bytes bits
        → hear left s bits store last ≡ hearing s (refused n) store
    from_bits bits n p = rw (← n) (packed bits (omega arith) (rw (← p, n) e))

-- what a call answered says what it did
pub reported_refused : (a : Answer Reception) (n : ℕ) → refused n ≡ reported a → a ≡ refused n
reported_refused (refused m) n e = cc
reported_refused (done x) n e = absurd (let z : ◌≡◌ {A = ℕ} 0 1 = cc in omega arith)

pub reported_done : (a : Answer Reception) (event : Event) (used : ℕ) → done (record { event = event; used = used }) ≡ reported a
    → (x : Reception) × ((a ≡ done x) × ((event ≡ (meaning x.rule).event) × (used ≡ x.used)))
reported_done (refused m) event used e = absurd (let z : ◌≡◌ {A = ℕ} 0 1 = cc in omega arith)
reported_done (done x) event used e =
    let r : ◌≡◌ {A = Report} (record { event = event; used = used }) (record { event = (meaning x.rule).event; used = x.used }) = cc in
    (x, (refl, (ap (λ (t : Report). t.event) r, ap (λ (t : Report). t.used) r)))

-- ---- by the call's promise

module _ (s : Receiver) (line : List ℕ) (left : ℕ) (store : List ℕ) (last : Event) (step : Step) (store' : List ℕ)
    (lent : Lent line left) (some_left : 0 < left) (kept : Receive s line left ready store step store') where
  pub call-refusal : (r : Refusal) → step.answer ≡ Err r
      → hear left s (take left (bits_of line)) store last ≡ hearing step.state (refused (refusal_number r)) store'
  call-refusal r e =
      let n : ℕ = refusal_number r in
      let a : receive s line left ready store ≡ refused n =
      reported_refused (receive s line left ready store) n (rw e at kept.answers) in
      rw (kept.state, kept.writes, a) (call_refused s line left store last n lent some_left a)

  pub record Progress (event : Event) (used : ℕ) (line' : List ℕ) : Type 0 where
    pub uses : (0 < used) × (used ≤ left)
    pub lent-next : Lent line' (left - used)
    pub goes_on : hear left s (take left (bits_of line)) store last
        ≡ hear (left - used) step.state (take (left - used) (bits_of line')) store' (last_event last event)

  progress_at : (x : Reception) (event : Event) (used : ℕ) → receive s line left ready store ≡ done x → event ≡ (meaning x.rule).event
      → used ≡ x.used → Progress event used (bytes_of (length line) (drop used (bits_of line)))
  progress_at x event used a ev u =
      let m = call_more s store last x line left lent some_left a in
      record {
        uses = rw u m.uses;
        lent-next = rw u m.lent;
        goes_on = rw (u, ev, kept.state, kept.writes, a) m.goes_on;
      }

  pub progress : (x : Received) → step.answer ≡ Ok x
      → Progress x.event x.bits (bytes_of (length line) (drop x.bits (bits_of line)))
  progress x e =
      let r = reported_done (receive s line left ready store) x.event x.bits (rw e at kept.answers) in
      progress_at r.0 x.event x.bits r.1.0 r.1.1.0 r.1.1.1

-- ---- damage

length-invert_first : (bits : Bits) → length (invert_first bits) ≡ length bits
length-invert_first [] = refl
length-invert_first (b ∷ bs) = refl

pub length-arriving : (kind : Kind) (bits : Bits) → length (arriving kind bits) ≡ length bits
length-arriving K.Undisturbed bits = refl
length-arriving K.Turned bits = refl
length-arriving K.Damaged bits = length-invert_first bits

disturbed_packed : (kind : Kind) (bits : Bits) → 0 < length bits
    → disturbed kind (bytes_of line_bytes bits) ≡ bytes_of line_bytes (arriving kind bits)
disturbed_packed K.Undisturbed bits h = refl
disturbed_packed K.Turned bits h = refl
disturbed_packed K.Damaged bits h = inverted_packed bits h

-- the array as it arrives
pub record Arrives (kind : Kind) (line : List ℕ) (count : ℕ) : Type 0 where
  pub lent : Lent (disturbed kind line) count
  pub bits : take count (bits_of (disturbed kind line)) ≡ arriving kind (take count (bits_of line))

pub arrives : (kind : Kind) (line : List ℕ) (count : ℕ) → Lent line count → 0 < count → Arrives kind line count
arrives kind line count l h = from_bits (take count (bits_of line)) refl (lent_length line count l) l.1
  where
    from_bits : (bits : Bits) → take count (bits_of line) ≡ bits → length bits ≡ count → line ≡ bytes_of line_bytes bits
        → Arrives kind line count
    from_bits bits t n p =
        let a : Bits = arriving kind bits in
        let m : length a ≡ count = length-arriving kind bits ∙ n in
        let d : disturbed kind line ≡ bytes_of line_bytes a = ap (disturbed kind) p ∙ disturbed_packed kind bits (omega arith) in
        let f : length a ≤ 8 * line_bytes = omega arith in
        record {
          lent = rw (d, ← m) (lent_packed a f);
          bits = rw (d, t, ← m) (held_bits_lem a f);
        }
