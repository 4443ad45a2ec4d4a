-- Demand 3 holds. Assumes nothing.
use mathlib.Core.Path.{◌≡◌, refl, ap, sym, ◌∙◌, subst, subst₂}
use mathlib.Core.Logic.{inl, ⊎_elim}
use mathlib.Core.Bool.{Bool, true, false, not, ◌||◌}
use mathlib.Core.List.{List, [], ◌∷◌, ◌++◌}
use mathlib.Core.Option.{Option}
use native.Mathlib.Omega.{arith}
use native.Mathlib.Nat.{zero-mul}
use Prim.Native.Nat.{ℕ, ◌*◌, ◌≤◌}
use lib.ListN.{length, take, drop}
use Rattle.std.specs.Prelude as Prelude
use Rattle.crc.specs.Bits.{bit, bits_of}
use borrow.Author.Tests.{not-false}
use Rattle.block.specs.Answer as A
use Rattle.block.specs.Answer.{done}
use Rattle.block.specs.Lengths.{is_length}
use Rattle.block.proofs.Refusals.{passed_test}
use Rattle.block.proofs.Truth.{or_true, or_yes, bit_true}
use Rattle.line.specs.Refusals as Refusals
use Rattle.line.specs.Marks.{marks_of, marks_in_range}
use Rattle.line.specs.Order.{filled, order_bits}
use Rattle.line.specs.Sending.{fresh_sender}
use Rattle.line.specs.Receiving.{with_length, fresh_receiver, open_receiver, opened_receiver, opening_answer, OpenReceiver}
use Rattle.line.specs.Course.{Call, World, opened, Entry, course, final}
use Rattle.line.specs.Delivery.{All, some, kind_of, is_end, is_lost, reports_end, accepted, Period, group, Undisturbed, brings, Assumptions, Guarantees, Openings, Delivery}
use Rattle.line.specs.declared.marks.Marks.{Marks}
use Rattle.line.specs.declared.sender.Sender.{Sender}
use Rattle.line.specs.declared.receiver.Receiver.{Receiver}
use Rattle.line.specs.declared.receiver.Opened as ReceiverOpened
use Rattle.line.proofs.Items.{length-order_bits}
use Rattle.line.proofs.SenderRange.{Openable, opened as sender-opened}
use Rattle.line.proofs.Delivery.Ends.{Basic}
use Rattle.line.proofs.Delivery.Invariant.{opened-idle}
use Rattle.line.proofs.Delivery.WrittenBits.{length-zero_array}
use Rattle.line.proofs.Delivery.BlockStep.{held_none}
use Rattle.line.proofs.Delivery.State.{Session, N, Fit, alarm_stands, ends_of, Base, IdleLine, Inv}
use Rattle.line.proofs.Delivery.CallList.{by_heard, Okays, okays, losts, dangers, losts_zero, Safe, safe}
use Rattle.line.proofs.Delivery.UndisturbedPeriods.{brought}
use Rattle.line.proofs.Delivery.FivePeriods.{within_five}
use Rattle.line.proofs.Delivery.Answers.{answers}

-- ---- the openings

-- what holds if a receiver is opened
record ReceiverOpens (k : ℕ) (size : Prelude.Option ℕ) (r : Receiver) : Type 0 where
  in_range : marks_in_range (marks_of size) ≡ true
  state : r ≡ fresh_receiver k (marks_of size)

receiver_opens : (k : ℕ) (size : Prelude.Option ℕ) (o : ReceiverOpened.Opened) → OpenReceiver k size o → o.answer ≡ Prelude.Ok tt
    → ReceiverOpens k size o.state
unfolding open_receiver
receiver_opens k size o h e =
    let a : open_receiver k size ≡ done tt = sym (sym (ap opening_answer e) ∙ h.answers) in
    let p = passed_test (not (is_length k)) A.block _ tt a in
    let q = passed_test (not (marks_in_range (marks_of size))) Refusals.code_size _ tt p.1 in
    record {
      in_range = not-false (marks_in_range (marks_of size)) q.0;
      state = h.state ∙ ap (opened_receiver k size) a;
    }

-- ---- both ends just opened

-- the receiver's marks are in use where the sender's are
module _ (o : Session) (m : Marks) (in_use : m.in_use ≡ o.marks.in_use) where
  abbrev start : World
  start = opened (fresh_sender o.k o.L o.marks) (fresh_receiver o.k m) o.initial_store

  start_base : marks_in_range o.marks ≡ true → marks_in_range m ≡ true → Base o start
  unfolding fresh_sender fresh_receiver
  start_base sender_in_range_lem receiver_in_range_lem =
      record {
        sender_setup = record { marks = refl; in_range = sender_in_range_lem; k = refl; L = refl };
        run = omega arith;
        receiver_setup = record { in_use = in_use; in_range = receiver_in_range_lem; k = refl };
        array = length-zero_array;
        bad_row = omega arith;
        held = refl;
        stored =
            record {
              front =
                  ap (λ (n : ℕ). take n (bits_of o.initial_store)) (zero-mul o.k)
                  ∙ sym (ap (λ (n : ℕ). take n (filled o.k o.L o.content)) (zero-mul o.k));
              rest = refl;
              size = refl;
            };
      }

  start-idle : IdleLine o start 0 0
  unfolding fresh_sender fresh_receiver
  start-idle =
      record {
        left = refl;
        held = held_none (fresh_receiver o.k m) refl;
        idle = opened-idle (N o) (ends_of start 0 0) refl refl refl refl refl refl refl refl refl refl refl refl;
      }

  start_clear : (start.receiver.taken ≡ 0) × (start.receiver.ended ≡ false) × (alarm_stands start.receiver.phase ≡ false)
  unfolding fresh_receiver
  start_clear = (refl, refl, refl)

-- ---- the end reported

length-ends : (f : ℕ → Bool) (l : Option ℕ) → with_length false f l ≡ true → with_length false (λ M. true) l ≡ true
length-ends f Option.none h = h
length-ends f (Option.some M) h = refl

entry-ends : (M : ℕ) (e : Entry) → reports_end M e ≡ true → is_end e ≡ true
entry-ends M = by_heard (λ e. is_end e ≡ true) _ (λ y. length-ends _ (kind_of y).length)

some_implies : (f g : Entry → Bool) → ((e : Entry) → f e ≡ true → g e ≡ true) → (es : List Entry) → some f es ≡ true → some g es ≡ true
some_implies f g h [] q = q
some_implies f g h (e ∷ es) q =
    ⊎_elim (λ a. ap (λ (b : Bool). b || some g es) (h e a))
    (λ a. ap (λ (b : Bool). g e || b) (some_implies f g h es a) ∙ or_yes (g e)) (or_true (f e) (some f es) q)

-- ---- the demand

basic_of : (o : Session) (w : World) (l d : ℕ) → Inv o w l d → Basic (N o) (ends_of w l d) × (bit w.receiver.ended ≡ 1 → w.receiver.taken ≡ N o)
basic_of o w l d h = ⊎_elim (λ g. (g.idle.basic, g.idle.all)) (λ g. (g.line.busy.basic, g.line.busy.all)) h.phase

-- five undisturbed periods in a row that begin before the end, if none was lost
abbrev pub FivePeriods : ℕ → List Entry → Type 0
FivePeriods k es =
    some is_lost es ≡ false → (before these behind : List Period) → (group es).periods ≡ before ++ (these ++ behind)
    → 5 ≤ length these → All (Undisturbed k) these → brings is_end before ≡ false → brings brought these ≡ true

module _ (o : Session) (fit : Fit o) (calls : List Call) (w : World) (base : Base o w) (idle : IdleLine o w 0 0)
    (none : w.receiver.taken ≡ 0) (still : w.receiver.ended ≡ false) (quiet : alarm_stands w.receiver.phase ≡ false) where
  abbrev es : List Entry
  es = course w calls

  abbrev w' : World
  w' = final w calls

  okay : Assumptions o.k o.content es → Okays o (alarm_stands w.receiver.phase) 0 es
  okay h = subst (λ (b : Bool). Okays o b 0 es) (sym quiet) (okays o es h)

  five_from : Assumptions o.k o.content es → FivePeriods o.k es
  five_from h = within_five o fit calls w 0 idle base still (okay h)

  guarantees_from : Assumptions o.k o.content es → Guarantees o.k o.L o.content o.initial_store es w'
  guarantees_from h =
      record {
        items = omega (arith, basic.taken, taken);
        stored =
            subst (λ (n : ℕ). take (n * o.k) (bits_of w'.store) ≡ take (n * o.k) (filled o.k o.L o.content)) taken
            s.inv.base.stored.front;
        untouched =
            subst (λ (n : ℕ). drop (n * o.k) (bits_of w'.store) ≡ drop (n * o.k) (bits_of o.initial_store)) taken s.inv.base.stored.rest;
        ended = λ M e. (sym taken ∙ facts.1 (ap bit (ended ∙ some_implies _ is_end (entry-ends M) es e)), s.length M e);
        alarm = λ before behind e q a. bit_true (some is_lost before) (omega (arith, (s.alarm before behind e q a).0, losts_zero before));
        no_alarm_after_end = λ before behind e q a. sym (ap (λ (b : Bool). b || some is_end before) still) ∙ (s.alarm before behind e q a).1;
        finished = λ n f. sym ended ∙ bit_true w'.receiver.ended (omega (arith, basic.finished, ap bit f, losts_zero es, ap bit n));
        progress = λ n g before these behind e six un be. five_from h n before these behind e (omega (arith, six)) un be;
        refusals = s.refusals;
      }
    where
      s : Safe o w 0 0 es w'
      s = safe o fit calls w 0 0 (record { base = base; phase = inl idle }) (okay h)

      facts : Basic (N o) (ends_of w' (losts 0 es) (dangers 0 es)) × (bit w'.receiver.ended ≡ 1 → w'.receiver.taken ≡ N o)
      facts = basic_of o w' (losts 0 es) (dangers 0 es) s.inv

      basic : Basic (N o) (ends_of w' (losts 0 es) (dangers 0 es))
      basic = facts.0

      taken : w'.receiver.taken ≡ accepted es
      taken = omega (arith, s.taken, none)

      ended : w'.receiver.ended ≡ some is_end es
      ended = s.ended ∙ ap (λ (b : Bool). b || some is_end es) still

-- ---- from the openings

module _ (k speed loop_ms L : ℕ) (sender_size receiver_size : Prelude.Option ℕ) (order : List ℕ) (s : Sender) (r : ReceiverOpened.Opened)
    (initial_store : List ℕ) (h : Openings k speed loop_ms L sender_size receiver_size order s r initial_store) where
  pub opened_well : Openable k L sender_size order s
  opened_well = sender-opened k speed loop_ms L sender_size order s (sym h.sender.answers)

  receiver_well : ReceiverOpens k receiver_size r.state
  receiver_well = receiver_opens k receiver_size r h.receiver h.not_refused

  abbrev session : Session
  session = record { marks = marks_of sender_size; k = k; L = L; content = order_bits L order; initial_store = initial_store }

  fit : Fit session
  fit =
      record {
        known = opened_well.known;
        valid = opened_well.valid;
        content = length-order_bits L order opened_well.lent;
        room = h.room;
      }

  -- the ends as opened are fresh
  abbrev fresh : World
  fresh = start session (marks_of receiver_size) (sym h.alike)

  from_fresh : (P : World → Type 0) → P fresh → P (opened s r.state initial_store)
  from_fresh P =
      subst₂ (λ (a : Sender) (b : Receiver). P (opened a b initial_store)) (sym opened_well.state) (sym receiver_well.state)

  fresh_base : Base session fresh
  fresh_base = start_base session (marks_of receiver_size) (sym h.alike) opened_well.marks receiver_well.in_range

  fresh-idle : IdleLine session fresh 0 0
  fresh-idle = start-idle session (marks_of receiver_size) (sym h.alike)

  fresh_clear : (fresh.receiver.taken ≡ 0) × (fresh.receiver.ended ≡ false) × (alarm_stands fresh.receiver.phase ≡ false)
  fresh_clear = start_clear session (marks_of receiver_size) (sym h.alike)

  pub guaranteed : (calls : List Call) → Assumptions k (order_bits L order) (course (opened s r.state initial_store) calls)
      → Guarantees k L (order_bits L order) initial_store (course (opened s r.state initial_store) calls) (final (opened s r.state initial_store) calls)
  guaranteed calls =
      from_fresh
      (λ w. Assumptions k (order_bits L order) (course w calls) → Guarantees k L (order_bits L order) initial_store (course w calls) (final w calls))
      (guarantees_from session fit calls fresh fresh_base fresh-idle fresh_clear.0 fresh_clear.1 fresh_clear.2)

  pub five : (calls : List Call) → Assumptions k (order_bits L order) (course (opened s r.state initial_store) calls)
      → FivePeriods k (course (opened s r.state initial_store) calls)
  five calls =
      from_fresh (λ w. Assumptions k (order_bits L order) (course w calls) → FivePeriods k (course w calls))
      (five_from session fit calls fresh fresh_base fresh-idle fresh_clear.0 fresh_clear.1 fresh_clear.2)

pub delivery : Delivery
unfolding Delivery
delivery k speed loop_ms L sender_size receiver_size order s r initial_store h calls run =
    record {
      answers = answers run (opened s r.state initial_store) refl refl;
      guarantees = guaranteed k speed loop_ms L sender_size receiver_size order s r initial_store h calls;
    }
