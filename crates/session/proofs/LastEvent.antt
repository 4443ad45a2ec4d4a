-- Accepted and ended are a period's last event, so that its line tells of them. Assumes nothing.
use mathlib.Core.Path.{◌≡◌, refl, sym, ap, ◌∙◌}
use mathlib.Core.Bool.{Bool, true, ◌||◌}
use mathlib.Core.List.{List}
use Prim.Native.Nat.{ℕ, ◌≤◌}
use native.Mathlib.Omega.{arith}
use lib.ListN.{length, replicate}
use Rattle.crc.specs.Bits.{Bits}
use Rattle.block.specs.Answer.{Answer, refused, done}
use Rattle.block.specs.Lengths.{block_length}
use Rattle.block.proofs.Truth.{or_no, or_yes}
use Rattle.line.specs.Order.{order_bits}
use Rattle.line.specs.Receiving.{is_accepted, is_ended, takes_block}
use Rattle.line.specs.Sending.{Block, sent_bits, send}
use Rattle.line.specs.declared.sender.Sender.{Sender}
use Rattle.line.specs.declared.receiver.Receiver.{Receiver}
use Rattle.line.specs.declared.receiving.Event.{Event}
use Rattle.line.specs.declared.receiving.Event.TheVariants as E
use Rattle.session.specs.Period.{reading_of, arriving, line_bytes, hear, as_shown, line_of, sent_result, period}
use Rattle.session.specs.LastEvent.{heard_events, sent_events, period_events, how_many, last_of, shown_events, Tells, LastEvent}
use Rattle.session.specs.declared.period.Kind.{Kind}
use Rattle.session.specs.declared.period.Line.{Line}
use Rattle.session.specs.declared.period.Shown.{Shown}
use Rattle.session.proofs.HeardEvents.{last_events, some_same, not_none, no_event, Told, told}
use Rattle.session.proofs.ReceivingCalls.{length-arriving}
use Rattle.session.proofs.Sent.{on_line}

only_accepted : (e : Event) → is_accepted e ≡ true → takes_block e ≡ true
only_accepted e h = rw h

only_ended : (e : Event) → is_ended e ≡ true → takes_block e ≡ true
only_ended e h = rw h (or_yes (is_accepted e))

-- ---- the line of what was heard

module _ (sent : Shown) (back : Bool) where
  shown_last : (w : Answer Event) → shown_events (line_of sent back w) ≡ last_events w
  shown_last (refused n) = refl
  shown_last (done e) = refl

  line_event : (w : Answer Event) (l : Line) → line_of sent back w ≡ done l → w ≡ done l.event
  line_event (refused n) l h = absurd (let z : ◌≡◌ {A = ℕ} 0 1 = cc in omega arith)
  line_event (done e) l h =
      let same : record { sent = sent; event = e; back = back } ≡ l = cc in
      ap (λ (x : Line). done x.event) same

-- ---- by the answer to the sending call

module _ (kind : Kind) (s : Sender) (r : Receiver) (reading : Bool) (order store : List ℕ) where
  module _ (b : Block) where
    abbrev bits : Bits
    bits = sent_bits s.setup.marks s.setup.k s.setup.length (order_bits s.setup.length order) b

    sent_told : Told r (arriving kind bits) E.None (heard_events (length bits) r (arriving kind bits) store)
        (hear (length bits) r (arriving kind bits) store E.None)
    sent_told = told (length bits) r (arriving kind bits) store E.None

    fits : send s order reading (replicate line_bytes 0) ≡ done b → s.setup.k ≡ r.setup.k
        → length (arriving kind bits) ≤ block_length r.setup.k
    fits e same = omega (arith, length-arriving kind bits, (on_line s order reading b e).count, ap block_length same)

  sent_tells : (a : Answer Block) → send s order reading (replicate line_bytes 0) ≡ a → s.setup.k ≡ r.setup.k
      → Tells r (sent_events kind s r order store a) (sent_result kind s r reading order store a)
  sent_tells (refused n) e same =
      record {
        last = λ before ev after h w. absurd (no_event before ev after h);
        number = λ p only. refl;
        taken = omega arith;
        ended = sym (or_no r.ended);
      }
  sent_tells (done b) e same =
      let t = sent_told b in
      let h = hear (length (bits b)) r (arriving kind (bits b)) store E.None in
      let events = heard_events (length (bits b)) r (arriving kind (bits b)) store in
      let outcome = line_of (as_shown b reading) h.receiver.back h.last in
      let shown : shown_events outcome ≡ last_events h.last = shown_last (as_shown b reading) h.receiver.back h.last in
      let told_number : (p : Event → Bool) → ((ev : Event) → p ev ≡ true → takes_block ev ≡ true) → how_many p events ≡ how_many p (shown_events outcome) =
      λ p only. t.number (fits b e same) p only (not_none p only) ∙ ap (how_many p) (sym shown) in
      record {
        last = λ before ev after g w. let q = t.last_taken (fits b e same) before ev after g w in (q.0, shown ∙ ap last_events q.1);
        number = told_number;
        taken = omega (arith, t.taken, told_number is_accepted only_accepted);
        ended = t.ended ∙ ap (λ (x : Bool). r.ended || x) (some_same is_ended events (shown_events outcome) (told_number is_ended only_ended));
      }

  sent_shows : (a : Answer Block) (l : Line) → (sent_result kind s r reading order store a).outcome ≡ done l
      → l.event ≡ last_of E.None (sent_events kind s r order store a)
  sent_shows (refused n) l h = absurd (let z : ◌≡◌ {A = ℕ} 0 1 = cc in omega arith)
  sent_shows (done b) l h = (sent_told b).shown l.event (line_event _ _ _ l h)

  sent_setup : (a : Answer Block) → (sent_result kind s r reading order store a).ends.receiver.setup ≡ r.setup
  sent_setup (refused n) = refl
  sent_setup (done b) = (sent_told b).setup

-- ---- a period

-- a period leaves what the receiver's opening fixed
pub receiver_setup : (kind : Kind) (s : Sender) (r : Receiver) (order store : List ℕ)
    → (period kind s r order store).ends.receiver.setup ≡ r.setup
unfolding period
receiver_setup kind s r order store =
    sent_setup kind s r (reading_of kind r.back) order store (send s order (reading_of kind r.back) (replicate line_bytes 0))

pub last_event_lem : LastEvent
unfolding period period_events
last_event_lem =
    record {
      tells = λ kind s r order store.
          sent_tells kind s r (reading_of kind r.back) order store (send s order (reading_of kind r.back) (replicate line_bytes 0)) refl;
      shows = λ kind s r order store.
          sent_shows kind s r (reading_of kind r.back) order store (send s order (reading_of kind r.back) (replicate line_bytes 0));
    }
