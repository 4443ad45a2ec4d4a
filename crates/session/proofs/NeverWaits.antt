-- The run program's machine is always ready, so that no line shows a wait. Assumes nothing.
use mathlib.Core.Path.{◌≡◌, refl}
use mathlib.Core.Bool.{Bool, false}
use mathlib.Core.List.{List, [], ◌∷◌}
use Prim.Native.Nat.{ℕ, zero, suc}
use lib.ListN.{length, drop, replicate}
use Rattle.crc.specs.Bits.{Bits, bytes_of}
use Rattle.block.specs.Answer.{Answer, refused, done}
use Rattle.line.specs.Order.{order_bits}
use Rattle.line.specs.Sending.{Block, sent_bits, send}
use Rattle.line.specs.Receiving.{meaning, event_kind, Reception, receive, receive_store}
use Rattle.line.specs.declared.sender.Sender.{Sender}
use Rattle.line.specs.declared.receiver.Receiver.{Receiver}
use Rattle.line.specs.declared.receiving.Event.{Event}
use Rattle.line.specs.declared.receiving.Event.TheVariants as E
use Rattle.line.proofs.Readiness.{readiness}
use Rattle.session.specs.Period.{line_bytes, reading_of, arriving, last_event, answered, ready, hear, as_shown, line_of, sent_result, period, shows_wait, NeverWaits}
use Rattle.session.specs.declared.period.Kind.{Kind}
use Rattle.session.specs.declared.period.Shown.{Shown}

last_event_lem : (last e : Event) → (event_kind last).wait ≡ false → (event_kind e).wait ≡ false → (event_kind (last_event last e)).wait ≡ false
last_event_lem last E.None h w = h
last_event_lem last E.Sync h w = refl
last_event_lem last (E.Bad r) h w = refl
last_event_lem last E.Accepted h w = refl
last_event_lem last E.Previous h w = refl
last_event_lem last E.SequenceAlarm h w = refl
last_event_lem last E.LengthAlarm h w = refl
last_event_lem last (E.Ended L) h w = refl
last_event_lem last E.Wait h w = w

abbrev waits_at_last : Answer Event → Bool
waits_at_last (refused n) = false
waits_at_last (done e) = (event_kind e).wait

hear_never_waits : (calls : ℕ) (s : Receiver) (bits : Bits) (store : List ℕ) (last : Event) → (event_kind last).wait ≡ false
    → waits_at_last (hear calls s bits store last).last ≡ false
unfolding hear
hear_never_waits zero s bits store last h = h
hear_never_waits (suc calls) s [] store last h = h
hear_never_waits (suc calls) s (b ∷ bs) store last h =
    by_answer (receive s (bytes_of line_bytes (b ∷ bs)) (length (b ∷ bs)) ready store) refl
    (λ x w.
    hear_never_waits calls x.state (drop x.used (b ∷ bs)) (receive_store s store (done x)) (last_event last (meaning x.rule).event)
    (last_event_lem last (meaning x.rule).event h w))
  where
    by_answer : (a : Answer Reception) → receive s (bytes_of line_bytes (b ∷ bs)) (length (b ∷ bs)) ready store ≡ a
        → ((x : Reception) → (event_kind (meaning x.rule).event).wait ≡ false
        → waits_at_last (answered (hear calls) s (b ∷ bs) store last (done x)).last ≡ false)
        → waits_at_last (answered (hear calls) s (b ∷ bs) store last a).last ≡ false
    by_answer (refused n) e next = refl
    by_answer (done x) e next = next x (readiness.no_wait s (bytes_of line_bytes (b ∷ bs)) (length (b ∷ bs)) store x e)

shown_wait : (sent : Shown) (back : Bool) (l : Answer Event) → waits_at_last l ≡ false → shows_wait (line_of sent back l) ≡ false
shown_wait sent back (refused n) h = refl
shown_wait sent back (done e) h = h

sent : (kind : Kind) (s : Sender) (r : Receiver) (reading : Bool) (order store : List ℕ) (a : Answer Block)
    → shows_wait (sent_result kind s r reading order store a).outcome ≡ false
sent kind s r reading order store (refused n) = refl
sent kind s r reading order store (done b) =
    let bits : Bits = sent_bits s.setup.marks s.setup.k s.setup.length (order_bits s.setup.length order) b in
    let h = hear (length bits) r (arriving kind bits) store E.None in
    shown_wait (as_shown b reading) h.receiver.back h.last
    (hear_never_waits (length bits) r (arriving kind bits) store E.None refl)

pub never_waits : NeverWaits
unfolding NeverWaits period
never_waits kind s r order store =
    sent kind s r (reading_of kind r.back) order store (send s order (reading_of kind r.back) (replicate line_bytes 0))
