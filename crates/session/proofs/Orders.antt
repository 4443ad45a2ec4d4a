-- A period over the first bytes of an order is the period over the order, if those hold its length. Assumes nothing.
use mathlib.Core.Path.{◌≡◌, refl, sym, ap, ◌∙◌}
use mathlib.Core.Bool.{Bool}
use mathlib.Core.List.{List}
use mathlib.Core.Logic.{⊎_elim}
use Prim.Native.Nat.{ℕ, ◌*◌, ◌≤◌, ◌<◌}
use native.Mathlib.Omega.{arith}
use lib.ListN.{length, take, replicate}
use lib.Seq.{take_all, take-take, length-take-le}
use borrow.Author.Tests.{le-ltb}
use Rattle.crc.specs.Bits.{bits_of}
use Rattle.crc.proofs.Bytes.{take-bits_of}
use Rattle.block.specs.Answer.{Answer, refused, done}
use Rattle.block.specs.Calls.{too_short}
use Rattle.line.specs.Order.{order_bits}
use Rattle.line.specs.Sending as S
use Rattle.line.specs.Sending.{send}
use Rattle.line.specs.declared.sender.Sender.{Sender}
use Rattle.line.specs.declared.receiver.Receiver.{Receiver}
use Rattle.line.proofs.Delivery.SendStep.{setup_kept}
use Rattle.session.specs.Period.{reading_of, line_bytes, sent_result, period}
use Rattle.session.specs.declared.period.Kind.{Kind}
use Rattle.std.proofs.lemmas.Bool.{cases_lt}

module _ (m : ℕ) (order : List ℕ) (L : ℕ) (fits : L ≤ 8 * m) where
  pub short-kept : too_short (take m order) L ≡ too_short order L
  short-kept =
      ⊎_elim
      (λ (h : m < length order).
      let n : length (take m order) ≡ m = length-take-le m order (omega arith) in
      rw (n, le-ltb (8 * m) L fits, le-ltb (8 * length order) L (omega arith)))
      (λ (h : length order ≤ m). rw (take_all m order h)) (cases_lt m (length order))

  bits_kept : order_bits L (take m order) ≡ order_bits L order
  bits_kept = ap (take L) (sym (take-bits_of m order)) ∙ take-take L (8 * m) (bits_of order) fits

send-kept : (m : ℕ) (s : Sender) (order : List ℕ) (reading : Bool) (slice : List ℕ) → s.setup.length ≤ 8 * m
    → send s (take m order) reading slice ≡ send s order reading slice
unfolding send
send-kept m s order reading slice h = rw (short-kept m order s.setup.length h)

sent-kept : (m : ℕ) (kind : Kind) (s : Sender) (r : Receiver) (reading : Bool) (order store : List ℕ) (a : Answer S.Block)
    → s.setup.length ≤ 8 * m
    → sent_result kind s r reading (take m order) store a ≡ sent_result kind s r reading order store a
sent-kept m kind s r reading order store (refused n) h = refl
sent-kept m kind s r reading order store (done b) h = rw (bits_kept m order s.setup.length h)

pub period-kept : (m : ℕ) (kind : Kind) (s : Sender) (r : Receiver) (order store : List ℕ) → s.setup.length ≤ 8 * m
    → period kind s r (take m order) store ≡ period kind s r order store
unfolding period
period-kept m kind s r order store h =
    rw (send-kept m s order (reading_of kind r.back) (replicate line_bytes 0) h)
    (sent-kept m kind s r (reading_of kind r.back) order store (send s order (reading_of kind r.back) (replicate line_bytes 0)) h)

-- a period leaves what the sender's opening fixed
sent_setup : (kind : Kind) (s : Sender) (r : Receiver) (reading : Bool) (order store : List ℕ) (a : Answer S.Block)
    → (sent_result kind s r reading order store a).ends.sender.setup ≡ s.setup
sent_setup kind s r reading order store (refused n) = refl
sent_setup kind s r reading order store (done b) = setup_kept s s.next reading

pub period_setup : (kind : Kind) (s : Sender) (r : Receiver) (order store : List ℕ)
    → (period kind s r order store).ends.sender.setup ≡ s.setup
unfolding period
period_setup kind s r order store =
    sent_setup kind s r (reading_of kind r.back) order store (send s order (reading_of kind r.back) (replicate line_bytes 0))
