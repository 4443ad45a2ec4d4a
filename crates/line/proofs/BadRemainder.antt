-- What a bad event's number says. Assumes nothing.
use mathlib.Core.Path.{◌≡◌, refl, sym, ap, ◌∙◌, subst}
use mathlib.Core.Bool.{Bool, true, false, true≢false, false≢true}
use mathlib.Core.List.{List, []}
use mathlib.Core.Logic.{◌↔◌}
use Prim.Native.Nat.{ℕ}
use native.Mathlib.Omega.{arith}
use borrow.Author.Tests.{ne_eqb}
use lib.ListN.{take}
use Rattle.crc.specs.Bits.{Bits, number, bits_of}
use Rattle.crc.specs.Polynomial.{polynomial, Remainder}
use Rattle.crc.specs.Check.{remainder, passes}
use Rattle.crc.proofs.Division.{remainder_is, passes-remainder}
use Rattle.block.specs.Answer.{done}
use Rattle.block.specs.Block.{service_of, payload_of, Verdict, passed, failed, verdict, cancelled}
use Rattle.block.proofs.Block.{cancelled_front, cancelled-verdict}
use Rattle.block.proofs.Passing.{verdict_passed, verdict_failed}
use Rattle.block.proofs.Truth.{cond_case}
use Rattle.line.specs.Order.{item_service, item_bits}
use Rattle.line.specs.Sending.{item, sent_bits}
use Rattle.line.specs.Receiving.{Rule, unfinished, standing, sequence_found, reads_sync, check_fails, accepts, previous, out_of_sequence, ends, wrong_length, ends_again, anything_else, waits, meaning, verdict_rule, looks_sync, judge, or_wait, block_rule, missing, Reception, stops, idle_rule, reception, receive, reported}
use Rattle.line.specs.BadRemainder.{ReadsInStep, BadRemainder}
use Rattle.line.specs.declared.marks.Marks.{Marks}
use Rattle.line.specs.declared.receiver.Receiver.{Receiver}
use Rattle.line.specs.declared.receiving.Phase.{Phase}
use Rattle.line.specs.declared.receiving.Phase.TheVariants as P
use Rattle.line.specs.declared.receiving.Event.{Event}
use Rattle.line.specs.declared.receiving.Event.TheVariants as E
use Rattle.line.proofs.Items.{passes-item_bits, item_bits-long, service_item_bits, item_service-not_sync}
use Rattle.line.proofs.OrWait.{same_data_or_end}
use Rattle.line.proofs.BlockFinished.{rule_failed}
use Rattle.line.proofs.InStepBits.{step_done}
use Rattle.line.proofs.ReceivingCall.{in_range, held_step, reception-some, length-lent, heard}
use Rattle.line.proofs.ReceptionCases.{received_case}
use Rattle.line.proofs.Delivery.BlockRules.{service_case}

-- ---- the number

abbrev is_bad : Event → Bool
is_bad E.None = false
is_bad E.Sync = false
is_bad (E.Bad n) = true
is_bad E.Accepted = false
is_bad E.Previous = false
is_bad E.SequenceAlarm = false
is_bad E.LengthAlarm = false
is_bad (E.Ended L) = false
is_bad E.Wait = false

not_bad : (v : Event) (n : ℕ) → is_bad v ≡ false → v ≡ E.Bad n → ⊥
not_bad v n h e = false≢true (sym h ∙ ap is_bad e)

-- rules 3 to 6 report no bad block
data_not_bad : (x : Rule) → (meaning x).data_or_end ≡ true → is_bad (meaning x).event ≡ false
data_not_bad unfinished d = refl
data_not_bad (standing alarm) d = absurd (false≢true d)
data_not_bad sequence_found d = refl
data_not_bad reads_sync d = refl
data_not_bad (check_fails r) d = absurd (false≢true d)
data_not_bad accepts d = refl
data_not_bad previous d = refl
data_not_bad out_of_sequence d = refl
data_not_bad (ends L) d = refl
data_not_bad wrong_length d = refl
data_not_bad ends_again d = refl
data_not_bad anything_else d = absurd (false≢true d)
data_not_bad waits d = refl

-- what a rule that reports a bad block says of a row: the number is its remainder, and 0 by rule 7 alone
abbrev Shows : Bits → Rule → Type 0
Shows row x = (n : ℕ) → (meaning x).event ≡ E.Bad n → (n ≡ remainder row) × ((n ≡ 0) ↔ (x ≡ anything_else))

module _ (row : Bits) where
  other_event : (x : Rule) → is_bad (meaning x).event ≡ false → Shows row x
  other_event x h n e = absurd (not_bad (meaning x).event n h e)

  fails_shows : (x : ℕ) → verdict row ≡ failed x → Shows row (check_fails x)
  unfolding verdict
  fails_shows x q n e =
      let f = verdict_failed (passes row) (number (service_of row)) (remainder row) x q in
      let same : n ≡ x = cc in (
        same ∙ sym f.1,
        (
          λ z. absurd (true≢false (sym ((passes-remainder row).1 (f.1 ∙ sym same ∙ z)) ∙ f.0)),
          λ y. absurd (let z : ◌≡◌ {A = ℕ} 0 1 = cc in omega arith),
        ),
      )

  other_shows : (service : ℕ) → verdict row ≡ passed service → Shows row anything_else
  unfolding verdict
  other_shows service q n e =
      let none : n ≡ 0 = cc in
      let p = verdict_passed (passes row) (number (service_of row)) (remainder row) service q in
      (none ∙ sym ((passes-remainder row).0 p), (λ z. refl, λ y. none))

  module _ (in_use : Bool) (k r : ℕ) (ended ready : Bool) where
    verdict_shows : (v : Verdict) → verdict row ≡ v → Shows row (or_wait ready (verdict_rule in_use k r ended row v))
    verdict_shows (failed x) q = fails_shows x q
    verdict_shows (passed service) q =
        service_case (λ (x : Rule). Shows row (or_wait ready x))
        (λ x d w. other_event (or_wait ready x) (data_not_bad (or_wait ready x) (same_data_or_end ready x ∙ d))) (other_shows service q)
        in_use k r ended service (payload_of k row)

    block_shows : Shows row (or_wait ready (judge in_use k r ended row))
    unfolding judge
    block_shows =
        cond_case (λ (x : Rule). Shows row (or_wait ready x)) (looks_sync k row) (λ e. other_event reads_sync refl)
        (λ e. verdict_shows (verdict row) refl)

idle-not_bad : (p : Phase) → is_bad (meaning (idle_rule p)).event ≡ false
idle-not_bad P.Search = refl
idle-not_bad P.InStep = refl
idle-not_bad P.SequenceAlarm = refl
idle-not_bad P.LengthAlarm = refl

shows : (s : Receiver) (line : List ℕ) (count : ℕ) (ready : Bool) (store : List ℕ) (x : Reception)
    → receive s line count ready store ≡ done x → Shows x.row x.rule
shows s line count ready store x =
    received_case s line count ready (λ (x : Reception). Shows x.row x.rule)
    (λ z. other_event [] (idle_rule s.phase) (idle-not_bad s.phase)) (λ window used e. other_event [] unfinished refl)
    (λ p used h e. other_event [] sequence_found refl) (other_event [] unfinished refl)
    (λ p h. block_shows _ s.setup.marks.in_use s.setup.k s.taken s.ended ready)
    (other_event [] (standing E.SequenceAlarm) refl) (other_event [] (standing E.LengthAlarm) refl) store x

-- ---- the row

module _ (s : Receiver) (line : List ℕ) (count : ℕ) (ready : Bool) (store : List ℕ) (x : Reception)
    (r : receive s line count ready store ≡ done x) where
  reads_block : is_bad (meaning x.rule).event ≡ true → ReadsInStep s line count x.row
  reads_block =
      let h = heard s line count ready store x r in
      received_case s line count ready (λ (y : Reception). is_bad (meaning y.rule).event ≡ true → ReadsInStep s line count y.row)
      (λ z b. absurd (true≢false (sym b ∙ idle-not_bad s.phase))) (λ window used e b. absurd (false≢true b))
      (λ p used m e b. absurd (false≢true b))
      (λ b. absurd (false≢true b))
      (λ p m b. record { range = h.0; in_step = p; lent = h.1; complete = omega (arith, m, length-lent line count h.1); bits = refl })
      (λ b. absurd (false≢true b)) (λ b. absurd (false≢true b)) store x r

-- ---- a block that was cancelled

module _ (m : Marks) (k L : ℕ) (content : Bits) (i : ℕ) where
  abbrev row : Bits
  row = cancelled (item_bits m k L content i)

  fails_by_one : verdict row ≡ failed 1
  fails_by_one =
      let l = item_bits-long m k L content i in
      cancelled-verdict (item_bits m k L content i) (omega arith) (passes-item_bits m k L content i)

  not_sync : looks_sync k row ≡ false
  unfolding looks_sync number
  not_sync =
      let l = item_bits-long m k L content i in
      rw (
        cancelled_front 4 (item_bits m k L content i) (omega arith),
        service_item_bits m k L i content,
        ne_eqb (item_service m k L i) 5 (item_service-not_sync m k L i),
      ) refl

module _ (s : Receiver) (line : List ℕ) (count : ℕ) (ready : Bool) (store : List ℕ) (rule : Rule) (row : Bits) where
  -- a call that reads a block in step by a rule that stores nothing
  read_in_step : ReadsInStep s line count row → rule ≡ block_rule s row ready → (meaning rule).stores ≡ false
      → receive s line count ready store ≡ done (stops s rule row (missing s))
  unfolding receive
  read_in_step c e n =
      let new : Bits = take count (bits_of line) in
      let held = held_step s (in_range s c.range) c.in_step in
      let l = length-lent line count c.lent in
      let some : count ≡ 0 → ⊥ = λ z. omega arith in
      let reads : reception s new count ready ≡ stops s rule row (missing s) =
      sym (reception-some s store new count ready some P.InStep c.in_step) ∙ step_done s new ready (omega arith)
      ∙ ap (λ (x : Bits). stops s (block_rule s x ready) x (missing s)) c.bits ∙ ap (λ (x : Rule). stops s x row (missing s)) (sym e) in
      rw (c.range, c.lent, reads, n)

cancelled_shows : (s : Receiver) (line : List ℕ) (count : ℕ) (ready : Bool) (store : List ℕ) (m : Marks) (L : ℕ) (content : Bits)
    (i : ℕ) (end used : Bool) → ReadsInStep s line count (sent_bits m s.setup.k L content (item i end used true))
    → reported (receive s line count ready store) ≡ done (record { event = E.Bad 1; used = missing s })
unfolding sent_bits
cancelled_shows s line count ready store m L content i end used c =
    ap reported
    (read_in_step s line count ready store (check_fails 1) (row m s.setup.k L content i) c
    (rule_failed s (row m s.setup.k L content i) ready 1 (not_sync m s.setup.k L content i) (fails_by_one m s.setup.k L content i))
    refl)

pub bad_remainder : BadRemainder
bad_remainder =
    record {
      read_in_step = λ s line count ready store x n r e. reads_block s line count ready store x r (ap is_bad e);
      of_row = λ s line count ready store x n r e.
          subst (Remainder (polynomial x.row)) (sym (shows s line count ready store x r n e).0) (remainder_is x.row);
      zero = λ s line count ready store x n r e. (shows s line count ready store x r n e).1;
      cancelled = cancelled_shows;
    }
