-- A receiving call in step while a block is on the line: the bits are held behind those before, or a rule reads the block.
-- Assumes nothing.
use mathlib.Core.Path.{◌≡◌, refl, ap, ap₂, sym, ◌∙◌, subst}
use mathlib.Core.Bool.{Bool, true, false}
use mathlib.Core.List.{List, [], ◌++◌}
use Prim.Native.Nat.{ℕ, ◌+◌, ◌-◌, ◌<◌}
use native.Mathlib.Omega.{arith}
use lib.ListN.{length, length-append}
use lib.Seq.{take_all}
use lib.Dec.{ltb}
use borrow.Author.Tests.{ltb-true, ltb-false, lt-ltb}
use Rattle.crc.specs.Bits.{Bits}
use Rattle.block.specs.Lengths.{block_length}
use Rattle.block.proofs.Lengths.{length_facts}
use Rattle.block.proofs.Truth.{cond_case}
use Rattle.line.specs.Receiving.{Rule, unfinished, meaning, judge, or_wait, block_rule, Reception, stops, holding, missing, finished_row, in_step, held_in_range}
use Rattle.line.specs.Course.{World}
use Rattle.line.specs.declared.receiver.Receiver.{Receiver}
use Rattle.line.specs.declared.receiving.Phase.{Phase}
use Rattle.line.specs.declared.receiving.Phase.TheVariants as P
use Rattle.line.proofs.Delivery.Ends.{LineBlock}
use Rattle.line.proofs.Delivery.WrittenBits.{length-held_bits, length-holding, held_bits-holding}
use Rattle.line.proofs.Delivery.RuleOnLine.{Ruling, step_ruling}
use Rattle.line.proofs.Delivery.CallOnBlock.{ReceptionKept, used_with, whole_copy, none_of_length, search_step, quiet_unfinished, pass, finish}
use Rattle.line.proofs.Delivery.State.{Session, Fit, alarm_stands, Base, BusyLine}

module _ (o : Session) (fit : Fit o) (w : World) (l d : ℕ) (copy : Bits) (f : LineBlock)
    (line : BusyLine o w l d copy f) (base : Base o w) (lent : Bits) (ready : Bool) (store : List ℕ) where
  abbrev r : Receiver
  r = w.receiver

  abbrev Kept : Reception → Type 0
  Kept y = ReceptionKept o w l d copy f lent store y

  module _ (step : r.phase ≡ P.InStep) where
    held_below : r.held < block_length o.k
    held_below = ltb-true r.held (block_length o.k)
        (sym (ap (λ (p : Phase). held_in_range p (block_length o.k) r.held) step) ∙ base.held)

    held_used : r.held ≡ length line.used
    held_used =
        let t = length_facts o.k fit.known in
        sym (length-held_bits r base.array (omega (arith, held_below))) ∙ ap length (line.held.step step)

    missing_is : missing r ≡ block_length o.k - length line.used
    missing_is = ap₂ (λ (k h : ℕ). block_length k - h) base.receiver_setup.k held_used

    step_on : ltb (length lent) (missing r) ≡ true
        → Kept (record { rule = unfinished; row = []; used = length lent; state = holding r lent })
    step_on e ok =
        let t = length_facts o.k fit.known in
        let m = ltb-true (length lent) (missing r) e in
        pass o fit w l d copy f line base lent store ok.store ok.line.0 ok.line.1 unfinished (length lent)
        (holding r lent) refl
        (quiet_unfinished (ap alarm_stands step))
        (record {
          setup = base.receiver_setup;
          array = length-holding r lent;
          bad_row = base.bad_row;
          held = in_range;
          taken = refl;
          ended = refl;
          phase = refl;
        })
        (record {
          step = λ p. held_bits-holding r lent base.array (omega (arith, m, missing_is, held_used))
              ∙ ap (λ (y : Bits). y ++ lent) (line.held.step step);
          search = λ p. absurd (search_step p step);
        })
        line.busy (λ a. refl)
        (λ z. absurd (omega (arith, m, missing_is, used_with o w l d copy f line lent ok.line.0 ok.line.1, ap length z)))
      where
        in_range : held_in_range r.phase (block_length o.k) (r.held + length lent) ≡ true
        in_range =
            ap (λ (p : Phase). held_in_range p (block_length o.k) (r.held + length lent)) step
            ∙ lt-ltb (r.held + length lent) (block_length o.k)
            (omega (arith, ltb-true (length lent) (missing r) e, missing_is, held_used))

    abbrev rule : Rule
    rule = block_rule r (finished_row r lent) ready

    step_end : ltb (length lent) (missing r) ≡ false
        → Kept (stops r rule (finished_row r lent) (missing r))
    step_end e ok =
        let m = ltb-false (length lent) (missing r) e in
        let n = used_with o w l d copy f line lent ok.line.0 ok.line.1 in
        let z : ok.line.0 ≡ [] = none_of_length ok.line.0 (omega (arith, missing_is)) in
        let row : finished_row r lent ≡ copy =
        ap₂ ◌++◌ (line.held.step step) (take_all (missing r) lent (omega (arith, missing_is)))
        ∙ sym (whole_copy o w l d copy f line lent ok.line.0 ok.line.1 z) in
        let same : rule ≡ or_wait ready (judge o.marks.in_use o.k r.taken r.ended copy) =
        ap (λ (y : Bits). block_rule r y ready) row
        ∙ ap₂ (λ (m : Bool) (k : ℕ). or_wait ready (judge m k r.taken r.ended copy)) base.receiver_setup.in_use base.receiver_setup.k
        in
        finish o fit w l d copy f line base lent store ok.store rule (finished_row r lent)
        (missing r)
        (omega (arith, missing_is, ap length ok.line.1, length-append lent ok.line.0, ap length z)) (λ t. row)
        (ap alarm_stands step)
        (subst (Ruling o fit w l d copy f line) (sym same)
        (step_ruling o fit w l d copy f line step ready
        (λ s. (ok.sync_at_last (ap (λ (x : Rule). (meaning x).event) same ∙ s)).0)
        (λ b. ap (λ (x : Rule). (meaning x).data_or_end) (sym same) ∙ ok.sync_not_data b)))

    pub kept_in_step : Kept (in_step r lent ready)
    unfolding in_step
    kept_in_step = cond_case Kept (ltb (length lent) (missing r)) step_on step_end
