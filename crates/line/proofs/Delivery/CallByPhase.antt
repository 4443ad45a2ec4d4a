-- A receiving call while a block is on the line, whatever number of the next bits it is lent. Assumes nothing.
use mathlib.Core.Path.{◌≡◌, refl, ap, ap₂, sym, ◌∙◌, subst}
use mathlib.Core.Logic.{inl}
use mathlib.Core.Bool.{Bool, true, true≢false}
use mathlib.Core.List.{List, [], ◌++◌, append-nil}
use Prim.Native.Nat.{ℕ}
use native.Mathlib.Omega.{arith}
use lib.ListN.{length}
use lib.Dec.{eqb}
use borrow.Author.Tests.{eqb-true}
use Rattle.crc.specs.Bits.{Bits, bit}
use Rattle.block.proofs.Truth.{cond_case}
use Rattle.line.specs.Receiving.{standing, Reception, under_alarm, alarm_reception, by_phase, idle_rule, idle, reception}
use Rattle.line.specs.Course.{World}
use Rattle.line.specs.declared.receiver.Receiver.{Receiver}
use Rattle.line.specs.declared.receiving.Phase.{Phase}
use Rattle.line.specs.declared.receiving.Phase.TheVariants as P
use Rattle.line.specs.declared.receiving.Event.{Event}
use Rattle.line.specs.declared.receiving.Event.TheVariants as E
use Rattle.line.proofs.Delivery.Ends.{LineBlock, Busy}
use Rattle.line.proofs.Delivery.Ends as D
use Rattle.line.proofs.Delivery.Invariant.{alarmed_busy}
use Rattle.line.proofs.Delivery.BlockStep.{same_sender}
use Rattle.line.proofs.Delivery.CallOnBlock.{ReceptionKept, none_of_length, Quiet, quiet-idle, still_same, pass}
use Rattle.line.proofs.Delivery.State.{Session, N, Fit, alarm_stands, Held, Base, BusyLine}
use Rattle.line.proofs.Delivery.State as S
use Rattle.line.proofs.Delivery.CallInStep.{kept_in_step}
use Rattle.line.proofs.Delivery.CallInSearch.{in_search_lem}

module _ (o : Session) (fit : Fit o) (w : World) (l d : ℕ) (copy : Bits) (f : LineBlock)
    (line : BusyLine o w l d copy f) (base : Base o w) (lent : Bits) (store : List ℕ) where
  abbrev r : Receiver
  r = w.receiver

  abbrev Kept : Reception → Type 0
  Kept y = ReceptionKept o w l d copy f lent store y

  -- ---- 0 bits

  none_lent : length lent ≡ 0 → Kept (idle r)
  none_lent h ok =
      pass o fit w l d copy f line base lent store ok.store ok.line.0 ok.line.1
      (idle_rule r.phase) 0 r (sym h)
      (quiet-idle r.phase) (still_same o w base)
      (subst (Held r) (sym (ap (λ (y : Bits). line.used ++ y) empty ∙ append-nil line.used)) line.held)
      line.busy (λ a. refl)
      (λ z. absurd (line.more (ok.line.1 ∙ ap₂ ◌++◌ empty z)))
    where
      empty : lent ≡ []
      empty = none_of_length lent h

  -- ---- an alarm stands

  alarm_stands_lem : (e : Event) → Quiet (alarm_stands r.phase) (standing e)
      → alarm_stands r.phase ≡ true
      → Kept (alarm_reception r e (length lent))
  alarm_stands_lem e q a ok =
      pass o fit w l d copy f line base lent store ok.store ok.line.0 ok.line.1 (standing e) (length lent)
      (under_alarm r) refl q
      (record {
        setup = base.receiver_setup;
        array = base.array;
        bad_row = omega arith;
        held = base.held;
        taken = refl;
        ended = refl;
        phase = refl;
      })
      (no_block (line.used ++ lent)) busy (λ c. absurd (true≢false (sym a ∙ c)))
      (λ z. record {
        held = no_block [];
        reads = D.under_alarm_lem (same_sender w.sender r (under_alarm r) l d d)
            (record { taken = refl; ended = refl; alarm = ap bit a; danger = refl }) (ap bit a);
        clean = λ p c n. absurd (true≢false (sym a ∙ n));
      })
    where
      no_block : (u : Bits) → Held (under_alarm r) u
      no_block u = record {
        step = λ p. absurd (true≢false (sym a ∙ ap alarm_stands p));
        search = λ p. absurd (true≢false (sym a ∙ ap alarm_stands p));
      }

      busy : Busy (N o) (S.ends w.sender (under_alarm r) l d) w.sender.next f
      busy =
          let b = line.busy.basic in
          let c = alarmed_busy line.busy (ap bit a) in
          record {
            basic = record {
              low = b.low;
              high = b.high;
              taken = b.taken;
              ended = b.ended;
              lost = b.lost;
              danger = b.danger;
              finished = b.finished;
            };
            all = line.busy.all;
            state = inl (record { alarm = c.alarm; lost = c.lost; open_end = c.open_end });
          }

  -- ---- any call

  some-lent : (ready : Bool) (p : Phase) → r.phase ≡ p → Kept (by_phase r p lent ready)
  some-lent ready P.Search e = in_search_lem o fit w l d copy f line base lent store e
  some-lent ready P.InStep e = kept_in_step o fit w l d copy f line base lent ready store e
  some-lent ready P.SequenceAlarm e =
      alarm_stands_lem E.SequenceAlarm
      (subst (λ (p : Phase). Quiet (alarm_stands p) (standing E.SequenceAlarm)) (sym e) (quiet-idle P.SequenceAlarm))
      (ap alarm_stands e)
  some-lent ready P.LengthAlarm e =
      alarm_stands_lem E.LengthAlarm
      (subst (λ (p : Phase). Quiet (alarm_stands p) (standing E.LengthAlarm)) (sym e) (quiet-idle P.LengthAlarm))
      (ap alarm_stands e)

  pub reception_guaranteed : (count : ℕ) (ready : Bool) → length lent ≡ count → Kept (reception r lent count ready)
  unfolding reception
  reception_guaranteed count ready size =
      cond_case Kept (eqb count 0) (λ e. none_lent (size ∙ eqb-true count 0 e)) (λ e. some-lent ready r.phase refl)
