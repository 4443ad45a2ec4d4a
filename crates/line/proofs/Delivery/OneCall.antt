-- One call keeps the state of a session. Assumes nothing.
use mathlib.Core.Path.{◌≡◌, refl, ap, ap₂, sym, ◌∙◌, subst}
use mathlib.Core.Logic.{◌⊎◌, inl, inr, ⊎_elim}
use mathlib.Core.Bool.{Bool, true, false, cond, not, ◌&&◌, ◌||◌, false≢true}
use mathlib.Core.List.{List, [], ◌∷◌, ◌++◌}
use Prim.Native.Nat.{ℕ, ◌+◌, ◌*◌}
use native.Mathlib.Omega.{arith}
use lib.ListN.{length, take}
use borrow.Author.Tests.{eq-eqb}
use Rattle.crc.specs.Bits.{Bits, bit, bits_of, xor_bits}
use Rattle.crc.specs.Damage.{Damage}
use Rattle.block.specs.Answer as A
use Rattle.line.specs.Refusals as Refusals
use Rattle.block.specs.Answer.{Answer, refused, done}
use Rattle.block.specs.Lengths.{is_length, block_length}
use Rattle.block.specs.Calls.{too_short}
use Rattle.block.proofs.Truth.{cond_case, or-false, or_no}
use Rattle.line.specs.Order.{valid_length, item_count, order_bits}
use Rattle.line.specs.Sending.{Block, transmit, gave_up, send, sender_in_range, plain_bits}
use Rattle.line.specs.Receiving.{meaning, Reception, by_phase, idle_rule, idle, reception, receive, receiver_in_range, held_in_range}
use Rattle.line.specs.Course.{World, Call, sending, receiving, Heard, Entry, receive_refused, on_heard, send_entry, send_after, receive_entry, receive_after, entry, next}
use Rattle.line.specs.Delivery.{OnlyRefused, is_item, read_good, is_new}
use Rattle.line.specs.declared.sender.Sender.{Sender}
use Rattle.line.specs.declared.receiver.Receiver.{Receiver}
use Rattle.line.proofs.Items.{item_count_fits}
use Rattle.line.proofs.SenderRange.{range_in}
use Rattle.line.proofs.ReceivingCall.{length-lent, range_in as receiver-range-in}
use Rattle.line.proofs.Delivery.Ends.{LineBlock, Basic, Idle, Busy}
use Rattle.line.proofs.Delivery.Invariant.{send_keeps, read_keeps}
use Rattle.line.proofs.Delivery.SendStep.{sends_block, setup_kept, run_kept}
use Rattle.line.proofs.Delivery.CallOnBlock.{quiet-idle, not_danger, still_same, still_told}
use Rattle.line.proofs.Delivery.CallByPhase.{reception_guaranteed}
use Rattle.line.proofs.Delivery.State.{Session, N, Fit, SenderSetup, alarm_stands, ends_of, lost', danger', Base, IdleLine, BusyLine, Inv, Assumed, Guaranteed, Done, Result, Stays, Begins, Keeps}

-- ---- how a call is answered, its state in range

pub data SendAnswered (s : Sender) (reading : Bool) : Answer Block → Type 0 where
  refuses : {n : ℕ} → (n ≡ A.short) ⊎ (n ≡ Refusals.rest) → SendAnswered s reading (refused n)
  begins : s.finished ≡ false → gave_up s ≡ false → SendAnswered s reading (done (transmit s s.next reading).block)

pub data ReceiveAnswered (r : Receiver) (lent : Bits) (count : ℕ) : Answer Reception → Type 0 where
  refuses : ReceiveAnswered r lent count (refused A.short)
  hears : (ready : Bool) → length lent ≡ count → ReceiveAnswered r lent count (done (reception r lent count ready))

in_range : {b : Bool} → b ≡ true → not b ≡ true → ⊥
in_range {b} h e = false≢true (sym (ap not h) ∙ e)

pub send-answered : (s : Sender) (order : List ℕ) (reading : Bool) (slice : List ℕ) → sender_in_range s ≡ true
    → SendAnswered s reading (send s order reading slice)
unfolding send
send-answered s order reading slice h =
    cond_case (SendAnswered s reading) (not (sender_in_range s)) (λ e. absurd (in_range h e))
    (λ e. cond_case (SendAnswered s reading) (s.finished || gave_up s) (λ e. refuses (inr refl))
    (λ g. cond_case (SendAnswered s reading)
    (too_short order s.setup.length || too_short slice (block_length s.setup.k))
    (λ e. refuses (inl refl)) (λ e. let q = or-false s.finished (gave_up s) g in begins q.0 q.1)))

pub receive-answered : (r : Receiver) (line : List ℕ) (count : ℕ) (ready : Bool) (store : List ℕ) → receiver_in_range r ≡ true
    → ReceiveAnswered r (take count (bits_of line)) count (receive r line count ready store)
unfolding receive
receive-answered r line count ready store h =
    cond_case (ReceiveAnswered r (take count (bits_of line)) count) (not (receiver_in_range r)) (λ e. absurd (in_range h e))
    (λ e. cond_case (ReceiveAnswered r (take count (bits_of line)) count) (too_short line count)
    (λ e. ReceiveAnswered.refuses)
    (λ g. cond_case (ReceiveAnswered r (take count (bits_of line)) count)
    ((meaning (reception r (take count (bits_of line)) count ready).rule).stores && too_short store
    (r.taken * r.setup.k + r.setup.k))
    (λ e. ReceiveAnswered.refuses) (λ e. hears ready (length-lent line count g))))

-- ---- a call that hears nothing: refused, or a sending call

unheard_told : (o : Session) (w : World) (e : Entry) (w' : World)
    → ((f : Heard → Bool) → on_heard false f e ≡ false) → Base o w'
    → w'.receiver ≡ w.receiver → OnlyRefused e → Guaranteed o w e w'
unheard_told o w e w' none base same refusal =
    record {
      base = base;
      taken = ap (λ (r : Receiver). r.taken) same ∙ (let new : is_new e ≡ false = none _ in omega (arith, ap bit new));
      ended =
          ap (λ (r : Receiver). r.ended) same
          ∙ sym (ap (λ (b : Bool). w.receiver.ended || b) (none _) ∙ or_no w.receiver.ended);
      length = λ M h. absurd (false≢true (sym (none _) ∙ h));
      alarm =
          ap (λ (r : Receiver). alarm_stands r.phase) same
          ∙ sym (ap (λ (b : Bool). alarm_stands w.receiver.phase || b) (none _) ∙ or_no (alarm_stands w.receiver.phase));
      refusal = refusal;
    }

short_told : (o : Session) (w : World) → Base o w → Guaranteed o w (receive_refused A.short) w
short_told o w b = unheard_told o w (receive_refused A.short) w (λ f. refl) b refl refl

module _ (o : Session) (fit : Fit o) where
  -- ---- the states are in range

  basic_of : (w : World) (l d : ℕ) → Inv o w l d → Basic (N o) (ends_of w l d)
  basic_of w l d h = ⊎_elim (λ g. g.idle.basic) (λ g. g.line.busy.basic) h.phase

  pub sender_in_range_lem : (w : World) (l d : ℕ) → Inv o w l d → sender_in_range w.sender ≡ true
  sender_in_range_lem w l d h =
      let b = basic_of w l d h in
      range_in w.sender
      (record {
        known = ap is_length h.base.sender_setup.k ∙ fit.known;
        valid = ap valid_length h.base.sender_setup.L ∙ fit.valid;
        marks = h.base.sender_setup.in_range;
        first = b.low;
        last = omega (arith, b.high, ap₂ item_count h.base.sender_setup.k h.base.sender_setup.L);
        cancels = h.base.run;
      })

  pub receiver_in_range_lem : (w : World) (l d : ℕ) → Inv o w l d → receiver_in_range w.receiver ≡ true
  receiver_in_range_lem w l d h =
      let b = basic_of w l d h in
      let s = h.base.receiver_setup in
      receiver-range-in w.receiver
      (record {
        known = ap is_length s.k ∙ fit.known;
        marks = s.in_range;
        bad_row = h.base.bad_row;
        taken = omega (arith, b.taken, item_count_fits o.k o.L fit.known fit.valid);
        held = ap (λ (k : ℕ). held_in_range w.receiver.phase (block_length k) w.receiver.held) s.k ∙ h.base.held;
      })

  -- ---- no block on the line

  stays_idle : (w : World) (l d : ℕ) → IdleLine o w l d → Base o w → (lent : Bits) (store : List ℕ) → store ≡ w.store
      → Stays o w l d (receive_entry w lent store (done (idle w.receiver)))
      (receive_after w store (done (idle w.receiver)))
  stays_idle w l d g b lent store same =
      record {
        line = record {
          left = g.left;
          held = g.held;
          idle = subst (λ (n : ℕ). Idle (N o) (ends_of w l n) w.sender.next) (sym danger) g.idle;
        };
        same = ap (ends_of w l) danger;
        next = refl;
        guaranteed = still_told o w b lent store same (idle_rule w.receiver.phase) 0 w.receiver
            (quiet-idle w.receiver.phase) (still_same o w b);
      }
    where
      danger : cond (is_item w.block && read_good (idle_rule w.receiver.phase)) 0 d ≡ d
      danger = not_danger (alarm_stands w.receiver.phase) (idle_rule w.receiver.phase)
          (quiet-idle w.receiver.phase) (is_item w.block) d

  nothing_lent : (lent remaining : Bits) → [] ≡ lent ++ remaining → lent ≡ []
  nothing_lent [] remaining e = refl
  nothing_lent (b ∷ lent) remaining e = absurd (let z : ◌≡◌ {A = ℕ} 0 1 = cc in omega arith)

  idle_is : (r : Receiver) (lent : Bits) (count : ℕ) (ready : Bool) → count ≡ 0 → reception r lent count ready ≡ idle r
  unfolding reception
  idle_is r lent count ready e = ap (λ (t : Bool). cond t (idle r) (by_phase r r.phase lent ready)) (eq-eqb count 0 e)

  pub idle_hears : (w : World) (l d : ℕ) → IdleLine o w l d → Base o w
      → (lent : Bits) (count : ℕ) (store : List ℕ) (a : Answer Reception)
      → ReceiveAnswered w.receiver lent count a
      → Assumed o (alarm_stands w.receiver.phase) d (receive_entry w lent store a)
      → Stays o w l d (receive_entry w lent store a) (receive_after w store a)
  idle_hears w l d g b lent count store a ReceiveAnswered.refuses ok =
      record { line = g; same = refl; next = refl; guaranteed = short_told o w b }
  idle_hears w l d g b lent count store a (hears ready size) ok =
      let n : lent ≡ [] = nothing_lent lent ok.line.0 (sym g.left ∙ ok.line.1) in
      let e : reception w.receiver lent count ready ≡ idle w.receiver =
      idle_is w.receiver lent count ready (sym size ∙ ap length n) in
      subst (λ (y : Reception). Stays o w l d (receive_entry w lent store (done y)) (receive_after w store (done y))) (sym e)
      (stays_idle w l d g b lent store ok.store)

  pub idle_sends : (w : World) (l d : ℕ) → IdleLine o w l d → Base o w → (order : List ℕ) (reading : Bool) (copy : Bits)
      → w.sender.finished ≡ false → gave_up w.sender ≡ false
      → let b : Answer Block = done (transmit w.sender w.sender.next reading).block in
      Assumed o (alarm_stands w.receiver.phase) d (send_entry w order reading copy b)
      → Begins o w l d copy reading (send_entry w order reading copy b) (send_after w reading copy b)
  idle_sends w l d g base order reading copy fin run ok =
      let y = sends_block o fit w.sender w.receiver l d copy ok.line.1 base.sender_setup fin
      g.idle.basic w.sender.next reading (
        subst (λ (p : Bits). Damage (xor_bits copy p)) plain ok.damage,
        (λ c e. ok.not_whole c (e ∙ sym plain)),
        ok.loss,
      ) in
      record {
        line_block = y.line_block;
        sends = y.sends;
        line = record {
          used = [];
          split = refl;
          more = λ z. absurd (omega (arith, ok.line.1, ap length z));
          long = ok.line.1;
          held = g.held;
          busy = send_keeps g.idle y.sends;
          copy_of = y.copy_of;
        };
        guaranteed = unheard_told o w _ _ (λ f. refl) (record {
          sender_setup = subst (SenderSetup o) (sym setup) base.sender_setup;
          run = run_kept w.sender w.sender.next reading base.run run;
          receiver_setup = base.receiver_setup;
          array = base.array;
          bad_row = base.bad_row;
          held = base.held;
          stored = base.stored;
        }) refl tt;
      }
    where
      setup : (transmit w.sender w.sender.next reading).state.setup ≡ w.sender.setup
      setup = setup_kept w.sender w.sender.next reading

      plain : plain_bits w.sender.setup.marks w.sender.setup.k w.sender.setup.length
          (order_bits w.sender.setup.length order) (transmit w.sender w.sender.next reading).block
          ≡ plain_bits o.marks o.k o.L o.content (transmit w.sender w.sender.next reading).block
      plain = rw (ok.order, base.sender_setup.marks, base.sender_setup.k, base.sender_setup.L)

  -- ---- a block on the line

  pub busy_hears : (w : World) (l d : ℕ) (copy : Bits) (f : LineBlock) → BusyLine o w l d copy f → Base o w
      → (lent : Bits) (count : ℕ) (store : List ℕ) (a : Answer Reception) → ReceiveAnswered w.receiver lent count a
      → Assumed o (alarm_stands w.receiver.phase) d (receive_entry w lent store a)
      → Result o w l d copy f (receive_entry w lent store a) (receive_after w store a)
  busy_hears w l d copy f line b lent count store a ReceiveAnswered.refuses ok =
      record { next = inl (line, refl, (λ q. refl)); guaranteed = short_told o w b }
  busy_hears w l d copy f line b lent count store a (hears ready size) ok =
      reception_guaranteed o fit w l d copy f line b lent store count ready size ok

  -- after reading to the last bit, no block is on the line
  pub done_idle : (w : World) (l d : ℕ) (copy : Bits) (f : LineBlock) (e : Entry) (w' : World)
      → Busy (N o) (ends_of w l d) w.sender.next f → Done o w l d copy f e w' → IdleLine o w' (lost' l e) (danger' d e)
  done_idle w l d copy f e w' h y =
      record {
        left = y.left;
        held = y.held;
        idle = subst (λ (s : Sender). Idle (N o) (ends_of w' (lost' l e) (danger' d e)) s.next) (sym y.sender)
            (read_keeps h y.reads);
      }

  -- ---- any call

  pub send-call : (w : World) (l d : ℕ) → Inv o w l d → (order : List ℕ) (reading : Bool) (copy : Bits) (a : Answer Block)
      → SendAnswered w.sender reading a
      → Assumed o (alarm_stands w.receiver.phase) d (send_entry w order reading copy a)
      → Keeps o w l d (send_entry w order reading copy a) (send_after w reading copy a)
  send-call w l d h order reading copy a (refuses q) ok =
      record { inv = h; guaranteed = unheard_told o w (send_entry w order reading copy a) w (λ f. refl) h.base refl q }
  send-call w l d h order reading copy a (begins fin run) ok =
      ⊎_elim
      (λ g.
      let y = idle_sends w l d g h.base order reading copy fin run ok in
      record {
        inv = record {
          base = y.guaranteed.base;
          phase = inr (record { copy = copy; line_block = y.line_block; line = y.line });
        };
        guaranteed = y.guaranteed;
      })
      (λ g. absurd (g.line.more ok.line.0))
      h.phase

  pub hear-call : (w : World) (l d : ℕ) → Inv o w l d → (lent : Bits) (count : ℕ) (store : List ℕ) (a : Answer Reception)
      → ReceiveAnswered w.receiver lent count a
      → Assumed o (alarm_stands w.receiver.phase) d (receive_entry w lent store a)
      → Keeps o w l d (receive_entry w lent store a) (receive_after w store a)
  hear-call w l d h lent count store a q ok =
      ⊎_elim
      (λ g.
      let y = idle_hears w l d g h.base lent count store a q ok in
      record { inv = record { base = y.guaranteed.base; phase = inl y.line }; guaranteed = y.guaranteed })
      (λ g.
      let y = busy_hears w l d g.copy g.line_block g.line h.base lent count store a q ok in
      record {
        inv = record {
          base = y.guaranteed.base;
          phase =
              ⊎_elim
              (λ z. inr (record { copy = g.copy; line_block = g.line_block; line = z.0 }))
              (λ z. inl (done_idle w l d g.copy g.line_block (receive_entry w lent store a) (receive_after w store a)
              g.line.busy z))
              y.next;
        };
        guaranteed = y.guaranteed;
      })
      h.phase

  pub call_keeps : (w : World) (l d : ℕ) → Inv o w l d → (c : Call)
      → Assumed o (alarm_stands w.receiver.phase) d (entry w c)
      → Keeps o w l d (entry w c) (next w c)
  call_keeps w l d h (sending order reading slice copy) ok =
      send-call w l d h order reading copy (send w.sender order reading slice)
      (send-answered w.sender order reading slice (sender_in_range_lem w l d h)) ok
  call_keeps w l d h (receiving line count ready store) ok =
      hear-call w l d h (take count (bits_of line)) count store (receive w.receiver line count ready store)
      (receive-answered w.receiver line count ready store (receiver_in_range_lem w l d h)) ok
