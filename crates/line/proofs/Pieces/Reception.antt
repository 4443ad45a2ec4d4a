-- What a call reads is what its first bits come to and then the others, in every phase. Assumes nothing.
use mathlib.Core.Path.{◌≡◌, refl, ap, ap₂, sym, ◌∙◌, subst}
use mathlib.Core.Logic.{◌⊎◌, inl, inr, ⊎_elim}
use mathlib.Core.Bool.{Bool, true, false}
use mathlib.Core.List.{[], ◌∷◌, ◌++◌, append-nil}
use native.Mathlib.Omega.{arith}
use Prim.Native.Nat.{ℕ, ◌+◌, ◌≤◌, ◌<◌}
use lib.Dec.{ltb}
use lib.ListN.{length, length-append}
use borrow.Author.Tests.{ltb-true, ltb-false, lt-ltb, le-leb}
use Rattle.crc.specs.Bits.{Bits}
use Rattle.block.specs.Lengths.{block_length}
use Rattle.line.specs.Receiving.{array_bytes, Rule, standing, meaning, held_bits, Reception, searching, search, holding, missing, finished_row, in_step, under_alarm, alarm_reception, by_phase, idle_rule, idle, reception, held_in_range, receiver_in_range}
use Rattle.line.specs.Pieces.{add_used}
use Rattle.line.specs.declared.receiver.Receiver.{Receiver}
use Rattle.line.specs.declared.receiving.Phase.{Phase}
use Rattle.line.specs.declared.receiving.Phase.TheVariants as P
use Rattle.line.specs.declared.receiving.Event.{Event}
use Rattle.line.specs.declared.receiving.Event.TheVariants as E
use Rattle.line.proofs.InStepBits.{held_on, step_on, step_done}
use Rattle.line.proofs.ReceivingCall.{InRange, range_in, held_search, reception-some}
use Rattle.block.proofs.Truth.{either}
use Rattle.line.proofs.Delivery.BlockRules.{block-judged}
use Rattle.line.proofs.Delivery.WrittenBits.{length-held_bits, held_bits-searching}
use Rattle.line.proofs.Pieces.Search.{Passed, Found, unfound, search_splits, search-add_used}
use Rattle.line.proofs.Pieces.Step.{step_add_used, step_within, judged_event}

-- what a call reads that is lent these bits, the machine ready or not
abbrev pub reads : Receiver → Bool → Bits → Reception
reads s ready new = reception s new (length new) ready

-- all of a's bits are used, and further bits are read from the state then
pub record Onward (s : Receiver) (ready : Bool) (a : Bits) (x : Reception) : Type 0 where
  pub quiet : (meaning x.rule).uses_all ≡ true
  pub used : x.used ≡ length a
  pub range : receiver_in_range x.state ≡ true
  pub k : x.state.setup.k ≡ s.setup.k
  pub taken : x.state.taken ≡ s.taken
  pub more : (b : Bits) → reads s ready (a ++ b) ≡ add_used (length a) (reads x.state ready b)

-- an event comes within a
pub record Within (s : Receiver) (ready : Bool) (a : Bits) (x : Reception) : Type 0 where
  pub event : (meaning x.rule).uses_all ≡ false
  pub more : (b : Bits) → reads s ready (a ++ b) ≡ x

abbrev pub Splits : Receiver → Bool → Bits → Reception → Type 0
Splits s ready a x = Onward s ready a x ⊎ Within s ready a x

reads_some : (s : Receiver) (ready : Bool) (p : Phase) → s.phase ≡ p → (b : Bool) (bs : Bits) → reads s ready (b ∷ bs) ≡ by_phase s p (b ∷ bs) ready
reads_some s ready p e b bs = sym (reception-some s [] (b ∷ bs) (length (b ∷ bs)) ready (λ z. absurd (omega arith)) p e)

reads_none : (s : Receiver) (ready : Bool) → reads s ready [] ≡ idle s
unfolding reception
reads_none s ready = refl

idle_uses_all : (p : Phase) → (meaning (idle_rule p)).uses_all ≡ true
idle_uses_all P.Search = refl
idle_uses_all P.InStep = refl
idle_uses_all P.SequenceAlarm = refl
idle_uses_all P.LengthAlarm = refl

module _ (s : Receiver) (ready : Bool) (r : InRange s) (array : length s.bits ≡ array_bytes) where
  none : Onward s ready [] (idle s)
  none =
      record {
        quiet = idle_uses_all s.phase;
        used = refl;
        range = range_in s r;
        k = refl;
        taken = refl;
        more = λ b. ap (λ (n : ℕ). record { rule = (reads s ready b).rule; row = (reads s ready b).row; used = n; state = (reads s ready b).state }) (omega arith);
      }

  module _ (c : Bool) (cs : Bits) where
    abbrev a : Bits
    a = c ∷ cs

    in_search_lem : s.phase ≡ P.Search → Splits s ready a (search s (held_bits s) a 0)
    in_search_lem e = ⊎_elim (λ p. inl (subst (Onward s ready a) (sym p.is) (passed p)))
        (λ f. inr (record { event = f.event; more = λ b. reads_some s ready P.Search e c (cs ++ b) ∙ f.more b })) splits
      where
        splits : Passed s (held_bits s) a 0 ⊎ Found s (held_bits s) a 0
        splits = search_splits s (held_bits s) a 0
            (omega (arith, held_search s r e, length-held_bits s array (omega (arith, held_search s r e))))

        behind : (w : Bits) → length w ≤ 15 → (b : Bits) → search s w b (0 + length a) ≡ add_used (length a) (reads (searching s w) ready b)
        behind w h [] = ap₂ (λ (x : Rule) (n : ℕ). record { rule = x; row = []; used = n; state = searching s w })
            (ap idle_rule (sym e)) (omega arith)
            ∙ ap (add_used (length a)) (sym (reads_none (searching s w) ready))
        behind w h (d ∷ b) =
            ap (search s w (d ∷ b)) (omega arith)
            ∙ search-add_used s w w (d ∷ b) (length a) 0
            ∙ ap (add_used (length a))
            (ap (λ (v : Bits). search (searching s w) v (d ∷ b) 0) (sym (held_bits-searching s w h))
            ∙ sym (reads_some (searching s w) ready P.Search e d b))

        passed : (p : Passed s (held_bits s) a 0) → Onward s ready a (unfound s p.then (0 + length a))
        passed p =
            record {
              quiet = refl;
              used = omega arith;
              range = range_in (searching s p.then) (record {
                known = r.known;
                marks = r.marks;
                bad_row = r.bad_row;
                taken = r.taken;
                held = ap (λ (q : Phase). held_in_range q (block_length s.setup.k) (length p.then)) e
                    ∙ le-leb (length p.then) 15 p.short;
              });
              k = refl;
              taken = refl;
              more = λ b. reads_some s ready P.Search e c (cs ++ b) ∙ p.more b ∙ behind p.then p.short b;
            }

    when_in_step : s.phase ≡ P.InStep → Splits s ready a (in_step s a ready)
    when_in_step e =
        ⊎_elim (λ t. let h = ltb-true (length a) (missing s) t in inl (subst (Onward s ready a) (sym (step_on s a ready h)) (held h)))
        (λ t. inr (complete (ltb-false (length a) (missing s) t))) (either (ltb (length a) (missing s)))
      where
        complete : missing s ≤ length a → Within s ready a (in_step s a ready)
        complete h =
            record {
              event = ap (λ (x : Reception). (meaning x.rule).uses_all) (step_done s a ready h)
                  ∙ judged_event (block-judged s (finished_row s a) ready);
              more = λ b. reads_some s ready P.InStep e c (cs ++ b) ∙ step_within s a b ready h;
            }

        behind : length a < missing s → (b : Bits) → in_step s (a ++ b) ready ≡ add_used (length a) (reads (holding s a) ready b)
        behind h [] =
            let n : length a ≡ length a + 0 = omega arith in
            ap (λ (x : Bits). in_step s x ready) (append-nil a) ∙ step_on s a ready h
            ∙ ap₂ (λ (x : Rule) (m : ℕ). record { rule = x; row = []; used = m; state = holding s a }) (ap idle_rule (sym e)) n
            ∙ ap (add_used (length a)) (sym (reads_none (holding s a) ready))
        behind h (d ∷ b) =
            step_add_used s array r.known a h ready (d ∷ b)
            ∙ ap (add_used (length a)) (sym (reads_some (holding s a) ready P.InStep e d b))

        held : length a < missing s → Onward s ready a (held_on s a)
        held h =
            record {
              quiet = refl;
              used = refl;
              range = range_in (holding s a) (record {
                known = r.known;
                marks = r.marks;
                bad_row = r.bad_row;
                taken = r.taken;
                held = ap (λ (q : Phase). held_in_range q (block_length s.setup.k) (s.held + length a)) e
                    ∙ lt-ltb (s.held + length a) (block_length s.setup.k) (omega arith);
              });
              k = refl;
              taken = refl;
              more = λ b. reads_some s ready P.InStep e c (cs ++ b) ∙ behind h b;
            }

    -- an alarm stands: this event, in this phase
    alarmed : (p : Phase) (alarm : Event) → s.phase ≡ p → idle_rule p ≡ standing alarm
        → ((t : Receiver) (new : Bits) → by_phase t p new ready ≡ alarm_reception t alarm (length new)) → Onward s ready a (alarm_reception s alarm (length a))
    alarmed p alarm e i st =
        record {
          quiet = refl;
          used = refl;
          range = range_in (under_alarm s) (record {
            known = r.known;
            marks = r.marks;
            bad_row = omega arith;
            taken = r.taken;
            held = r.held;
          });
          k = refl;
          taken = refl;
          more = λ b. reads_some s ready p e c (cs ++ b) ∙ st s (a ++ b)
              ∙ ap (alarm_reception s alarm) (length-append a b) ∙ ap (add_used (length a)) (sym (behind b));
        }
      where
        behind : (b : Bits) → reads (under_alarm s) ready b ≡ alarm_reception s alarm (length b)
        behind [] = reads_none (under_alarm s) ready ∙ ap (λ (x : Rule). record { rule = x; row = []; used = 0; state = under_alarm s }) (ap idle_rule e ∙ i)
        behind (d ∷ b) = reads_some (under_alarm s) ready p e d b ∙ st (under_alarm s) (d ∷ b)

    by_phase_lem : (p : Phase) → s.phase ≡ p → Splits s ready a (by_phase s p a ready)
    by_phase_lem P.Search e = in_search_lem e
    by_phase_lem P.InStep e = when_in_step e
    by_phase_lem P.SequenceAlarm e = inl (alarmed P.SequenceAlarm E.SequenceAlarm e refl (λ t new. refl))
    by_phase_lem P.LengthAlarm e = inl (alarmed P.LengthAlarm E.LengthAlarm e refl (λ t new. refl))

pub splits : (s : Receiver) (ready : Bool) → InRange s → length s.bits ≡ array_bytes → (a : Bits) → Splits s ready a (reads s ready a)
splits s ready r array [] = inl (subst (Onward s ready []) (sym (reads_none s ready)) (none s ready r array))
splits s ready r array (c ∷ cs) =
    subst (Splits s ready (c ∷ cs)) (sym (reads_some s ready s.phase refl c cs)) (by_phase_lem s ready r array c cs s.phase refl)
