-- What the machine's readiness decides. Assumes nothing.
use mathlib.Core.Path.{◌≡◌, refl, sym, ap, ◌∙◌}
use mathlib.Core.Bool.{Bool, true, false, not, cond}
use mathlib.Core.List.{List, []}
use mathlib.Core.Logic.{⊎_elim}
use Prim.Native.Nat.{ℕ, ◌*◌, ◌≤◌, ◌<◌}
use native.Mathlib.Omega.{arith}
use borrow.Author.Tests.{ltb-true, ltb-false}
use lib.Dec.{eqb, ltb}
use lib.ListN.{length, take, length-append}
use lib.Seq.{length-take-le}
use Rattle.crc.specs.Bits.{Bits, bits_of}
use Rattle.block.specs.Answer as A
use Rattle.block.specs.Answer.{Answer, done, refuse_if}
use Rattle.block.specs.Block.{payload_of}
use Rattle.block.specs.Calls.{too_short}
use Rattle.block.proofs.Truth.{either}
use Rattle.line.specs.Receiving.{Rule, meaning, judge, or_wait, held_bits, missing, finished_row, in_step, by_phase, block_rule, Reception, idle_rule, idle, receiver_in_range, judge_store, reception, receive, store_at}
use Rattle.line.specs.Readiness.{TakesNothing, Readiness}
use Rattle.line.specs.declared.receiver.Receiver.{Receiver}
use Rattle.line.specs.declared.receiving.Phase.{Phase}
use Rattle.line.specs.declared.receiving.Phase.TheVariants as P
use Rattle.line.proofs.OrWait.{at_ready, others_stay, stores_nothing, takes_nothing}
use Rattle.line.proofs.InStepBits.{held_on, step_on, step_done}
use Rattle.line.proofs.LineSearch.{search_stores}
use Rattle.line.proofs.ReceivingCall.{InRange, in_range, held_step, idle_stores, heard}
use Rattle.line.proofs.ReceptionCases.{reception_case, received_case}
use Rattle.line.proofs.Delivery.BlockRules.{is_waiting, judge_never_waits}

idle_never_waits : (p : Phase) → is_waiting (idle_rule p) ≡ false
idle_never_waits P.Search = refl
idle_never_waits P.InStep = refl
idle_never_waits P.SequenceAlarm = refl
idle_never_waits P.LengthAlarm = refl

module _ (s : Receiver) where
  no_wait : (line : List ℕ) (count : ℕ) (store : List ℕ) (x : Reception) → receive s line count true store ≡ done x
      → is_waiting x.rule ≡ false
  no_wait line count =
      received_case s line count true (λ (x : Reception). is_waiting x.rule ≡ false) (λ z. idle_never_waits s.phase)
      (λ window used e. refl) (λ p used h e. refl) refl (λ p h. block _) refl refl
    where
      block : (row : Bits) → is_waiting (block_rule s row true) ≡ false
      block row =
          ap is_waiting (at_ready (judge s.setup.marks.in_use s.setup.k s.taken s.ended row))
          ∙ judge_never_waits s.setup.marks.in_use s.setup.k s.taken s.ended row

  -- not ready, whatever the call reads stores nothing
  reads_nothing : (line : List ℕ) (count : ℕ) → (meaning (reception s (take count (bits_of line)) count false).rule).stores ≡ false
  reads_nothing line count =
      reception_case s line count false (λ (x : Reception). (meaning x.rule).stores ≡ false) (λ z. idle_stores s.phase)
      (λ window used e. refl) (λ p used h e. refl) refl
      (λ p h. stores_nothing (judge s.setup.marks.in_use s.setup.k s.taken s.ended (finished_row s (take count (bits_of line)))))
      refl refl

  any_store : (line : List ℕ) (count : ℕ) (store store' : List ℕ) → receive s line count false store ≡ receive s line count false store'
  unfolding receive
  any_store line count store store' =
      ap (λ (y : Answer Reception). refuse_if (not (receiver_in_range s)) A.spoiled (refuse_if (too_short line count) A.short y))
      (plain store ∙ sym (plain store'))
    where
      new : Bits
      new = take count (bits_of line)

      plain : (store : List ℕ) → judge_store s store (reception s new count false) ≡ done (reception s new count false)
      plain store = rw (reads_nothing line count)

  nothing : (store : List ℕ) (line : List ℕ) (count : ℕ) (x : Reception) → receive s line count false store ≡ done x → TakesNothing s store x
  nothing store line count x =
      received_case s line count false (TakesNothing s store)
      (λ z. record { stored = kept (idle_rule s.phase) [] (idle_stores s.phase); taken = refl; ended = refl })
      (λ window used e. record { stored = refl; taken = refl; ended = refl })
      (λ p used h e. record { stored = refl; taken = refl; ended = refl })
      (record { stored = refl; taken = refl; ended = refl })
      (λ p h.
      let row : Bits = finished_row s (take count (bits_of line)) in
      let x : Rule = judge s.setup.marks.in_use s.setup.k s.taken s.ended row in
      record { stored = kept (or_wait false x) row (stores_nothing x); taken = (takes_nothing s x).0; ended = (takes_nothing s x).1 })
      (record { stored = refl; taken = refl; ended = refl }) (record { stored = refl; taken = refl; ended = refl })
      store x
    where
      kept : (x : Rule) (row : Bits) → (meaning x).stores ≡ false
          → cond (meaning x).stores (store_at (s.taken * s.setup.k) (payload_of s.setup.k row) store) store ≡ store
      kept x row e = ap (λ (b : Bool). cond b (store_at (s.taken * s.setup.k) (payload_of s.setup.k row) store) store) e

-- ---- a call that completes no block

module _ (s : Receiver) (r : InRange s) (ready ready' : Bool) where
  -- without a row of n bits the two are the same, and store nothing
  abbrev Alike : Reception → Reception → Type 0
  Alike x y = x.row ≡ [] → (y ≡ x) × ((meaning x.rule).stores ≡ false)

  step_alike : s.phase ≡ P.InStep → (new : Bits) → Alike (in_step s new ready) (in_step s new ready')
  step_alike e new = ⊎_elim (λ t. held (ltb-true (length new) (missing s) t))
      (λ t n. absurd (complete (ltb-false (length new) (missing s) t) n)) (either (ltb (length new) (missing s)))
    where
      held : length new < missing s → Alike (in_step s new ready) (in_step s new ready')
      held h n =
          let same : in_step s new ready ≡ held_on s new = step_on s new ready h in
          (step_on s new ready' h ∙ sym same, ap (λ (x : Reception). (meaning x.rule).stores) same)

      complete : missing s ≤ length new → (in_step s new ready).row ≡ [] → ⊥
      complete h n =
          let row : finished_row s new ≡ [] = sym (ap (λ (x : Reception). x.row) (step_done s new ready h)) ∙ n in
          omega (
            arith,
            held_step s r e,
            ap length row,
            length-append (held_bits s) (take (missing s) new),
            length-take-le (missing s) new h,
          )

  phase_alike : (p : Phase) → s.phase ≡ p → (new : Bits) → Alike (by_phase s p new ready) (by_phase s p new ready')
  phase_alike P.Search e new n = (refl, search_stores s (held_bits s) new 0)
  phase_alike P.InStep e new n = step_alike e new n
  phase_alike P.SequenceAlarm e new n = (refl, refl)
  phase_alike P.LengthAlarm e new n = (refl, refl)

  reception_alike : (new : Bits) (count : ℕ) → Alike (reception s new count ready) (reception s new count ready')
  unfolding reception
  reception_alike new count = by_count (eqb count 0)
    where
      by_count : (b : Bool) → Alike (cond b (idle s) (by_phase s s.phase new ready)) (cond b (idle s) (by_phase s s.phase new ready'))
      by_count true n = (refl, idle_stores s.phase)
      by_count false n = phase_alike s.phase refl new n

undecided : (s : Receiver) (line : List ℕ) (count : ℕ) (ready ready' : Bool) (store : List ℕ) (x : Reception)
    → receive s line count ready store ≡ done x → x.row ≡ [] → receive s line count ready' store ≡ done x
unfolding receive
undecided s line count ready ready' store x e n =
    let h = heard s line count ready store x e in
    let a = reception_alike s (in_range s h.0) ready ready' (take count (bits_of line)) count (ap (λ (y : Reception). y.row) h.2 ∙ n) in
    let stores : (meaning x.rule).stores ≡ false = sym (ap (λ (y : Reception). (meaning y.rule).stores) h.2) ∙ a.1 in
    rw (h.0, h.1, a.0 ∙ h.2, stores)

pub readiness : Readiness
readiness =
    record {
      at_ready = at_ready;
      judged = λ s row. at_ready (judge s.setup.marks.in_use s.setup.k s.taken s.ended row);
      no_wait = no_wait;
      others = others_stay;
      takes_nothing = λ s line count store. nothing s store line count;
      any_store = any_store;
      undecided = undecided;
    }
