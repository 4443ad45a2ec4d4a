-- What a rule does with the block on the line, by what the block is: synchronising, an item that arrives as it was before
-- cancelling, or one that fails the check. Assumes nothing.
use mathlib.Core.Path.{◌≡◌, refl, ap, ap₂, sym, ◌∙◌, subst, subst₂}
use mathlib.Core.Logic.{◌⊎◌, inl, inr, ⊎_elim}
use mathlib.Core.Bool.{Bool, true, false, cond, ◌&&◌, true≢false, false≢true}
use Prim.Native.Nat.{ℕ, ◌<◌}
use native.Mathlib.Omega.{arith}
use borrow.Author.Tests.{eqb-true}
use Rattle.crc.specs.Bits.{Bits, bit}
use Rattle.block.specs.Block.{sync_block}
use Rattle.block.proofs.Truth.{and_no, cond_case}
use Rattle.line.specs.Order.{item_count, item_bits}
use Rattle.line.specs.Sending.{Block, synchronising, item}
use Rattle.line.specs.Receiving.{Rule, sequence_found, reads_sync, check_fails, accepts, previous, out_of_sequence, ends, wrong_length, ends_again, anything_else, waits, meaning, event_kind, after, judge, or_wait}
use Rattle.line.specs.Course.{World}
use Rattle.line.specs.Delivery.{is_item, read_good}
use Rattle.line.specs.declared.receiver.Receiver.{Receiver}
use Rattle.line.specs.declared.receiving.Phase.TheVariants as P
use Rattle.line.specs.declared.receiving.Event.TheVariants as E
use Rattle.line.proofs.OrWait.{same_data_or_end}
use Rattle.line.proofs.Delivery.Ends.{LineBlock, Reads, During}
use Rattle.line.proofs.Delivery.Ends as D
use Rattle.line.proofs.Delivery.Invariant.{neighbour}
use Rattle.line.proofs.Delivery.Progress.{ending_with}
use Rattle.line.proofs.Delivery.BlockRules as J
use Rattle.line.proofs.Delivery.BlockRules.{Unharmed, Judged, judged, judge_item, judge_fails, judge_sync}
use Rattle.line.proofs.Delivery.BlockStep.{ends_block, same_sender, good_in_step, unharmed_reads, waits_reads, fails_reads, other_reads}
use Rattle.line.proofs.Delivery.State.{Session, N, Fit, alarm_stands, ends_of, BusyLine, CopyOf, syncing, whole, damaged}
use Rattle.line.proofs.Delivery.State as S

-- ---- an item as it was before cancelling

-- its rule ends the block with a passing check, reports no length but L, and stores no item but item r
unharmed_facts : {k L r : ℕ} {ended : Bool} {i : ℕ} {x : Rule} → Unharmed k L r ended i x
    → (ends_block x ≡ true) × (read_good x ≡ true) × ((M : ℕ) → ending_with M (event_kind (meaning x).event) ≡ true → M ≡ L)
    × ((meaning x).stores ≡ true → (i ≡ r) × (i < item_count k L))
unharmed_facts (J.expected_item h e m) = (refl, refl, λ M n. absurd (false≢true n), λ n. (m, h))
unharmed_facts (J.last_item h e m) = (refl, refl, λ M n. absurd (false≢true n), λ n. absurd (false≢true n))
unharmed_facts (J.next_item h e m) = (refl, refl, λ M n. absurd (false≢true n), λ n. absurd (false≢true n))
unharmed_facts (J.end_again h e) = (refl, refl, λ M n. absurd (false≢true n), λ n. absurd (false≢true n))
unharmed_facts {L = L} (J.end_all h e t) = (refl, refl, λ M n. sym (eqb-true L M n), λ n. absurd (false≢true n))
unharmed_facts (J.end_short h e t) = (refl, refl, λ M n. absurd (false≢true n), λ n. absurd (false≢true n))

-- ---- the block on the line

pub not_item : {b : Block} {i : ℕ} {end used cancelled : Bool} → b ≡ item i end used cancelled → b ≡ synchronising → ⊥
not_item {b} {i} {end} {used} {cancelled} p q = let z : ◌≡◌ {A = ℕ} 0 1 = cc in omega arith

not_sync : {f : LineBlock} {i n : ℕ} → f ≡ LineBlock.item i n → f ≡ LineBlock.sync → ⊥
not_sync {f} {i} {n} p q = let z : ◌≡◌ {A = ℕ} 0 1 = cc in omega arith

module _ (o : Session) (fit : Fit o) (w : World) (l d : ℕ) (copy : Bits) (f : LineBlock)
    (line : BusyLine o w l d copy f) where
  abbrev r : Receiver
  r = w.receiver

  -- the danger left by a rule, and the reading of a block by it, at block level
  abbrev danger_left : Rule → ℕ
  danger_left x = cond (is_item w.block && read_good x) 0 d

  abbrev ReadBy : Rule → ℕ → LineBlock → Type 0
  ReadBy x m g = Reads (N o) (ends_of w l d) (S.ends w.sender (after r x) l m) g (meaning x).event

  -- a rule's work on the block
  pub record Ruling (x : Rule) : Type 0 where
    pub ends-block : ends_block x ≡ true
    pub reads : ReadBy x (danger_left x) f
    pub length : (M : ℕ) → ending_with M (event_kind (meaning x).event) ≡ true → M ≡ o.L
    pub takes : (meaning x).stores ≡ true
        → (i : ℕ) × (copy ≡ item_bits o.marks o.k o.L o.content i) × (i ≡ r.taken) × (i < N o)
    pub clean : f ≡ LineBlock.sync → copy ≡ sync_block o.k → (meaning x).event ≡ E.Sync

  during : alarm_stands r.phase ≡ false → During (ends_of w l d) w.sender.next
  during quiet = ⊎_elim (λ b. absurd (omega (arith, ap bit quiet, b.alarm))) (λ b. b.0) line.busy.state

  not_good : (b : Bool) → (b ≡ false) ⊎ (w.block ≡ synchronising) → cond (is_item w.block && b) 0 d ≡ d
  not_good b (inl e) = ap (λ (t : Bool). cond (is_item w.block && t) 0 d) e
      ∙ ap (λ (t : Bool). cond t 0 d) (and_no (is_item w.block))
  not_good b (inr e) = ap (λ (y : Block). cond (is_item y && b) 0 d) e

  -- a synchronising block that is found, in search or in step
  module _ (quiet : alarm_stands r.phase ≡ false) (q : f ≡ LineBlock.sync) where
    pub found_ruling : Ruling sequence_found
    found_ruling =
        record {
          ends-block = refl;
          reads =
              subst₂ (ReadBy sequence_found) (sym (not_good false (inl refl))) (sym q)
              (D.Reads.syncs (same_sender w.sender r (after r sequence_found) l d d) (ap bit quiet)
              (good_in_step w.sender r r.taken r.ended l d (bit r.ended) refl));
          length = λ M n. absurd (false≢true n);
          takes = λ n. absurd (false≢true n);
          clean = λ a b. refl;
        }

    sync_ruling : Ruling reads_sync
    sync_ruling =
        let y = found_ruling in
        record { ends-block = refl; reads = y.reads; length = y.length; takes = y.takes; clean = y.clean }

  -- ---- in step

  module _ (step : r.phase ≡ P.InStep) where
    quiet : alarm_stands r.phase ≡ false
    quiet = ap alarm_stands step

    fails_ruling : (remainder : ℕ) → D.NotWhole f → (f ≡ LineBlock.sync → copy ≡ sync_block o.k → ⊥) → Ruling (check_fails remainder)
    fails_ruling remainder n c =
        record {
          ends-block = refl;
          reads =
              subst (λ (m : ℕ). ReadBy (check_fails remainder) m f) (sym (not_good false (inl refl)))
              (fails_reads o w.sender r l d step f remainder n (during quiet).bad_row);
          length = λ M n. absurd (false≢true n);
          takes = λ n. absurd (false≢true n);
          clean = λ a b. absurd (c a b);
        }

    other_ruling : f ≡ LineBlock.sync → w.block ≡ synchronising → (copy ≡ sync_block o.k → ⊥) → Ruling anything_else
    other_ruling q z c =
        record {
          ends-block = refl;
          reads =
              subst₂ (ReadBy anything_else) (sym (not_good true (inr z))) (sym q)
              (other_reads o w.sender r l d step (during quiet).bad_row);
          length = λ M n. absurd (false≢true n);
          takes = λ n. absurd (false≢true n);
          clean = λ a b. absurd (c b);
        }

    -- the rule that reads the block
    abbrev rule : Rule
    rule = judge o.marks.in_use o.k r.taken r.ended copy

    whole_sync : copy ≡ sync_block o.k → rule ≡ reads_sync
    whole_sync c =
        ap (judge o.marks.in_use o.k r.taken r.ended) c
        ∙ judge_sync o.marks.in_use o.k r.taken r.ended fit.known

    synchronising_read : (ready : Bool) {x : Rule} → Judged x → x ≡ rule → f ≡ LineBlock.sync → w.block ≡ synchronising
        → (meaning (or_wait ready x)).data_or_end ≡ false → Ruling (or_wait ready x)
    synchronising_read ready J.as_sync e q z a = sync_ruling quiet q
    synchronising_read ready (J.fails remainder) e q z a =
        fails_ruling remainder (inl q) (λ p c. let v = whole_sync c in let y : ◌≡◌ {A = ℕ} 0 1 = cc in omega arith)
    synchronising_read ready {x} (J.as_data n) e q z a = absurd (true≢false (sym n ∙ sym (same_data_or_end ready x) ∙ a))
    synchronising_read ready J.as_other e q z a =
        other_ruling q z (λ c. let v = whole_sync c in let y : ◌≡◌ {A = ℕ} 0 1 = cc in omega arith)

    module _ (i : ℕ) (q : f ≡ LineBlock.item i 1) (good : is_item w.block ≡ true)
        (c : copy ≡ item_bits o.marks o.k o.L o.content i) where
      unharmed_read : (x : Rule) → Unharmed o.k o.L r.taken r.ended i x → Ruling x
      unharmed_read x a =
          let u = unharmed_facts a in
          let zero_danger : 0 ≡ danger_left x = sym (ap₂ (λ (y b : Bool). cond (y && b) 0 d) good u.1) in
          record {
            ends-block = u.0;
            reads = subst₂ (ReadBy x) zero_danger (sym q) (unharmed_reads o w.sender r l d step i x a);
            length = u.2;
            takes = λ n. let t = u.3 n in (i, c, t.0, t.1);
            clean = λ p y. absurd (not_sync q p);
          }

      -- the machine is not ready
      waits_ruling : Ruling waits
      waits_ruling =
          record {
            ends-block = refl;
            reads = subst₂ (ReadBy waits) (sym (not_good false (inl refl))) (sym q) (waits_reads o w.sender r l d step i);
            length = λ M n. absurd (false≢true n);
            takes = λ n. absurd (false≢true n);
            clean = λ p y. absurd (not_sync q p);
          }

      or_waits : (ready : Bool) (x : Rule) → Unharmed o.k o.L r.taken r.ended i x → Ruling (or_wait ready x)
      or_waits ready x (J.expected_item h e m) =
          cond_case Ruling ready (λ y. unharmed_read accepts (J.expected_item h e m)) (λ y. waits_ruling)
      or_waits ready x (J.last_item h e m) = unharmed_read previous (J.last_item h e m)
      or_waits ready x (J.next_item h e m) = unharmed_read out_of_sequence (J.next_item h e m)
      or_waits ready x (J.end_again h e) = unharmed_read ends_again (J.end_again h e)
      or_waits ready x (J.end_all h e t) =
          cond_case Ruling ready (λ y. unharmed_read (ends o.L) (J.end_all h e t)) (λ y. waits_ruling)
      or_waits ready x (J.end_short h e t) = unharmed_read wrong_length (J.end_short h e t)

    -- the rule of the block on the line, whatever it is, ready or not, where sync comes only of a synchronising block and no
    -- synchronising block is read as data or end
    pub step_ruling : (ready : Bool) → ((meaning (or_wait ready rule)).event ≡ E.Sync → w.block ≡ synchronising)
        → (w.block ≡ synchronising → (meaning (or_wait ready rule)).data_or_end ≡ false) → Ruling (or_wait ready rule)
    step_ruling ready so sd = go line.copy_of refl
      where
        go : {g : LineBlock} → CopyOf o w.block copy g → f ≡ g → Ruling (or_wait ready rule)
        go (syncing z) q =
            synchronising_read ready (judged o.marks.in_use o.k r.taken r.ended copy) refl q z (sd z)
        go (whole {i = i} z c) q =
            or_waits i q (ap is_item z) c ready rule
            (subst (λ (y : Bits). Unharmed o.k o.L r.taken r.ended i (judge o.marks.in_use o.k r.taken r.ended y)) (sym c)
            (judge_item o.marks o.k o.L o.content fit.known fit.content fit.valid r.taken r.ended i
            (neighbour (rw q at line.busy) (ap bit quiet))))
        go (damaged {i = i} z p) q =
            ⊎_elim
            (λ y. absurd (not_item z (so (ap (λ (x : Rule). (meaning (or_wait ready x)).event) y))))
            (λ y. subst (λ (x : Rule). Ruling (or_wait ready x)) (sym y) (fails_ruling _ (inr (i, q)) (λ a b. not_sync q a)))
            (judge_fails o.marks.in_use o.k r.taken r.ended copy p)

  -- a synchronising block on the line is one at block level
  pub sync_line_block : w.block ≡ synchronising → f ≡ LineBlock.sync
  sync_line_block z = go line.copy_of refl
    where
      go : {g : LineBlock} → CopyOf o w.block copy g → f ≡ g → f ≡ LineBlock.sync
      go (syncing y) q = q
      go (whole y c) q = absurd (not_item y z)
      go (damaged y c) q = absurd (not_item y z)
