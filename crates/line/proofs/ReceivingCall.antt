-- A receiving call: its range, its refusals, and what it reads by its phase. Assumes nothing.
use mathlib.Core.Path.{◌≡◌, refl, sym, ap, ◌∙◌, subst}
use mathlib.Core.Bool.{Bool, true, false, not, ◌&&◌}
use Rattle.std.specs.Prelude.{Err}
use mathlib.Core.List.{List, []}
use Prim.Native.Nat.{ℕ, ◌+◌, ◌*◌, ◌≤◌, ◌<◌}
use native.Mathlib.Omega.{arith}
use borrow.Author.Tests.{not-false, ltb-true, ltb-false, leb-true, lt-ltb, le-leb, eq-eqb, ne_eqb}
use lib.Dec.{ltb, leb}
use lib.ListN.{length, take}
use lib.Seq.{length-take-le}
use Rattle.crc.specs.Bits.{Bits, bits_of}
use Rattle.crc.proofs.Bytes.{length-bits_of}
use Rattle.block.specs.Answer as A
use Rattle.block.specs.Answer.{refused, done}
use Rattle.block.specs.Lengths.{is_length, block_length}
use Rattle.block.specs.Calls.{too_short}
use Rattle.block.proofs.Truth.{and_left, and_right}
use Rattle.block.proofs.Refusals.{passed_test}
use Rattle.line.specs.Marks.{marks_in_range}
use Rattle.line.specs.Refusals.{refusal_number}
use Rattle.line.specs.Order.{most_items}
use Rattle.line.specs.Receiving as S
use Rattle.line.specs.Receiving.{meaning, standing, under_alarm, Reception, idle_rule, idle, by_phase, reception, last_bad, held_in_range, receiver_in_range, judge_store, receive, reported, receive_state, receive_store, Receive}
use Rattle.line.specs.Code.ReceiveSteps.{stepped, handed_back, Handed}
use Rattle.line.specs.declared.receiver.Receiver.{Receiver}
use Rattle.line.specs.declared.receiving.Phase.{Phase}
use Rattle.line.specs.declared.receiving.Phase.TheVariants as P
use Rattle.line.specs.declared.receiving.Event.{Event}
use Rattle.line.specs.declared.Refusal.{Refusal}
use Rattle.line.specs.declared.Refusal.TheVariants as N
use Rattle.line.specs.declared.receiver.Step.{Step}
use Rattle.line.proofs.BlockFinished.{handed_plain}
use Rattle.line.proofs.LineSearch.{search_stores}

-- ---- the range

pub record InRange (s : Receiver) : Type 0 where
  pub known : is_length s.setup.k ≡ true
  pub marks : marks_in_range s.setup.marks ≡ true
  pub bad_row : s.bad_row < last_bad
  pub taken : s.taken ≤ most_items
  pub held : held_in_range s.phase (block_length s.setup.k) s.held ≡ true

pub in_range : (s : Receiver) → receiver_in_range s ≡ true → InRange s
unfolding receiver_in_range
in_range s e =
    let k : Bool = is_length s.setup.k in
    let m : Bool = marks_in_range s.setup.marks in
    let r : Bool = ltb s.bad_row last_bad in
    let t : Bool = leb s.taken most_items in
    let h : Bool = held_in_range s.phase (block_length s.setup.k) s.held in
    let a : k && m && r && t ≡ true = and_left (k && m && r && t) h e in
    let b : k && m && r ≡ true = and_left (k && m && r) t a in
    let c : k && m ≡ true = and_left (k && m) r b in
    record {
      known = and_left k m c;
      marks = and_right k m c;
      bad_row = ltb-true s.bad_row last_bad (and_right (k && m) r b);
      taken = leb-true s.taken most_items (and_right (k && m && r) t a);
      held = and_right (k && m && r && t) h e;
    }

pub range_in : (s : Receiver) → InRange s → receiver_in_range s ≡ true
unfolding receiver_in_range
range_in s r =
    simp (r.known, r.marks, lt-ltb s.bad_row last_bad r.bad_row, le-leb s.taken most_items r.taken, r.held)

module _ (s : Receiver) (r : InRange s) where
  pub held_search : s.phase ≡ P.Search → s.held ≤ 15
  held_search e = leb-true s.held 15 (sym (ap (λ (p : Phase). held_in_range p (block_length s.setup.k) s.held) e) ∙ r.held)

  pub held_step : s.phase ≡ P.InStep → s.held < block_length s.setup.k
  held_step e =
      ltb-true s.held (block_length s.setup.k) (sym (ap (λ (p : Phase). held_in_range p (block_length s.setup.k) s.held) e) ∙ r.held)

-- ---- by the phase

pub idle_stores : (p : Phase) → (meaning (idle_rule p)).stores ≡ false
idle_stores P.Search = refl
idle_stores P.InStep = refl
idle_stores P.SequenceAlarm = refl
idle_stores P.LengthAlarm = refl

module _ (s : Receiver) (store : List ℕ) (new : Bits) (count : ℕ) (ready : Bool) where
  pub handed_idle : count ≡ 0 → (r : Step) → r ≡ handed_back (idle s) → Handed s store (reception s new count ready) r store
  unfolding reception
  handed_idle e r h = rw (eq-eqb count 0 e, h) (handed_plain s store (idle s) (idle_stores s.phase))

  module _ (n : count ≡ 0 → ⊥) where
    pub reception-some : (p : Phase) → s.phase ≡ p → by_phase s p new ready ≡ reception s new count ready
    unfolding reception
    reception-some p e = sym (rw (ne_eqb count 0 n, e))

    pub handed_by : (p : Phase) → s.phase ≡ p → (r : Step) (store' : List ℕ) → Handed s store (by_phase s p new ready) r store'
        → Handed s store (reception s new count ready) r store'
    handed_by p e r store' h = subst (λ (x : Reception). Handed s store x r store') (reception-some p e) h

-- a search
pub handed_search : (s : Receiver) (store : List ℕ) (window new : Bits) (used : ℕ) (r : Step) → r ≡ handed_back (S.search s window new used)
    → Handed s store (S.search s window new used) r store
handed_search s store window new used r h =
    subst (λ (x : Step). Handed s store (S.search s window new used) x store) (sym h)
    (handed_plain s store (S.search s window new used) (search_stores s window new used))

-- a standing alarm
pub handed_under_alarm : (s : Receiver) (store : List ℕ) (alarm : Event) (count n : ℕ) → count ≡ n → (r : Step) → r ≡ stepped (under_alarm s) alarm count
    → Handed s store (record { rule = standing alarm; row = []; used = n; state = under_alarm s }) r store
handed_under_alarm s store alarm count n e r h =
    subst (λ (x : Step). Handed s store (record { rule = standing alarm; row = []; used = n; state = under_alarm s }) x store)
    (sym (h ∙ ap (stepped (under_alarm s) alarm) e))
    (handed_plain s store (record { rule = standing alarm; row = []; used = n; state = under_alarm s }) refl)

-- ---- the call

-- a line that is not too short lends as many bits as it is said to
pub length-lent : (line : List ℕ) (count : ℕ) → too_short line count ≡ false → length (take count (bits_of line)) ≡ count
length-lent line count t =
    length-take-le count (bits_of line) (omega (arith, length-bits_of line, ltb-false (8 * length line) count t))

module _ (s : Receiver) (line : List ℕ) (count : ℕ) (ready : Bool) (store : List ℕ) where
  refuses : (r : Refusal) → receive s line count ready store ≡ refused (refusal_number r) → Receive s line count ready store (record { state = s; answer = Err r }) store
  refuses r e =
      record {
        answers = ap reported (sym e);
        state = ap (receive_state s) (sym e);
        writes = ap (receive_store s store) (sym e);
      }

  pub refuses_spoiled : receiver_in_range s ≡ false → Receive s line count ready store (record { state = s; answer = Err N.Spoiled }) store
  unfolding receive
  refuses_spoiled e = refuses N.Spoiled (rw e)

  -- a call that is not refused: its state is in range, its bits are there, and it reads them
  pub heard : (x : Reception) → receive s line count ready store ≡ done x
      → (receiver_in_range s ≡ true) × (too_short line count ≡ false) × (reception s (take count (bits_of line)) count ready ≡ x)
  unfolding receive
  heard x e =
      let p = passed_test (not (receiver_in_range s)) A.spoiled _ x e in
      let q = passed_test (too_short line count) A.short _ x p.1 in
      let w = passed_test ((meaning (reception s (take count (bits_of line)) count ready).rule).stores && too_short store (s.taken * s.setup.k + s.setup.k)) A.short _ x q.1 in
      (not-false (receiver_in_range s) p.0, q.0, cc w.1)

  module _ (e : receiver_in_range s ≡ true) where
    pub refuses_short : too_short line count ≡ true → Receive s line count ready store (record { state = s; answer = Err N.Short }) store
    unfolding receive
    refuses_short t = refuses N.Short (rw (e, t))

    module _ (t : too_short line count ≡ false) where
      goes : judge_store s store (reception s (take count (bits_of line)) count ready) ≡ receive s line count ready store
      unfolding receive
      goes = sym (rw (e, t))

      pub receives : (r : Step) (store' : List ℕ) → Handed s store (reception s (take count (bits_of line)) count ready) r store'
          → Receive s line count ready store r store'
      receives r store' h =
          record {
            answers = h.answers ∙ ap reported goes;
            state = h.state ∙ ap (receive_state s) goes;
            writes = h.writes ∙ ap (receive_store s store) goes;
          }
