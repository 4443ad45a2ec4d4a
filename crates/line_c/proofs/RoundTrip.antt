-- The codec is a round trip: a state whose fields fit is read back from its bytes, and the bytes that hold a state are
-- written back as they were. So the bytes that a call leaves hold the state that it hands back. Assumes nothing.
use mathlib.Core.Path.{◌≡◌, refl, sym, ap, ◌∙◌}
use mathlib.Core.Bool.{Bool, true, false, not, ◌&&◌}
use mathlib.Core.List.{List, ◌++◌, append_assoc}
use Rattle.std.specs.Prelude.{Option}
use Prim.Native.Nat.{ℕ, zero, suc, ◌+◌, ◌-◌, ◌*◌, ◌/◌, ◌%◌, ◌^◌, ◌≤◌, ◌<◌}
use native.Mathlib.Nat.{div-add-mod'}
use native.Mathlib.Omega.{arith}
use borrow.Author.Tests.{leb-true, le-leb, not-false}
use lib.Dec.{eqb, leb, ltb}
use lib.ListN.{length, drop, get_or, length-append, length-drop, take-append-drop}
use lib.Seq.{length-take-le, drop-drop, take_at, get_or_at, get_or-append-add}
use Rattle.block.specs.Answer as A
use Rattle.block.specs.Answer.{Answer, refused, done, refuse_if}
use Rattle.block.proofs.Truth.{and_left, and_right}
use Rattle.block.proofs.Refusals.{passed_test}
use Rattle.line.specs.Marks.{marks_of}
use Rattle.line.specs.declared.marks.Marks.{Marks}
use Rattle.line.specs.declared.sender.Sender.{Sender}
use Rattle.line.specs.declared.sender.Next.{Next}
use Rattle.line.specs.declared.sender.Next.TheVariants as N
use Rattle.line.specs.Sending.{open_sender, Block, sender_in_range, send, send_state}
use Rattle.line_c.specs.SenderCalls.{sender_over, judge_state, open_sender_in, opened_bytes, OpenSenderCall, SendCall}
use Rattle.line.specs.Receiving.{array_bytes, open_receiver, fresh_receiver, Reception, receiver_in_range, receive}
use Rattle.line.specs.declared.receiver.Receiver.{Receiver}
use Rattle.line.specs.declared.receiving.Phase.{Phase}
use Rattle.line.specs.declared.receiving.Phase.TheVariants as P
use Rattle.line_c.specs.ReceiverCalls.{receiver_over, open_receiver_in, opened_receiver, OpenReceiverCall, ReceiveCall}
use Rattle.line_c.proofs.ReceiverRange as R
use Rattle.line_c.proofs.ReceiverRange.{receiver_fits}
use Rattle.line_c.proofs.Places.{two, four, length_head, length_marks}
use Rattle.line_c.proofs.Ranges.{sender_fits, opened_fits, sent_fits}
use Rattle.line_c.specs.State.{word_at, word_bytes, flag_byte, next_of, next_byte, head_size, head_bytes, marks_size, marks_in, marks_bytes, holds, sender_size, holds_sender, sender_in, sender_of, sender_bytes, SenderFits, phase_of, phase_byte, array_end, receiver_size, holds_receiver, receiver_in, receiver_of, receiver_bytes, ReceiverFits}

-- every element of a list is a byte
abbrev pub Bytes : List ℕ → Type 0
Bytes s = (i : ℕ) → get_or s i 0 < 256

-- ---- numbers of four bytes

summed : (n q₁ q₂ q₃ r₀ r₁ r₂ : ℕ) → q₁ * 256 + r₀ ≡ n → q₂ * 256 + r₁ ≡ q₁ → q₃ * 256 + r₂ ≡ q₂
    → r₀ + 256 * r₁ + 65536 * r₂ + 16777216 * q₃ ≡ n
summed n q₁ q₂ q₃ r₀ r₁ r₂ e₁ e₂ e₃ = omega arith

digits_back : (n : ℕ) → n < 2 ^ 32
    → n % 256 + 256 * (n / 256 % 256) + 65536 * (n / 65536 % 256) + 16777216 * (n / 16777216 % 256) ≡ n
digits_back n h =
    let e₂ : n / 65536 ≡ n / 256 / 256 = omega arith in
    let e₃ : n / 16777216 % 256 ≡ n / 256 / 256 / 256 = omega arith in
    rw (e₃, e₂)
    (summed n (n / 256) (n / 256 / 256) (n / 256 / 256 / 256) (n % 256) (n / 256 % 256) (n / 256 / 256 % 256)
    (div-add-mod' n 256) (div-add-mod' (n / 256) 256) (div-add-mod' (n / 256 / 256) 256))

module _ (a b c d : ℕ) (ha : a < 256) (hb : b < 256) (hc : c < 256) (hd : d < 256) where
  abbrev joined : ℕ
  joined = a + 256 * b + 65536 * c + 16777216 * d

  digit_0 : joined % 256 ≡ a
  digit_0 = omega arith

  digit_1 : joined / 256 % 256 ≡ b
  digit_1 = omega arith

  digit_2 : joined / 65536 % 256 ≡ c
  digit_2 = omega arith

  digit_3 : joined / 16777216 % 256 ≡ d
  digit_3 = omega arith

-- ---- a number's bytes written back

word_written_back : (s : List ℕ) (at : ℕ) → at + 4 ≤ length s → Bytes s → word_bytes (word_at s at) ++ drop (at + 4) s ≡ drop at s
unfolding word_bytes word_at
word_written_back s at h b =
    let d0 = b at in
    let d1 = b (at + 1) in
    let d2 = b (at + 2) in
    let d3 = b (at + 3) in
    simp (digit_0 _ _ _ _ d0 d1 d2 d3, digit_1 _ _ _ _ d0 d1 d2 d3, digit_2 _ _ _ _ d0 d1 d2 d3, digit_3 _ _ _ _ d0 d1 d2 d3)
    (sym (four s at h))

head_written_back : (s : List ℕ) → head_size ≤ length s → Bytes s
    → head_bytes (word_at s 0) (word_at s 4) (word_at s 8) (get_or s 12 0) (get_or s 13 0) (get_or s 14 0) (get_or s 15 0) ++ drop head_size s ≡ s
unfolding head_bytes
head_written_back s h b =
    simp append_assoc
    (rw (← four s 12 h, word_written_back s 8 (omega arith) b, word_written_back s 4 (omega arith) b) (word_written_back s 0 (omega arith) b))

-- ---- flags and enums

pub flag_back : (t : Bool) → eqb (flag_byte t) 1 ≡ t
flag_back true = refl
flag_back false = refl

pub flag_small : (t : Bool) → leb (flag_byte t) 1 ≡ true
flag_small true = refl
flag_small false = refl

pub flag_written_back : (n : ℕ) → n ≤ 1 → flag_byte (eqb n 1) ≡ n
flag_written_back zero h = refl
flag_written_back (suc zero) h = refl
flag_written_back (suc (suc n)) h = absurd (omega arith)

next_back : (n : Next) → next_of (next_byte n) ≡ n
next_back N.Sync = refl
next_back N.Older = refl
next_back N.Newer = refl

next_small : (n : Next) → leb (next_byte n) 2 ≡ true
next_small N.Sync = refl
next_small N.Older = refl
next_small N.Newer = refl

next_written_back : (n : ℕ) → n ≤ 2 → next_byte (next_of n) ≡ n
next_written_back zero h = refl
next_written_back (suc zero) h = refl
next_written_back (suc (suc zero)) h = refl
next_written_back (suc (suc (suc n))) h = absurd (omega arith)

-- ---- the marks

module _ (l p rest : List ℕ) (m : Marks) (at : ℕ) (n : length p ≡ at) (e : l ≡ p ++ (marks_bytes m ++ rest)) where
  marks_flag_back : get_or l at 0 ≡ flag_byte m.in_use
  unfolding marks_bytes
  marks_flag_back = rw e (get_or_at p (flag_byte m.in_use) _ 0 at n)

  marks_size_back : get_or l (at + 1) 0 ≡ m.size
  unfolding marks_bytes
  marks_size_back = rw (e, ← n) (get_or-append-add p (marks_bytes m ++ rest) 1 0)

  marks_back : marks_in l at ≡ m
  unfolding marks_in
  marks_back = simp (marks_flag_back, marks_size_back, flag_back)

pub marks_written_back : (s : List ℕ) (at : ℕ) → at + marks_size ≤ length s → get_or s at 0 ≤ 1
    → marks_bytes (marks_in s at) ++ drop (at + marks_size) s ≡ drop at s
unfolding marks_in marks_bytes
marks_written_back s at h f = rw (flag_written_back (get_or s at 0) f) (sym (two s at h))

-- ---- what it says that bytes hold a state

pub record Held (size a b c : ℕ) (s : List ℕ) : Type 0 where
  pub enough : size ≤ length s
  pub first : get_or s 13 0 ≤ a
  pub second : get_or s 14 0 ≤ b
  pub third : get_or s 15 0 ≤ c
  pub marks : get_or s (size - marks_size) 0 ≤ 1

pub held : (size a b c : ℕ) (s : List ℕ) → holds size a b c s ≡ true → Held size a b c s
unfolding holds
held size a b c s h =
    let t0 = leb size (length s) in
    let t1 = leb (get_or s 13 0) a in
    let t2 = leb (get_or s 14 0) b in
    let t3 = leb (get_or s 15 0) c in
    let t4 = leb (get_or s (size - marks_size) 0) 1 in
    let t0123 = and_left (t0 && t1 && t2 && t3) t4 h in
    let t012 = and_left (t0 && t1 && t2) t3 t0123 in
    let t01 = and_left (t0 && t1) t2 t012 in
    record {
      enough = leb-true size (length s) (and_left t0 t1 t01);
      first = leb-true (get_or s 13 0) a (and_right t0 t1 t01);
      second = leb-true (get_or s 14 0) b (and_right (t0 && t1) t2 t012);
      third = leb-true (get_or s 15 0) c (and_right (t0 && t1 && t2) t3 t0123);
      marks = leb-true (get_or s (size - marks_size) 0) 1 (and_right (t0 && t1 && t2 && t3) t4 h);
    }

-- ---- the head read back

module _ (x y z d a b c : ℕ) (rest : List ℕ) where
  abbrev bytes : List ℕ
  bytes = head_bytes x y z d a b c ++ rest

  word_0_back : x < 2 ^ 32 → word_at bytes 0 ≡ x
  unfolding head_bytes word_bytes word_at
  word_0_back h = digits_back x h

  word_4_back : y < 2 ^ 32 → word_at bytes 4 ≡ y
  unfolding head_bytes word_bytes word_at
  word_4_back h = digits_back y h

  word_8_back : z < 2 ^ 32 → word_at bytes 8 ≡ z
  unfolding head_bytes word_bytes word_at
  word_8_back h = digits_back z h

  byte_12_back : get_or bytes 12 0 ≡ d
  unfolding head_bytes word_bytes
  byte_12_back = refl

  byte_13_back : get_or bytes 13 0 ≡ a
  unfolding head_bytes word_bytes
  byte_13_back = refl

  byte_14_back : get_or bytes 14 0 ≡ b
  unfolding head_bytes word_bytes
  byte_14_back = refl

  byte_15_back : get_or bytes 15 0 ≡ c
  unfolding head_bytes word_bytes
  byte_15_back = refl

  head_holds : (size la lb lc : ℕ) → size ≤ head_size + length rest → leb a la ≡ true → leb b lb ≡ true → leb c lc ≡ true
      → (flag : Bool) → get_or bytes (size - marks_size) 0 ≡ flag_byte flag → holds size la lb lc bytes ≡ true
  unfolding head_bytes word_bytes holds
  head_holds size la lb lc h ta tb tc flag m =
      let e : size ≤ length bytes = omega arith in
      simp (le-leb size (length bytes) e, ta, tb, tc, m, flag_small flag)

-- ---- the sender

pub sender_read_back : (s : Sender) (rest : List ℕ) → SenderFits s → sender_of (sender_bytes s ++ rest) ≡ done s
unfolding sender_of sender_in sender_bytes
sender_read_back s rest f =
    let k = s.setup.k in
    let L = s.setup.length in
    let m = s.setup.marks in
    let d = s.run in
    let a = flag_byte s.opening in
    let b = next_byte s.next in
    let c = flag_byte s.finished in
    let l = marks_bytes m ++ rest in
    let head = head_bytes k L s.newer d a b c in
    let behind = length_head k L s.newer d a b c in
    let r : s.run % 256 ≡ s.run = omega arith in
    let n : sender_size ≤ head_size + length l = simp (length-append, length_marks) (omega arith) in
    rw (r, append_assoc)
    (simp (
      head_holds k L s.newer d a b c l sender_size 1 2 1 n (flag_small s.opening) (next_small s.next) (flag_small s.finished)
          m.in_use (marks_flag_back (head ++ l) head rest m head_size behind refl),
      word_0_back k L s.newer d a b c l f.k,
      word_4_back k L s.newer d a b c l f.length,
      word_8_back k L s.newer d a b c l f.newer,
      byte_12_back k L s.newer d a b c l,
      byte_13_back k L s.newer d a b c l,
      byte_14_back k L s.newer d a b c l,
      byte_15_back k L s.newer d a b c l,
      marks_back (head ++ l) head rest m head_size behind refl,
      flag_back,
      next_back,
    ))

pub sender_written_back : (s : List ℕ) → Bytes s → holds_sender s ≡ true → sender_bytes (sender_in s) ++ drop sender_size s ≡ s
unfolding sender_in sender_bytes
sender_written_back s b h =
    let f = held sender_size 1 2 1 s h in
    let r : get_or s 12 0 % 256 ≡ get_or s 12 0 = omega (arith, b 12) in
    rw (r, flag_written_back (get_or s 13 0) f.first, next_written_back (get_or s 14 0) f.second, flag_written_back (get_or s 15 0) f.third, append_assoc, marks_written_back s head_size f.enough f.marks)
    (head_written_back s (omega (arith, f.enough)) b)

judged : {A : Type 0} (size : ℕ) (state : List ℕ) (answer : Answer A) (a : A) → judge_state size state answer ≡ done a → answer ≡ done a
judged size state (refused n) a e = absurd (let z : ◌≡◌ {A = ℕ} 0 1 = cc in omega arith)
judged size state (done x) a e = (passed_test (ltb (length state) size) A.short (done x) a e).1

-- every sender in range is read back from its bytes
pub in_range_read_back : (s : Sender) (rest : List ℕ) → sender_in_range s ≡ true → sender_of (sender_bytes s ++ rest) ≡ done s
in_range_read_back s rest h = sender_read_back s rest (sender_fits s h)

-- after an opening that is not refused, the bytes hold the sender that was opened
pub opened-read_back : (k speed loop_ms L : ℕ) (size : Option ℕ) (order state : List ℕ) (result : ℕ) (state' : List ℕ) (s : Sender)
    → OpenSenderCall k speed loop_ms L size order state result state' → open_sender_in k speed loop_ms L size order state ≡ done s
    → sender_of state' ≡ done s
unfolding open_sender_in
opened-read_back k speed loop_ms L size order state result state' s p e =
    let w : state' ≡ sender_over state s = p.writes ∙ ap (opened_bytes state) e in
    rw w
    (sender_read_back s (drop sender_size state)
    (opened_fits k speed loop_ms L size order s (judged sender_size state (open_sender k speed loop_ms L size order) s e)))

-- after a sending call that is not refused, the bytes hold the state that it hands back
pub sent-read_back : (state order : List ℕ) (reading : Bool) (slice : List ℕ) (result : ℕ) (state' slice' : List ℕ) (s : Sender) (b : Block)
    → SendCall state order reading slice result state' slice' → sender_of state ≡ done s → send s order reading slice ≡ done b
    → sender_of state' ≡ done (send_state s reading (done b))
sent-read_back state order reading slice result state' slice' s b p e f =
    let w : state' ≡ sender_over state (send_state s reading (done b)) = rw (e, f) at p.keeps in
    rw w (sender_read_back (send_state s reading (done b)) (drop sender_size state) (sent_fits s order reading slice b f))

-- ---- the receiver

phase_back : (p : Phase) → phase_of (phase_byte p) ≡ p
phase_back P.Search = refl
phase_back P.InStep = refl
phase_back P.SequenceAlarm = refl
phase_back P.LengthAlarm = refl

phase_small : (p : Phase) → leb (phase_byte p) 3 ≡ true
phase_small P.Search = refl
phase_small P.InStep = refl
phase_small P.SequenceAlarm = refl
phase_small P.LengthAlarm = refl

phase_written_back : (n : ℕ) → n ≤ 3 → phase_byte (phase_of n) ≡ n
phase_written_back zero h = refl
phase_written_back (suc zero) h = refl
phase_written_back (suc (suc zero)) h = refl
phase_written_back (suc (suc (suc zero))) h = refl
phase_written_back (suc (suc (suc (suc n)))) h = absurd (omega arith)

-- what stands behind the head
behind_head : (x y z d a b c : ℕ) (rest : List ℕ) → drop head_size (head_bytes x y z d a b c ++ rest) ≡ rest
unfolding head_bytes word_bytes
behind_head x y z d a b c rest = refl

pub receiver_read_back : (s : Receiver) (rest : List ℕ) → ReceiverFits s → receiver_of (receiver_bytes s ++ rest) ≡ done s
unfolding receiver_of receiver_in receiver_bytes
receiver_read_back s rest f =
    let k = s.setup.k in
    let m = s.setup.marks in
    let d = s.bad_row in
    let a = flag_byte s.back in
    let b = flag_byte s.ended in
    let c = phase_byte s.phase in
    let l = s.bits ++ (marks_bytes m ++ rest) in
    let head = head_bytes k s.held s.taken d a b c in
    let behind : length (head ++ s.bits) ≡ array_end =
    simp (length-append, length_head k s.held s.taken d a b c, f.bits) in
    let e : head ++ l ≡ head ++ s.bits ++ (marks_bytes m ++ rest) = sym (append_assoc head s.bits (marks_bytes m ++ rest)) in
    let r : s.bad_row % 256 ≡ s.bad_row = omega (arith, f.bad_row) in
    let n : receiver_size ≤ head_size + length l = simp (length-append, length_marks) (omega (arith, f.bits)) in
    rw (r, append_assoc, append_assoc)
    (simp (
      head_holds k s.held s.taken d a b c l receiver_size 1 1 3 n (flag_small s.back) (flag_small s.ended) (phase_small s.phase)
          m.in_use (marks_flag_back (head ++ l) (head ++ s.bits) rest m array_end behind e),
      word_0_back k s.held s.taken d a b c l f.k,
      word_4_back k s.held s.taken d a b c l f.held,
      word_8_back k s.held s.taken d a b c l f.taken,
      byte_12_back k s.held s.taken d a b c l,
      byte_13_back k s.held s.taken d a b c l,
      byte_14_back k s.held s.taken d a b c l,
      byte_15_back k s.held s.taken d a b c l,
      behind_head k s.held s.taken d a b c l,
      take_at s.bits (marks_bytes m ++ rest) array_bytes f.bits,
      marks_back (head ++ l) (head ++ s.bits) rest m array_end behind e,
      flag_back,
      phase_back,
    ))

pub receiver_written_back : (s : List ℕ) → Bytes s → holds_receiver s ≡ true → receiver_bytes (receiver_in s) ++ drop receiver_size s ≡ s
unfolding receiver_in receiver_bytes
receiver_written_back s b h =
    let f = held receiver_size 1 1 3 s h in
    let r : get_or s 12 0 % 256 ≡ get_or s 12 0 = omega (arith, b 12) in
    let e : drop array_end s ≡ drop array_bytes (drop head_size s) = sym (drop-drop array_bytes head_size s) in
    rw (r, flag_written_back (get_or s 13 0) f.first, flag_written_back (get_or s 14 0) f.second, phase_written_back (get_or s 15 0) f.third, append_assoc, append_assoc, marks_written_back s array_end f.enough f.marks, e, take-append-drop array_bytes (drop head_size s))
    (head_written_back s (omega (arith, f.enough)) b)

-- the array of a receiver that bytes hold is whole
pub length_bits : (s : List ℕ) → holds_receiver s ≡ true → length (receiver_in s).bits ≡ array_bytes
unfolding receiver_in
length_bits s h =
    let f = held receiver_size 1 1 3 s h in
    length-take-le array_bytes (drop head_size s) (simp length-drop (omega (arith, f.enough)))

-- every receiver in range whose array is whole is read back from its bytes
pub in_range_receiver_read_back : (s : Receiver) (rest : List ℕ) → receiver_in_range s ≡ true → length s.bits ≡ array_bytes
    → receiver_of (receiver_bytes s ++ rest) ≡ done s
in_range_receiver_read_back s rest h b = receiver_read_back s rest (receiver_fits s h b)

-- after an opening that is not refused, the bytes hold the receiver that was opened
pub opened_receiver-read_back : (k : ℕ) (size : Option ℕ) (state : List ℕ) (result : ℕ) (state' : List ℕ) (u : Unit {0})
    → OpenReceiverCall k size state result state' → open_receiver_in k size state ≡ done u
    → receiver_of state' ≡ done (fresh_receiver k (marks_of size))
unfolding open_receiver_in
opened_receiver-read_back k size state result state' u p e =
    let s = fresh_receiver k (marks_of size) in
    let w : state' ≡ receiver_over state s = p.writes ∙ ap (opened_receiver k size state) e in
    rw w
    (receiver_read_back s (drop receiver_size state)
    (R.opened_fits k size u (judged receiver_size state (open_receiver k size) u e)))

pub holds_of : (state : List ℕ) (s : Receiver) → receiver_of state ≡ done s → (holds_receiver state ≡ true) × (s ≡ receiver_in state)
unfolding receiver_of
holds_of state s e =
    let p = passed_test (not (holds_receiver state)) A.spoiled (done (receiver_in state)) s e in
    (not-false (holds_receiver state) p.0, cc p.1)

-- after a receiving call that is not refused, the bytes hold the state that it hands back
pub received_read_back : (state line : List ℕ) (count : ℕ) (ready : Bool) (store : List ℕ) (used len remainder result : ℕ)
    (state' store' : List ℕ) (used' len' remainder' : ℕ) (s : Receiver) (x : Reception)
    → ReceiveCall state line count ready store used len remainder result state' store' used' len' remainder'
    → receiver_of state ≡ done s → receive s line count ready store ≡ done x → receiver_of state' ≡ done x.state
received_read_back state line count ready store used len remainder result state' store' used' len' remainder' s x p e f =
    let w : state' ≡ receiver_over state x.state = rw (e, f) at p.keeps in
    let h = holds_of state s e in
    let b : length s.bits ≡ array_bytes = rw h.1 (length_bits state h.0) in
    rw w (receiver_read_back x.state (drop receiver_size state) (R.received_fits s line count ready store x b f))
