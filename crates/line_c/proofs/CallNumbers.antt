-- The numbers that the calls return: of a refusal one of those in use, of any other answer 0, 64 or above. So what holds of
-- these holds of every call. Assumes nothing.
use mathlib.Core.Path.{◌≡◌, refl}
use mathlib.Core.Bool.{Bool, true, false, not, ◌&&◌, ◌||◌}
use mathlib.Core.List.{List, [], ◌∷◌}
use Rattle.std.specs.Prelude.{Option}
use Prim.Native.Nat.{ℕ, ◌+◌, ◌*◌, ◌≤◌}
use native.Mathlib.Omega.{arith}
use lib.Dec.{eqb, ltb}
use lib.ListN.{length, take, drop}
use Rattle.crc.specs.Bits.{binary, bits_of}
use Rattle.block.specs.Answer as A
use Rattle.block.specs.Answer.{Answer, refused, done}
use Rattle.block.specs.Lengths.{is_length, block_length, among}
use Rattle.block.specs.Block.{Verdict, passed, failed, verdict}
use Rattle.block.specs.Calls.{too_short, build_block, read_block}
use Rattle.block.proofs.Truth.{cond_case}
use Rattle.block.proofs.Lengths.{each}
use Rattle.block.proofs.TestsInTurn.{Tests, refuse_all, test_numbers, in_turn}
use Rattle.line.specs.Refusals as Refusals
use Rattle.line.specs.LoopTime.{is_speed, has_entry, longest_loop, loop_time}
use Rattle.line.specs.Marks.{marks_of, marks_in_range}
use Rattle.line.specs.Order.{longest_order}
use Rattle.line.specs.Sending.{Block, synchronising, item, transmit, sender_in_range, gave_up, fresh_sender, unless_refused, open_sender, send}
use Rattle.line.specs.Receiving.{meaning, open_receiver, Reception, reception, reported, receiver_in_range, receive}
use Rattle.line.specs.declared.sender.Sender.{Sender}
use Rattle.line.specs.declared.receiver.Receiver.{Receiver}
use Rattle.line.specs.declared.receiving.Event.{Event}
use Rattle.line.specs.declared.receiving.Event.TheVariants as E
use Rattle.tint.specs.Refusals as Tint
use Rattle.tint.specs.Format.{order_bytes, doses_in, is_format, canisters, most_total, in_range_and_order, total, judge_doses}
use Rattle.tint.specs.declared.Dose.{Dose}
use Rattle.tint.specs.Calls.{judge_counted, read}
use Rattle.noise.specs.Refusals as Noise
use Rattle.noise.specs.Load.{Load, load, ones, load_block, report_of}
use Rattle.line_c.specs.State.{sender_size, holds_sender, sender_in, sender_of, receiver_size, holds_receiver, receiver_in, receiver_of}
use Rattle.line_c.specs.BlockCalls.{refusal, read_number}
use Rattle.line_c.specs.SenderCalls.{judge_state, open_sender_in, flag_word, send_in, sent_word, going_on_number, finished_number, gave_up_number, rest_in}
use Rattle.line_c.specs.ReceiverCalls.{open_receiver_in, event_number, receive_in, report_number, return_number, back_in}
use Rattle.line_c.specs.TintCalls.{numbers_of, doses_held, write_tint, judge_room, read_tint}
use Rattle.line_c.specs.NoiseCalls.{generator_of, report_word, noise_word, load_in}
use Rattle.line_c.specs.Refused.{is_refused}

-- ---- answers that are no refusal

verdict_word : (v : Verdict) → 64 ≤ read_number (done v)
verdict_word (passed service) = omega arith
verdict_word (failed r) = omega arith

sent_word_lem : (b : Block) → 64 ≤ sent_word (done b)
sent_word_lem synchronising = omega arith
sent_word_lem (item i end used cancelled) = item_word_lem i (flag_word end 0x400) (flag_word used 0x800) (flag_word cancelled 0x1000)
  where
    item_word_lem : (i a b c : ℕ) → 64 ≤ 0x300 + a + b + c + i * 65536
    item_word_lem i a b c = omega arith

event_word : (e : Event) → 64 ≤ event_number e
event_word E.None = omega arith
event_word E.Sync = omega arith
event_word (E.Bad r) = omega arith
event_word E.Accepted = omega arith
event_word E.Previous = omega arith
event_word E.SequenceAlarm = omega arith
event_word E.LengthAlarm = omega arith
event_word (E.Ended L) = omega arith
event_word E.Wait = omega arith

noise_word_lem : (inverted : ℕ) (turned : Bool) → 64 ≤ report_word inverted turned
noise_word_lem inverted turned = over inverted (flag_word turned 0x200)
  where
    over : (i a : ℕ) → 64 ≤ 0x100 + a + i * 65536
    over i a = omega arith

-- ---- what holds of every number that a call returns

-- the numbers that the calls refuse by
abbrev pub in_use : List ℕ
in_use =
    A.block ∷ Refusals.speed ∷ Refusals.loop_time ∷ Refusals.empty ∷ Refusals.long ∷ A.short ∷ A.spoiled ∷ Refusals.rest ∷ Refusals.code_size
    ∷ Tint.format ∷ Tint.entry ∷ Tint.steps ∷ Noise.generator ∷ []

abbrev pub is_in_use : ℕ → Bool
is_in_use n = among n in_use

-- what P says of a number, and of whether it is a refusal's, holds of these
pub record Numbers (P : Bool → ℕ → Type 0) : Type 0 where
  pub of_refusal : (n : ℕ) → is_in_use n ≡ true → P true n
  pub of_zero : P false 0
  pub of_other : (n : ℕ) → 64 ≤ n → P false n

-- and so of the number that any call returns
module _ (P : Bool → ℕ → Type 0) (holds : Numbers P) where
  -- an answer whose number f gives, and one whose number is 0 unless it is refused
  abbrev By : {A : Type 0} → (Answer A → ℕ) → Answer A → Type 0
  By f a = P (is_refused a) (f a)

  abbrev Plain : {A : Type 0} → Answer A → Type 0
  Plain a = By refusal a

  plain : {A : Type 0} (ts : Tests) → each is_in_use (test_numbers ts) ≡ true → (next : Answer A) → Plain next → Plain (refuse_all ts next)
  plain = in_turn Plain is_in_use holds.of_refusal

  judge-number : {A : Type 0} (size : ℕ) (state : List ℕ) (a : Answer A) → Plain a → Plain (judge_state size state a)
  judge-number size state (refused n) h = h
  judge-number size state (done a) h = plain ((ltb (length state) size, A.short) ∷ []) refl (done a) holds.of_zero

  unless_number : {A B : Type 0} (a : Answer A) (next : Answer B) → Plain a → Plain next → Plain (unless_refused a next)
  unless_number (refused n) next h g = h
  unless_number (done a) next h g = g

  -- ---- the calls

  pub loop_number : (k speed loop_ms : ℕ) → Plain (loop_time k speed loop_ms)
  unfolding loop_time
  loop_number k speed loop_ms =
      plain
      ((not (is_length k), A.block) ∷ (not (is_speed speed), Refusals.speed)
      ∷ (not (has_entry k speed) || ltb (longest_loop k speed) loop_ms, Refusals.loop_time) ∷ [])
      refl (done tt) holds.of_zero

  pub build_number : (k service : ℕ) (payload slice : List ℕ) → Plain (build_block k service payload slice)
  unfolding build_block
  build_number k service payload slice =
      plain
      ((not (is_length k), A.block) ∷ (ltb 15 service, A.spoiled)
      ∷ (too_short payload k || too_short slice (block_length k), A.short) ∷ [])
      refl (done tt) holds.of_zero

  pub read_block-number : (k : ℕ) (slice payload : List ℕ) → By read_number (read_block k slice payload)
  unfolding read_block
  read_block-number k slice payload =
      let v = verdict (take (block_length k) (bits_of slice)) in
      in_turn (By read_number) is_in_use holds.of_refusal
      ((not (is_length k), A.block) ∷ (too_short slice (block_length k) || too_short payload k, A.short) ∷ [])
      refl (done v) (holds.of_other _ (verdict_word v))

  pub open_sender-number : (k speed loop_ms L : ℕ) (size : Option ℕ) (order state : List ℕ)
      → Plain (open_sender_in k speed loop_ms L size order state)
  unfolding open_sender_in open_sender
  open_sender-number k speed loop_ms L size order state =
      judge-number sender_size state (open_sender k speed loop_ms L size order)
      (unless_number (loop_time k speed loop_ms) _ (loop_number k speed loop_ms)
      (plain
      ((eqb L 0, Refusals.empty) ∷ (ltb longest_order L, Refusals.long) ∷ (not (marks_in_range (marks_of size)), Refusals.code_size)
      ∷ (too_short order L, A.short) ∷ [])
      refl (done (fresh_sender k L (marks_of size))) holds.of_zero))

  sender_number : (state : List ℕ) → Plain (sender_of state)
  unfolding sender_of
  sender_number state = plain ((not (holds_sender state), A.spoiled) ∷ []) refl (done (sender_in state)) holds.of_zero

  sent-number : (order : List ℕ) (reading : Bool) (slice : List ℕ) (a : Answer Sender) → Plain a
      → By sent_word (send_in order reading slice a)
  unfolding send
  sent-number order reading slice (refused n) h = h
  sent-number order reading slice (done s) h =
      let b = (transmit s s.next reading).block in
      in_turn (By sent_word) is_in_use holds.of_refusal
      ((not (sender_in_range s), A.spoiled) ∷ (s.finished || gave_up s, Refusals.rest)
      ∷ (too_short order s.setup.length || too_short slice (block_length s.setup.k), A.short) ∷ [])
      refl (done b) (holds.of_other _ (sent_word_lem b))

  pub send-number : (state order : List ℕ) (reading : Bool) (slice : List ℕ) → By sent_word (send_in order reading slice (sender_of state))
  send-number state order reading slice = sent-number order reading slice (sender_of state) (sender_number state)

  pub open_receiver-number : (k : ℕ) (size : Option ℕ) (state : List ℕ) → Plain (open_receiver_in k size state)
  unfolding open_receiver_in open_receiver
  open_receiver-number k size state =
      judge-number receiver_size state (open_receiver k size)
      (plain ((not (is_length k), A.block) ∷ (not (marks_in_range (marks_of size)), Refusals.code_size) ∷ []) refl (done tt) holds.of_zero)

  abbrev reception_number : Answer Reception → ℕ
  reception_number a = report_number (reported a)

  receiver_number : (state : List ℕ) → Plain (receiver_of state)
  unfolding receiver_of
  receiver_number state = plain ((not (holds_receiver state), A.spoiled) ∷ []) refl (done (receiver_in state)) holds.of_zero

  received_number : (line : List ℕ) (count : ℕ) (ready : Bool) (store : List ℕ) (a : Answer Receiver) → Plain a
      → By reception_number (receive_in line count ready store a)
  unfolding receive
  received_number line count ready store (refused n) h = h
  received_number line count ready store (done s) h =
      let x = reception s (take count (bits_of line)) count ready in
      in_turn (By reception_number) is_in_use holds.of_refusal
      ((not (receiver_in_range s), A.spoiled) ∷ (too_short line count, A.short)
      ∷ ((meaning x.rule).stores && too_short store (s.taken * s.setup.k + s.setup.k), A.short) ∷ [])
      refl (done x) (holds.of_other _ (event_word (meaning x.rule).event))

  pub receive-number : (state line : List ℕ) (count : ℕ) (ready : Bool) (store : List ℕ)
      → By reception_number (receive_in line count ready store (receiver_of state))
  receive-number state line count ready store = received_number line count ready store (receiver_of state) (receiver_number state)

  pub write_tint-number : (numbers : List ℕ) (count : ℕ) (slice : List ℕ) → Plain (write_tint numbers count slice)
  unfolding write_tint judge_counted judge_doses
  write_tint-number numbers count slice =
      let ds = doses_held numbers count in
      plain
      ((eqb count 0, Tint.format) ∷ (ltb canisters count, Tint.entry) ∷ (not (in_range_and_order 0 ds), Tint.entry)
      ∷ (ltb most_total (total ds), Tint.steps)
      ∷ (ltb (length numbers) (count * 2) || ltb (length slice) (length (order_bytes ds)), A.short) ∷ [])
      refl (done (order_bytes ds)) holds.of_zero

  order_number : (order : List ℕ) → Plain (read order)
  unfolding read judge_doses
  order_number order =
      let ds = doses_in (drop 3 order) in
      plain
      ((not (is_format order), Tint.format) ∷ (not (in_range_and_order 0 ds), Tint.entry) ∷ (ltb most_total (total ds), Tint.steps) ∷ [])
      refl (done ds) holds.of_zero

  room-number : (numbers : List ℕ) (a : Answer (List Dose)) → Plain a → Plain (judge_room numbers a)
  room-number numbers (refused n) h = h
  room-number numbers (done ds) h = plain ((ltb (length numbers) (length (numbers_of ds)), A.short) ∷ []) refl (done ds) holds.of_zero

  pub read_tint-number : (order numbers : List ℕ) → Plain (read_tint order numbers)
  unfolding read_tint
  read_tint-number order numbers = room-number numbers (read order) (order_number order)

  pub noise_number : (k first second : ℕ) (slice : List ℕ) → By (λ a. noise_word (report_of a)) (load_in k first second slice)
  unfolding load_block
  noise_number k first second slice =
      let l : Load = load (block_length k) (generator_of first second) in
      in_turn (By (λ a. noise_word (report_of a))) is_in_use holds.of_refusal
      ((not (is_length k), A.block) ∷ (eqb first 0, Noise.generator) ∷ (too_short slice (block_length k), A.short) ∷ [])
      refl (done l) (holds.of_other _ (noise_word_lem (ones (binary 16 l.pattern)) l.turned))

  -- the two queries: refused by 7 alone
  abbrev Query : ℕ → Type 0
  Query n = P (eqb n A.spoiled) n

  rest_word : (s : Sender) → Query (rest_in (done s))
  rest_word s =
      cond_case Query (sender_in_range s)
      (λ e. cond_case Query s.finished (λ e. holds.of_other finished_number (omega arith))
      (λ e. cond_case Query (gave_up s) (λ e. holds.of_other gave_up_number (omega arith)) (λ e. holds.of_other going_on_number (omega arith))))
      (λ e. holds.of_refusal A.spoiled refl)

  pub rest-number : (state : List ℕ) → Query (rest_in (sender_of state))
  unfolding sender_of
  rest-number state =
      cond_case (λ (a : Answer Sender). Query (rest_in a)) (not (holds_sender state)) (λ e. holds.of_refusal A.spoiled refl)
      (λ e. rest_word (sender_in state))

  return_word : (back : Bool) → Query (return_number back)
  return_word true = holds.of_other (return_number true) (omega arith)
  return_word false = holds.of_other (return_number false) (omega arith)

  pub back_number : (state : List ℕ) → Query (back_in (receiver_of state))
  unfolding receiver_of
  back_number state =
      cond_case (λ (a : Answer Receiver). Query (back_in a)) (not (holds_receiver state)) (λ e. holds.of_refusal A.spoiled refl)
      (λ e. cond_case Query (receiver_in_range (receiver_in state)) (λ e. return_word (receiver_in state).back)
      (λ e. holds.of_refusal A.spoiled refl))
