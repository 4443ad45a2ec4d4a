-- Whether a call was refused, told from the number that it returns: the header's ORDER_LINE_IS_REFUSED, and that it is
-- right for every call. Assumes nothing.
use Rattle.std.specs.Prelude.{Option, ◌≡◌, Bool, true, false, ◌&&◌, List, ℕ, eqb, ltb}
use Rattle.block.specs.Answer as A
use Rattle.block.specs.Answer.{Answer, refused, done}
use Rattle.block.specs.Calls.{build_block, read_block}
use Rattle.line.specs.LoopTime.{loop_time}
use Rattle.line.specs.Receiving.{reported}
use Rattle.noise.specs.Load.{report_of}
use Rattle.line_c.specs.State.{sender_of, receiver_of}
use Rattle.line_c.specs.BlockCalls.{refusal, read_number}
use Rattle.line_c.specs.SenderCalls.{open_sender_in, send_in, sent_word, rest_in}
use Rattle.line_c.specs.ReceiverCalls.{open_receiver_in, receive_in, report_number, back_in}
use Rattle.line_c.specs.TintCalls.{write_tint, read_tint}
use Rattle.line_c.specs.NoiseCalls.{noise_word, load_in}

-- 1 to 63
abbrev pub is_refusal : ℕ → Bool
is_refusal n = ltb n 64 && ltb 0 n

abbrev pub is_refused : {A : Type 0} → Answer A → Bool
is_refused (refused n) = true
is_refused (done a) = false

-- the number that each call returns, as its promise gives it; the two queries are refused by 7 alone
pub record RefusalsTold : Type 0 where
  pub loop_time : (k speed loop_ms : ℕ) → is_refusal (refusal (loop_time k speed loop_ms)) ≡ is_refused (loop_time k speed loop_ms)
  pub build_block : (k service : ℕ) (payload slice : List ℕ)
      → is_refusal (refusal (build_block k service payload slice)) ≡ is_refused (build_block k service payload slice)
  pub read_block : (k : ℕ) (slice payload : List ℕ)
      → is_refusal (read_number (read_block k slice payload)) ≡ is_refused (read_block k slice payload)
  pub open_sender : (k speed loop_ms L : ℕ) (size : Option ℕ) (order state : List ℕ)
      → is_refusal (refusal (open_sender_in k speed loop_ms L size order state))
      ≡ is_refused (open_sender_in k speed loop_ms L size order state)
  pub send : (state order : List ℕ) (reading : Bool) (slice : List ℕ)
      → is_refusal (sent_word (send_in order reading slice (sender_of state))) ≡ is_refused (send_in order reading slice (sender_of state))
  pub sender_rest : (state : List ℕ) → is_refusal (rest_in (sender_of state)) ≡ eqb (rest_in (sender_of state)) A.spoiled
  pub open_receiver : (k : ℕ) (size : Option ℕ) (state : List ℕ)
      → is_refusal (refusal (open_receiver_in k size state)) ≡ is_refused (open_receiver_in k size state)
  pub receive : (state line : List ℕ) (count : ℕ) (ready : Bool) (store : List ℕ)
      → is_refusal (report_number (reported (receive_in line count ready store (receiver_of state))))
      ≡ is_refused (receive_in line count ready store (receiver_of state))
  pub return_bit : (state : List ℕ) → is_refusal (back_in (receiver_of state)) ≡ eqb (back_in (receiver_of state)) A.spoiled
  pub write_tint : (numbers : List ℕ) (count : ℕ) (slice : List ℕ)
      → is_refusal (refusal (write_tint numbers count slice)) ≡ is_refused (write_tint numbers count slice)
  pub read_tint : (order numbers : List ℕ) → is_refusal (refusal (read_tint order numbers)) ≡ is_refused (read_tint order numbers)
  pub noise : (k first second : ℕ) (slice : List ℕ)
      → is_refusal (noise_word (report_of (load_in k first second slice))) ≡ is_refused (load_in k first second slice)
