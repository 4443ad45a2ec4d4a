-- `receive`: the receiver that the bytes hold, its array in place, is handed to `receive`, and its head back.
-- Assumes nothing.
use mathlib.Core.Path.{◌≡◌, refl, sym, ap, ◌∙◌}
use mathlib.Core.Bool.{Bool, true}
use mathlib.Core.List.{List, [], ◌++◌, append_assoc}
use Prim.Native.Nat.{ℕ, ◌≤◌}
use native.Mathlib.Omega.{arith}
use lib.ListN.{length, take, drop, length-append, length-drop, take-append-drop}
use lib.Seq.{length-take-le, drop_at, drop-drop}
use Rattle.block.specs.Answer.{Answer, refused, done}
use Rattle.line.specs.Receiving.{array_bytes, Reception, Report, reported, receive, receive_state, received_answer, Receive}
use Rattle.line.specs.ReceivingInPlace.{with_array, ReceiveInPlace}
use Rattle.line.specs.Code.ReceiveSteps.{step_with}
use Rattle.line.specs.declared.head.Head.{Head}
use Rattle.line.specs.declared.head.HeadStep.{HeadStep}
use Rattle.line.specs.declared.receiver.Receiver.{Receiver}
use Rattle.line.specs.declared.receiving.Setup.{Setup}
use Rattle.line.specs.declared.receiving.Received.{Received as ReceivedBits}
use Rattle.line.specs.declared.Refusal.{Refusal}
use Rattle.line.specs.Refusals.{refusal_number}
use Rattle.std.specs.Prelude.{Result, Ok, Err}
use Rattle.std.proofs.lemmas.Result.{err_from_is_err_and}
use Rattle.line.proofs.InPlace.{by_value}
use Rattle.line.proofs.KeptSetup.{received_setup}
use Rattle.line_c.specs.State.{head_size, marks_bytes, array_end, receiver_size, holds_receiver, receiver_in, receiver_of, receiver_head, receiver_bytes}
use Rattle.line_c.specs.ReceiverCalls.{receiver_over, report_number, report_used, report_length, report_remainder, received_state, ReceiveCall}
use Rattle.line_c.proofs.RoundTrip.{held, marks_written_back, holds_of}
use Rattle.line_c.proofs.receiver_calls.receive.Goals as goal

-- the promise
abbrev Received : (state line : List ℕ) (count : ℕ) (ready : Bool) (store : List ℕ) → Result ReceivedBits Refusal → List ℕ → List ℕ → Type 0
Received state line count ready store answer state' store' =
    (used len remainder : ℕ)
    → let a = received_answer answer in
    ReceiveCall state line count ready store used len remainder (report_number a) state' store' (report_used used a)
    (report_length len a) (report_remainder remainder a)

-- the state's bytes, by what the call came to
kept_refused : (state : List ℕ) (s : Receiver) (a : Answer Reception) (n : ℕ) → reported a ≡ refused n
    → (received_state state a ≡ state) × (receive_state s a ≡ s)
kept_refused state s (refused m) n r = (refl, refl)
kept_refused state s (done x) n r = absurd (let z : ◌≡◌ {A = ℕ} 0 1 = cc in omega arith)

kept_setup : (s : Receiver) (line : List ℕ) (count : ℕ) (ready : Bool) (store : List ℕ) (a : Answer Reception) → receive s line count ready store ≡ a
    → (r : Report) → reported a ≡ done r → (receive_state s a).setup ≡ s.setup
kept_setup s line count ready store (refused m) e r z = absurd (let z : ◌≡◌ {A = ℕ} 0 1 = cc in omega arith)
kept_setup s line count ready store (done x) e r z = received_setup s line count ready store x e

kept_done : (state : List ℕ) (s : Receiver) (a : Answer Reception) (r : Report) → reported a ≡ done r
    → receiver_over state (receive_state s a) ≡ received_state state a
kept_done state s (refused m) r e = absurd (let z : ◌≡◌ {A = ℕ} 0 1 = cc in omega arith)
kept_done state s (done x) r e = refl

module _ (state : List ℕ) where
  abbrev array : List ℕ
  array = take array_bytes (drop head_size state)

  -- the state's bytes with another array
  abbrev with_array_in_state : List ℕ → List ℕ
  with_array_in_state array' = take head_size state ++ (array' ++ drop array_bytes (drop head_size state))

  same_array : (array' : List ℕ) → array' ≡ array → with_array_in_state array' ≡ state
  same_array array' e =
      ap with_array_in_state e ∙ ap (λ (l : List ℕ). take head_size state ++ l) (take-append-drop array_bytes (drop head_size state))
      ∙ take-append-drop head_size state

  module _ (h : receiver_size ≤ length state) where
    length_array : length array ≡ array_bytes
    length_array = length-take-le array_bytes (drop head_size state) (omega (arith, length-drop head_size state))

    head_room : (array' : List ℕ) → head_size ≤ length (with_array_in_state array')
    head_room array' =
        let n : length (take head_size state) ≡ head_size = length-take-le head_size state (omega arith) in
        simp length-append (omega arith)

    -- and another head whose marks stand behind the array
    head_over : (head : Head) (array' state' : List ℕ) → marks_bytes head.setup.marks ++ drop receiver_size state ≡ drop array_end state
        → state' ≡ receiver_head (with_array head []) ++ drop head_size (with_array_in_state array') → state' ≡ receiver_over state (with_array head array')
    unfolding receiver_bytes
    head_over head array' state' m e =
        let n : length (take head_size state) ≡ head_size = length-take-le head_size state (omega arith) in
        e
        ∙ ap (λ (l : List ℕ). receiver_head (with_array head []) ++ l)
        (drop_at (take head_size state) (array' ++ drop array_bytes (drop head_size state)) head_size n
        ∙ ap (λ (l : List ℕ). array' ++ l) (drop-drop array_bytes head_size state ∙ sym m))
        ∙ simp append_assoc

module _ (state line : List ℕ) (count : ℕ) (ready : Bool) (store : List ℕ) where
  module _ (h : holds_receiver state ≡ true) (head : Head) (e : with_array head (array state) ≡ receiver_in state) where
    abbrev s : Receiver
    s = with_array head (array state)

    receiver_held : receiver_of state ≡ done s
    unfolding receiver_of
    receiver_held = rw (h, e)

    enough : receiver_size ≤ length state
    enough = (held receiver_size 1 1 3 state h).enough

    -- a head with this setup has the marks that stand in the bytes
    marks_kept : {setup : Setup} → setup ≡ s.setup → marks_bytes setup.marks ++ drop receiver_size state ≡ drop array_end state
    unfolding receiver_in
    marks_kept k =
        ap (λ (x : Setup). marks_bytes x.marks ++ drop receiver_size state) (k ∙ ap (λ (r : Receiver). r.setup) e)
        ∙ marks_written_back state array_end enough (held receiver_size 1 1 3 state h).marks

    module _ (result : HeadStep) (array' store' : List ℕ) (q : ReceiveInPlace head (array state) line count ready store result array' store') where
      call : Receive s line count ready store (step_with result array') store'
      call = by_value head (array state) line count ready store (length_array state enough) result array' store' q

      turned : (refusal : Refusal) → result.answer ≡ Err refusal
          → Received state line count ready store (Err refusal) (with_array_in_state state array') store'
      turned refusal a used len remainder =
          let r : reported (receive s line count ready store) ≡ refused (refusal_number refusal) = sym call.answers ∙ ap received_answer a in
          let k = kept_refused state s (receive s line count ready store) _ r in
          let w : array' ≡ array state = ap (λ (x : Receiver). x.bits) (call.state ∙ k.1) in
          record {
            answers = rw receiver_held (sym (ap report_number r));
            keeps = rw receiver_held (same_array state array' w ∙ sym k.0);
            writes = rw receiver_held call.writes;
            uses = rw receiver_held (sym (ap (report_used used) r));
            ends = rw receiver_held (sym (ap (report_length len) r));
            fails = rw receiver_held (sym (ap (report_remainder remainder) r));
          }

      heard : (x : ReceivedBits) → result.answer ≡ Ok x → (state' : List ℕ)
          → state' ≡ receiver_head (with_array result.head []) ++ drop head_size (with_array_in_state state array')
          → Received state line count ready store (Ok x) state' store'
      heard x a state' w used len remainder =
          let r = sym call.answers ∙ ap received_answer a in
          let k : result.head.setup ≡ s.setup =
          ap (λ (x : Receiver). x.setup) call.state ∙ kept_setup s line count ready store (receive s line count ready store) refl _ r in
          record {
            answers = rw receiver_held (sym (ap report_number r));
            keeps = rw receiver_held
                (head_over state enough result.head array' state' (marks_kept k) w ∙ ap (receiver_over state) call.state
                ∙ kept_done state s (receive s line count ready store) _ r);
            writes = rw receiver_held call.writes;
            uses = rw receiver_held (sym (ap (report_used used) r));
            ends = rw receiver_held (sym (ap (report_length len) r));
            fails = rw receiver_held (sym (ap (report_remainder remainder) r));
          }

-- what the bytes hold, where they are not refused
bytes-held : (state : List ℕ) (head : Head) → done (with_array head (array state)) ≡ receiver_of state
    → (holds_receiver state ≡ true) × (with_array head (array state) ≡ receiver_in state)
bytes-held state head e = holds_of state _ (sym e)

pub returns-in_err-received : goal.returns-in_err-received
returns-in_err-received c =
    let p = err_from_is_err_and c.from_residual-in_err-received.result c.from_residual-in_err-received.ensures.1 in
    let h = bytes-held _ _ c.in_ok-head.ensures.held in
    rw (p.1, p.2) (turned _ _ _ _ _ h.0 _ h.1 _ _ _ c.receive-step.ensures _ c.in_err-received.was)

pub returns : goal.returns
returns c =
    let h = bytes-held _ _ c.in_ok-head.ensures.held in
    heard _ _ _ _ _ h.0 _ h.1 _ _ _ c.receive-step.ensures _ c.in_ok-received.was _ c.put_head.ensures
