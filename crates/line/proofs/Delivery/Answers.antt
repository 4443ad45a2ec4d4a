-- Each call answers as the course says: whatever was called, what the calls answered, handed back and wrote follows from
-- the openings and the arguments. Assumes nothing.
use mathlib.Core.Path.{◌≡◌, refl, ap, ap₂, ◌∙◌}
use mathlib.Core.Bool.{Bool, true, false, cond, not, ◌&&◌}
use Rattle.std.specs.Prelude.{Ok, Err}
use Rattle.std.specs.Prelude as Prelude
use mathlib.Core.List.{List, [], ◌∷◌}
use Prim.Native.Nat.{ℕ, ◌+◌, ◌*◌}
use lib.Dec.{eqb}
use lib.ListN.{take}
use Rattle.crc.specs.Bits.{Bits, bits_of}
use Rattle.block.specs.Answer as A
use Rattle.block.specs.Answer.{Answer, refused, done, refuse_if}
use Rattle.block.specs.Calls.{too_short}
use Rattle.line.specs.Refusals as Refusals
use Rattle.line.specs.Sending.{Block, synchronising, item, send, send_state, send_bytes, sent_block, sent_answer, Send}
use Rattle.line.specs.Receiving.{meaning, Reception, reception, receiver_in_range, receive, receive_state, receive_store, reported, received_answer, Receive}
use Rattle.line.specs.Course.{Call, sending, receiving, World, send_after, receive_after, next, Result, result, results, Run, none, sends, receives, observed}
use Rattle.line.specs.declared.Refusal.{Refusal}
use Rattle.line.specs.declared.Refusal.TheVariants as N
use Rattle.line.specs.declared.sender.Sender.{Sender}
use Rattle.line.specs.declared.sender.Step as SenderStep
use Rattle.line.specs.declared.sender.Sent.{Sent}
use Rattle.line.specs.declared.sender.Sent.TheVariants as W
use Rattle.line.specs.declared.Refusal.{Refusal}
use Rattle.line.specs.declared.Refusal.TheVariants as N
use Rattle.line.specs.declared.receiver.Receiver.{Receiver}
use Rattle.line.specs.declared.receiver.Step as ReceiverStep
use Rattle.line.specs.declared.receiving.Received.{Received}

-- ---- the states that the course hands on are those that the calls hand back

sender_sent : (w : World) (reading : Bool) (arrives : Bits) (a : Answer Block)
    → (send_after w reading arrives a).sender ≡ send_state w.sender reading a
sender_sent w reading arrives (refused n) = refl
sender_sent w reading arrives (done b) = refl

receiver_sent : (w : World) (reading : Bool) (arrives : Bits) (a : Answer Block)
    → (send_after w reading arrives a).receiver ≡ w.receiver
receiver_sent w reading arrives (refused n) = refl
receiver_sent w reading arrives (done b) = refl

sender_heard : (w : World) (store : List ℕ) (a : Answer Reception) → (receive_after w store a).sender ≡ w.sender
sender_heard w store (refused n) = refl
sender_heard w store (done x) = refl

receiver_heard : (w : World) (store : List ℕ) (a : Answer Reception)
    → (receive_after w store a).receiver ≡ receive_state w.receiver a
receiver_heard w store (refused n) = refl
receiver_heard w store (done x) = refl

-- ---- one call

module _ (w : World) (s : Sender) (e : w.sender ≡ s) (order : List ℕ) (reading : Bool) (slice : List ℕ) (arrives : Bits)
    (step : SenderStep.Step) (slice' : List ℕ) (kept : Send s order reading slice step slice') where
  send-result : Result.sender (sent_answer step.answer) step.state slice' ≡ result w (sending order reading slice arrives)
  send-result = rw (e, kept.answers, kept.state, kept.writes)

  send-next : (next w (sending order reading slice arrives)).sender ≡ step.state
  send-next = sender_sent w reading arrives (send w.sender order reading slice) ∙ rw (e, kept.state)

module _ (w : World) (r : Receiver) (e : w.receiver ≡ r) (line : List ℕ) (count : ℕ) (ready : Bool) (store : List ℕ)
    (step : ReceiverStep.Step) (store' : List ℕ) (kept : Receive r line count ready store step store') where
  receive-result : Result.receiver (received_answer step.answer) step.state store' ≡ result w (receiving line count ready store)
  receive-result = rw (e, kept.answers, kept.state, kept.writes)

  receive-next : (next w (receiving line count ready store)).receiver ≡ step.state
  receive-next = receiver_heard w store (receive w.receiver line count ready store) ∙ rw (e, kept.state)

-- ---- the list

pub answers : {s : Sender} {r : Receiver} {calls : List Call} (run : Run s r calls) (w : World)
    → w.sender ≡ s → w.receiver ≡ r → observed run ≡ results w calls
answers none w e f = refl
answers (sends {s = s} {order = order} {reading = reading} {slice = slice} {arrives = arrives} step slice' kept run) w e f =
    ap₂ ◌∷◌ (send-result w s e order reading slice arrives step slice' kept)
    (answers run (next w (sending order reading slice arrives)) (send-next w s e order reading slice arrives step slice' kept)
    (receiver_sent w reading arrives (send w.sender order reading slice) ∙ f))
answers (receives {r = r} {line = line} {count = count} {ready = ready} {store = store} step store' kept run) w e f =
    ap₂ ◌∷◌ (receive-result w r f line count ready store step store' kept)
    (answers run (next w (receiving line count ready store))
    (sender_heard w store (receive w.receiver line count ready store) ∙ e) (receive-next w r f line count ready store step store' kept))

-- ---- every list of calls has such a run: the promises can be kept

block_of : Block → Sent
block_of synchronising = W.Synchronising
block_of (item i end used cancel) = W.Item i end used cancel

sent_of : (spoiled rest short : Bool) → Block → Prelude.Result Sent Refusal
sent_of spoiled rest short b =
    cond spoiled (Prelude.Err N.Spoiled) (cond rest (Prelude.Err N.Rest) (cond short (Prelude.Err N.Short) (Prelude.Ok (block_of b))))

block_of_lem : (b : Block) → sent_block (block_of b) ≡ b
unfolding block_of
block_of_lem synchronising = refl
block_of_lem (item i end used cancel) = refl

sent_of_lem : (spoiled rest short : Bool) (b : Block) → sent_answer (sent_of spoiled rest short b)
    ≡ refuse_if spoiled A.spoiled (refuse_if rest Refusals.rest (refuse_if short A.short (done b)))
unfolding sent_of
sent_of_lem true rest short b = refl
sent_of_lem false true short b = refl
sent_of_lem false false true b = refl
sent_of_lem false false false b = ap done (block_of_lem b)

-- what a sending call answers
can_send : (s : Sender) (order : List ℕ) (reading : Bool) (slice : List ℕ)
    → (r : Prelude.Result Sent Refusal) × (sent_answer r ≡ send s order reading slice)
unfolding send
can_send s order reading slice = (_, sent_of_lem _ _ _ _)

received_of : Answer Reception → Prelude.Result Received Refusal
received_of (refused n) = Err (cond (eqb n A.spoiled) N.Spoiled N.Short)
received_of (done x) = Ok (record { event = (meaning x.rule).event; bits = x.used })

-- what a receiving call refuses has the number of a refusal
received_of_lem : (r : Receiver) (line : List ℕ) (count : ℕ) (ready : Bool) (store : List ℕ)
    → received_answer (received_of (receive r line count ready store)) ≡ reported (receive r line count ready store)
unfolding receive received_of
received_of_lem r line count ready store =
    let x : Reception = reception r (take count (bits_of line)) count ready in
    by (not (receiver_in_range r)) (too_short line count) ((meaning x.rule).stores && too_short store (r.taken * r.setup.k + r.setup.k)) x
  where
    by : (a b c : Bool) (x : Reception)
        → received_answer (received_of (refuse_if a A.spoiled (refuse_if b A.short (refuse_if c A.short (done x)))))
        ≡ reported (refuse_if a A.spoiled (refuse_if b A.short (refuse_if c A.short (done x))))
    by true b c x = refl
    by false true c x = refl
    by false false true x = refl
    by false false false x = refl

pub runs : (s : Sender) (r : Receiver) (calls : List Call) → Run s r calls
runs s r [] = none
runs s r (sending order reading slice arrives ∷ calls) =
    let a = send s order reading slice in
    let x = can_send s order reading slice in
    sends (record { state = send_state s reading a; answer = x.0 }) (send_bytes s order slice a)
    (record { answers = x.1; state = refl; writes = refl }) (runs (send_state s reading a) r calls)
runs s r (receiving line count ready store ∷ calls) =
    let a = receive r line count ready store in
    receives (record { state = receive_state r a; answer = received_of a }) (receive_store r store a)
    (record { answers = received_of_lem r line count ready store; state = refl; writes = refl }) (runs s (receive_state r a) calls)
