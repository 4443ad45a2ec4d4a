-- A period from its sending call on, by that call's promise. Assumes nothing.
use mathlib.Core.Path.{◌≡◌, refl, sym, ap, ◌∙◌}
use mathlib.Core.Bool.{Bool}
use mathlib.Core.List.{List}
use Prim.Native.Nat.{ℕ, ◌+◌, ◌*◌, ◌≤◌}
use native.Mathlib.Omega.{arith}
use lib.ListN.{length, take, replicate}
use Rattle.crc.specs.Bits.{Bits, bits_of, bytes_of}
use Rattle.block.specs.Answer.{refused, done}
use Rattle.block.proofs.Lengths.{length_facts}
use Rattle.line.specs.Order.{order_bits}
use Rattle.line.specs.Sending as S
use Rattle.line.specs.Refusals.{refusal_number}
use Rattle.line.specs.Sending.{send, send_bytes, sent_bits, sent_answer, sent_block, Send}
use Rattle.line.specs.declared.Refusal.{Refusal}
use Rattle.line.specs.declared.sender.Sent.{Sent}
use Rattle.line.specs.declared.sender.Sender.{Sender}
use Rattle.line.specs.declared.sender.Step.{Step}
use Rattle.line.specs.declared.receiver.Receiver.{Receiver}
use Rattle.line.specs.declared.receiving.Event.TheVariants as E
use Rattle.std.proofs.Common.{Ok, Err}
use Rattle.session.specs.Period.{reading_of, line_bytes, Lent, arriving, hear, as_shown, heard_result, ends_of, period}
use Rattle.session.specs.declared.period.Kind.{Kind}
use Rattle.session.proofs.ReceivingCalls.{held_bits_lem, lent_packed}
use Rattle.session.proofs.Sent.{on_line}

module _ (kind : Kind) (s : Sender) (r : Receiver) (order store : List ℕ) (reading : Bool) (step : Step) (line : List ℕ)
    (e : reading ≡ reading_of kind r.back) (kept : Send s order reading (replicate line_bytes 0) step line) where
  -- refused
  pub not-sent : (f : Refusal) → step.answer ≡ Err f
      → record { ends = ends_of step.state r; outcome = refused (refusal_number f); store = store } ≡ period kind s r order store
  unfolding period
  not-sent f a =
      let g : send s order reading (replicate line_bytes 0) ≡ refused (refusal_number f) = sym kept.answers ∙ ap sent_answer a in
      rw (kept.state, g, ← e, g) refl

  pub record BlockSent (sent : Sent) : Type 0 where
    pub count : s.setup.k ≤ 3840
    pub lent : Lent line (s.setup.k + 20)
    pub result : period kind s r order store
        ≡ heard_result step.state (as_shown (sent_block sent) reading)
        (hear (s.setup.k + 20) r (arriving kind (take (s.setup.k + 20) (bits_of line))) store E.None)

  pub sent : (x : Sent) → step.answer ≡ Ok x → BlockSent x
  unfolding period
  sent x a =
      let b : S.Block = sent_block x in
      let g : send s order reading (replicate line_bytes 0) ≡ done b = sym kept.answers ∙ ap sent_answer a in
      let bits : Bits = sent_bits s.setup.marks s.setup.k s.setup.length (order_bits s.setup.length order) b in
      let o = on_line s order reading b g in
      let f = length_facts s.setup.k o.known in
      let l : line ≡ bytes_of line_bytes bits = kept.writes ∙ ap (send_bytes s order (replicate line_bytes 0)) g ∙ o.packed in
      let m : length bits ≤ 8 * line_bytes = omega (arith, o.count) in
      record {
        count = omega arith;
        lent = rw (l, ← o.count) (lent_packed bits m);
        result = rw (l, ← o.count, held_bits_lem bits m, kept.state, g, ← e, g);
      }
