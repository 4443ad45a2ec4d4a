-- A block split into calls of one bit is read as it is in one call. Assumes nothing.
use mathlib.Core.Path.{◌≡◌, refl, ap, ◌∙◌}
use mathlib.Core.Bool.{Bool, true, false, false≢true}
use mathlib.Core.List.{List, [], ◌∷◌, ◌++◌, append_assoc}
use native.Mathlib.Omega.{arith}
use Prim.Native.Nat.{ℕ, suc, ◌+◌, ◌*◌, ◌≤◌, ◌<◌}
use lib.ListN.{length, take}
use borrow.Author.Tests.{lt-ltb, le-ltb}
use Rattle.crc.specs.Bits.{Bits, binary, number, bits_of, bytes_of}
use Rattle.crc.proofs.Bytes.{length-bytes_of}
use Rattle.block.specs.Answer.{Answer, done}
use Rattle.block.specs.Lengths.{is_length, block_length}
use Rattle.block.proofs.Lengths.{length_facts}
use Rattle.line.specs.Marks.{marks_in_range}
use Rattle.line.specs.Order.{most_items}
use Rattle.line.specs.Receiving.{array_bytes, last_bad, Rule, unfinished, standing, sequence_found, reads_sync, check_fails, accepts, previous, out_of_sequence, ends, wrong_length, ends_again, anything_else, waits, meaning, block_rule, after, held_bits, Reception, stops, holding, missing, in_step, reception, held_in_range, receiver_in_range, judge_store, receive, receive_state}
use Rattle.line.specs.declared.receiver.Receiver.{Receiver}
use Rattle.line.specs.declared.receiving.Phase.{Phase}
use Rattle.line.specs.declared.receiving.Phase.TheVariants as P
use Rattle.line.proofs.ReceivingCall.{range_in}
use Rattle.line.proofs.Delivery.BlockRules.{Judged, as_sync, fails, as_data, as_other, block-judged}
use Rattle.line.proofs.Delivery.WrittenBits.{length-holding, held_bits-holding}

-- one call for each bit, each given the state that the last handed back; the last call's answer
abbrev pub bit_by_bit : Receiver → Bool → List ℕ → Bits → Answer Reception → Answer Reception
bit_by_bit s ready store [] last = last
bit_by_bit s ready store (b ∷ bs) last =
    bit_by_bit (receive_state s (receive s (bytes_of 1 (b ∷ [])) 1 ready store)) ready store bs (receive s (bytes_of 1 (b ∷ [])) 1 ready store)

-- in step, and so many bits of the block missing
pub record Missing (s : Receiver) (m : ℕ) : Type 0 where
  pub known : is_length s.setup.k ≡ true
  pub marks : marks_in_range s.setup.marks ≡ true
  pub bad_row : s.bad_row < last_bad
  pub taken : s.taken ≤ most_items
  pub phase : s.phase ≡ P.InStep
  pub array : length s.bits ≡ array_bytes
  pub held : s.held + m ≡ block_length s.setup.k

in_range : (s : Receiver) (m : ℕ) → Missing s (suc m) → receiver_in_range s ≡ true
in_range s m w =
    range_in s (record {
      known = w.known;
      marks = w.marks;
      bad_row = w.bad_row;
      taken = w.taken;
      held = ap (λ (p : Phase). held_in_range p (block_length s.setup.k) s.held) w.phase
          ∙ lt-ltb s.held (block_length s.setup.k) (omega (arith, w.held));
    })

bit-lent : (b : Bool) → take 1 (bits_of (bytes_of 1 (b ∷ []))) ≡ b ∷ []
unfolding bits_of bytes_of binary number
bit-lent true = refl
bit-lent false = refl

one_call : (s : Receiver) (b ready : Bool) (store : List ℕ) → receiver_in_range s ≡ true → s.phase ≡ P.InStep
    → receive s (bytes_of 1 (b ∷ [])) 1 ready store ≡ judge_store s store (in_step s (b ∷ []) ready)
unfolding receive reception
one_call s b ready store range phase =
    rw (range, le-ltb (8 * length (bytes_of 1 (b ∷ []))) 1 (omega (arith, length-bytes_of 1 (b ∷ []))), bit-lent b, phase)

module _ (s : Receiver) (b ready : Bool) where
  abbrev one_more : Reception
  one_more = record { rule = unfinished; row = []; used = 1; state = holding s (b ∷ []) }

  -- not the block's last
  bit_held : (m : ℕ) → Missing s (suc (suc m))
      → in_step s (b ∷ []) ready ≡ one_more
  unfolding in_step
  bit_held m w = rw (lt-ltb 1 (missing s) (omega (arith, w.held)))

  one_less : (m : ℕ) → Missing s (suc (suc m)) → Missing (holding s (b ∷ [])) (suc m)
  one_less m w =
      record {
        known = w.known;
        marks = w.marks;
        bad_row = w.bad_row;
        taken = w.taken;
        phase = w.phase;
        array = length-holding s (b ∷ []);
        held = omega (arith, w.held);
      }

  -- the block's last
  bit_last : Missing s 1
      → in_step s (b ∷ []) ready ≡ stops s (block_rule s (held_bits s ++ (b ∷ [])) ready) (held_bits s ++ (b ∷ [])) 1
  unfolding in_step
  bit_last w = let one : missing s ≡ 1 = omega (arith, w.held) in rw one refl

-- what a rule that ends a block leaves does not depend on the bits held
pub after-holding : (s : Receiver) (new : Bits) {x : Rule} → Judged x → after (holding s new) x ≡ after s x
after-holding s new as_sync = refl
after-holding s new (fails n) = refl
after-holding s new {x} (as_data h) = data_or_end x h
  where
    data_or_end : (x : Rule) → (meaning x).data_or_end ≡ true → after (holding s new) x ≡ after s x
    data_or_end unfinished e = absurd (false≢true e)
    data_or_end (standing alarm) e = absurd (false≢true e)
    data_or_end sequence_found e = refl
    data_or_end reads_sync e = refl
    data_or_end (check_fails n) e = refl
    data_or_end accepts e = refl
    data_or_end previous e = refl
    data_or_end out_of_sequence e = refl
    data_or_end (ends L) e = refl
    data_or_end wrong_length e = refl
    data_or_end ends_again e = refl
    data_or_end anything_else e = refl
    data_or_end waits e = refl
after-holding s new as_other = refl

-- what the whole block comes to, at its last bit
abbrev pub finished : Receiver → Bool → List ℕ → Bits → Answer Reception
finished s ready store row = judge_store s store (stops s (block_rule s row ready) row 1)

finished_holding : (s : Receiver) (ready : Bool) (store : List ℕ) (new row row' : Bits) → row ≡ row'
    → finished (holding s new) ready store row ≡ finished s ready store row'
finished_holding s ready store new row row' e =
    ap (finished (holding s new) ready store) e
    ∙ ap (λ (t : Receiver). judge_store s store (record { rule = rule; row = row'; used = 1; state = t }))
    (after-holding s new (block-judged s row' ready))
  where
    rule : Rule
    rule = block_rule s row' ready

pub bit_by_bit_lem : (s : Receiver) (ready : Bool) (store : List ℕ) (b : Bool) (row : Bits) (last : Answer Reception) → Missing s (length (b ∷ row))
    → bit_by_bit s ready store (b ∷ row) last ≡ finished s ready store (held_bits s ++ (b ∷ row))
bit_by_bit_lem s ready store b [] last w =
    one_call s b ready store (in_range s 0 w) w.phase ∙ ap (judge_store s store) (bit_last s b ready w)
bit_by_bit_lem s ready store b (c ∷ row) last w =
    ap (λ (a : Answer Reception). bit_by_bit (receive_state s a) ready store (c ∷ row) a)
    (one_call s b ready store (in_range s (length (c ∷ row)) w) w.phase ∙ ap (judge_store s store) (bit_held s b ready (length row) w))
    ∙ bit_by_bit_lem (holding s (b ∷ [])) ready store c row (done (one_more s b ready)) (one_less s b ready (length row) w)
    ∙ finished_holding s ready store (b ∷ []) (held_bits (holding s (b ∷ [])) ++ (c ∷ row)) (held_bits s ++ (b ∷ (c ∷ row)))
    (ap (λ (r : Bits). r ++ (c ∷ row)) (held_bits-holding s (b ∷ []) w.array (omega (arith, w.held, length_facts s.setup.k w.known)))
    ∙ append_assoc (held_bits s) (b ∷ []) (c ∷ row))
