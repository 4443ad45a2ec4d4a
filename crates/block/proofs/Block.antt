-- The block as a row: its length and parts, that it passes, that the synchronising block fails, what cancelling inverts, and the
-- remainder that it leaves. Assumes nothing.
use mathlib.Core.Path.{◌≡◌, refl, sym, ap, ap₂, ◌∙◌}
use mathlib.Core.Bool.{Bool, true, false, not, ◌&&◌, not-not}
use mathlib.Core.List.{[], ◌∷◌, ◌++◌, append_assoc}
use Prim.Native.Nat.{ℕ, zero, suc, ◌+◌, ◌-◌, ◌*◌, ◌/◌, ◌%◌, ◌≤◌, ◌<◌}
use native.Mathlib.Omega.{arith}
use borrow.Author.Tests.{not-true}
use lib.Bits.{bit_xor, xor_zero_r}
use lib.Dec.{eqb}
use lib.ListN.{length, take, drop, length-append}
use lib.Seq.{take_at, drop_at}
use Rattle.crc.specs.Bits.{Bits, zeros, binary, xor, xor_bits}
use Rattle.crc.specs.Check.{divide, check, remainder, passes}
use Rattle.crc.proofs.Rows.{length-binary, xor_bit_self}
use Rattle.crc.proofs.Linear.{divide-zeros, remainder-append, remainder-xor}
use Rattle.crc.proofs.Division.{passes-remainder}
use Rattle.crc.proofs.Codeword.{passes_checked}
use Rattle.block.specs.Lengths.{block_length}
use Rattle.block.specs.Block.{block_bits, service_of, payload_of, failed, verdict, tens, service_sync, sync_sequence, sync_block, cancelled}
use Rattle.block.proofs.Truth.{and_left, and_right}

-- ---- a block built

pub length-block_bits : (service payload : Bits) → length (block_bits service payload) ≡ length service + length payload + 16
unfolding block_bits
length-block_bits service payload =
    length-append (service ++ payload) (binary 16 (check (service ++ payload)))
    ∙ ap₂ (λ (x y : ℕ). x + y) (length-append service payload) (length-binary 16 (check (service ++ payload)))

pub passes-block_bits : (service payload : Bits) → passes (block_bits service payload) ≡ true
unfolding block_bits
passes-block_bits service payload = passes_checked (service ++ payload)

pub service_block_bits : (service payload : Bits) → length service ≡ 4 → service_of (block_bits service payload) ≡ service
unfolding block_bits
service_block_bits service payload h =
    ap (take 4) (append_assoc service payload (binary 16 (check (service ++ payload))))
    ∙ take_at service (payload ++ binary 16 (check (service ++ payload))) 4 h

pub payload_block_bits : (k : ℕ) (service payload : Bits) → length service ≡ 4 → length payload ≡ k
    → payload_of k (block_bits service payload) ≡ payload
unfolding block_bits
payload_block_bits k service payload h e =
    ap (λ (l : Bits). take k (drop 4 l)) (append_assoc service payload (binary 16 (check (service ++ payload))))
    ∙ ap (take k) (drop_at service (payload ++ binary 16 (check (service ++ payload))) 4 h)
    ∙ take_at payload (binary 16 (check (service ++ payload))) k e

-- ---- the synchronising block

length-tens : (n : ℕ) → length (tens n) ≡ n * 2
length-tens zero = refl
length-tens (suc n) = ap (λ (x : ℕ). suc (suc x)) (length-tens n) ∙ omega arith

pub length-sync_block : (k : ℕ) → k % 8 ≡ 0 → length (sync_block k) ≡ block_length k
unfolding sync_block
length-sync_block k h =
    omega (
      arith,
      length-append (service_sync ++ tens (k / 2)) sync_sequence,
      length-append service_sync (tens (k / 2)),
      length-tens (k / 2),
    )

-- It fails the check. Each length has eight bits more than the one before, so one division goes through them all: the sequence,
-- after each of n lengths more, does not bring the register to zero.
none_passes : ℕ → ℕ → Bool
none_passes zero c = true
none_passes (suc n) c = not (eqb (divide (divide c (tens 4)) sync_sequence) 0) && none_passes n (divide c (tens 4))

eight_more : (c j : ℕ) → divide c (tens (4 * suc j)) ≡ divide (divide c (tens 4)) (tens (4 * j))
eight_more c j =
    let e : 4 * suc j ≡ suc (suc (suc (suc (4 * j)))) = omega arith in
    ap (λ (n : ℕ). divide c (tens n)) e

one_fails : (n c i : ℕ) → none_passes n c ≡ true → i < n → eqb (divide (divide c (tens (4 * suc i))) sync_sequence) 0 ≡ false
unfolding none_passes
one_fails zero c i t h = absurd (omega arith)
one_fails (suc n) c zero t h = not-true (eqb (divide (divide c (tens 4)) sync_sequence) 0) (and_left _ (none_passes n (divide c (tens 4))) t)
one_fails (suc n) c (suc i) t h =
    ap (λ (x : ℕ). eqb (divide x sync_sequence) 0) (eight_more c (suc i))
    ∙ one_fails n (divide c (tens 4)) i (and_right (not (eqb (divide (divide c (tens 4)) sync_sequence) 0)) _ t) (omega arith)

all_fail : none_passes 480 (divide 0 service_sync) ≡ true
unfolding none_passes
all_fail = refl

pub sync_fails : (k : ℕ) → k % 8 ≡ 0 → 8 ≤ k → k ≤ 3840 → passes (sync_block k) ≡ false
unfolding sync_block passes remainder
sync_fails k whole low high =
    let i : ℕ = k / 8 - 1 in
    let e : k / 2 ≡ 4 * suc i = omega arith in
    ap (λ (x : ℕ). eqb x 0)
    (remainder-append (service_sync ++ tens (k / 2)) sync_sequence
    ∙ ap (λ (x : ℕ). divide x sync_sequence) (remainder-append service_sync (tens (k / 2)) ∙ ap (λ (n : ℕ). divide (divide 0 service_sync) (tens n)) e))
    ∙ one_fails 480 (divide 0 service_sync) i all_fail (omega arith)

-- ---- a block cancelled

pub length-cancelled : (b : Bits) → length (cancelled b) ≡ length b
unfolding cancelled
length-cancelled [] = refl
length-cancelled (b ∷ []) = refl
length-cancelled (b ∷ c ∷ bs) = ap suc (length-cancelled (c ∷ bs))

pub cancelled-cons : (b : Bool) (bs : Bits) → 0 < length bs → cancelled (b ∷ bs) ≡ b ∷ cancelled bs
unfolding cancelled
cancelled-cons b [] h = absurd (omega arith)
cancelled-cons b (c ∷ bs) h = refl

-- what stands in front stays
pub cancelled-append : (x y : Bits) → 0 < length y → cancelled (x ++ y) ≡ x ++ cancelled y
cancelled-append [] y h = refl
cancelled-append (b ∷ x) y h =
    cancelled-cons b (x ++ y) (omega (arith, length-append x y)) ∙ ap (λ (l : Bits). b ∷ l) (cancelled-append x y h)

xor-not : (b : Bool) → xor (not b) b ≡ true
xor-not true = refl
xor-not false = refl

pub cancelled_last : (b : Bits) → 0 < length b → xor_bits (cancelled b) b ≡ zeros (length b - 1) ++ true ∷ []
unfolding cancelled xor_bits
cancelled_last [] h = absurd (omega arith)
cancelled_last (b ∷ []) h = ap (λ (x : Bool). x ∷ []) (xor-not b)
cancelled_last (b ∷ c ∷ bs) h =
    let e : suc (suc (length bs)) - 1 ≡ suc (suc (length bs) - 1) = omega arith in
    ap₂ (λ (x : Bool) (l : Bits). x ∷ l) (xor_bit_self b) (cancelled_last (c ∷ bs) (omega arith))
    ∙ ap (λ (n : ℕ). zeros n ++ true ∷ []) (sym e)

-- the first bits stay
pub cancelled_front : (m : ℕ) (b : Bits) → m < length b → take m (cancelled b) ≡ take m b
unfolding cancelled
cancelled_front m [] h = absurd (omega arith)
cancelled_front zero (b ∷ bs) h = refl
cancelled_front (suc m) (b ∷ []) h = absurd (omega arith)
cancelled_front (suc m) (b ∷ c ∷ bs) h = ap (λ (l : Bits). b ∷ l) (cancelled_front m (c ∷ bs) (omega arith))

-- of a row that passes, the inverted last bit alone is left
pub cancelled-remainder : (b : Bits) → 0 < length b → passes b ≡ true → remainder (cancelled b) ≡ 1
unfolding remainder
cancelled-remainder b h p =
    sym (xor_zero_r (remainder (cancelled b))) ∙ ap (bit_xor (remainder (cancelled b))) (sym ((passes-remainder b).0 p))
    ∙ sym (remainder-xor (cancelled b) b (length-cancelled b)) ∙ ap remainder (cancelled_last b h)
    ∙ remainder-append (zeros (length b - 1)) (true ∷ []) ∙ ap (λ (c : ℕ). divide c (true ∷ [])) (divide-zeros (length b - 1))

pub cancelled-verdict : (b : Bits) → 0 < length b → passes b ≡ true → verdict (cancelled b) ≡ failed 1
unfolding verdict passes
cancelled-verdict b h p = rw (cancelled-remainder b h p) refl

pub cancelled-cancelled : (b : Bits) → cancelled (cancelled b) ≡ b
unfolding cancelled
cancelled-cancelled [] = refl
cancelled-cancelled (b ∷ []) = ap (λ (x : Bool). x ∷ []) (not-not b)
cancelled-cancelled (b ∷ c ∷ bs) =
    cancelled-cons b (cancelled (c ∷ bs)) (omega (arith, length-cancelled (c ∷ bs)))
    ∙ ap (λ (l : Bits). b ∷ l) (cancelled-cancelled (c ∷ bs))
