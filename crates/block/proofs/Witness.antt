-- The theorems with hypotheses, each at a case that meets them: k = 240. Assumes nothing.
use Rattle.std.specs.Prelude.{Result, Ok}
use Rattle.block.specs.declared.Refusal.{Refusal}
use Rattle.block.specs.declared.Read.{Read}
use mathlib.Core.Path.{◌≡◌, refl, sym}
use mathlib.Core.Bool.{true, false}
use mathlib.Core.List.{List, [], ◌∷◌, ◌++◌}
use Prim.Native.Nat.{ℕ, zero, suc, ◌-◌, ◌%◌, ◌≤◌, ◌<◌}
use native.Mathlib.Omega.{arith}
use lib.Dec.{lit<, lit≤}
use lib.ListN.{length, get_or, take, drop, replicate}
use Rattle.crc.specs.Bits.{zeros, binary, number, bits_of, bytes_of, xor_bits}
use Rattle.crc.specs.Polynomial.{polynomial, Divides, Remainder}
use Rattle.crc.specs.Check.{remainder, passes, register}
use Rattle.block.specs.Answer.{done}
use Rattle.block.specs.Lengths.{is_length}
use Rattle.block.specs.Block.{passed, failed, verdict, sync_block, cancelled}
use Rattle.block.specs.Calls.{build_block, built_bytes, BuildBlock, read_block, ReadBlock, cancel_block, CancelBlock}
use Rattle.block.specs.Packed.{read_packed}
use Rattle.block.specs.declared.Read.TheVariants as R
use Rattle.block.proofs.Lengths.{length_facts}
use Rattle.block.proofs.Block.{length-sync_block, sync_fails, cancelled_last}
use Rattle.block.proofs.LookUp.{read_known}
use Rattle.block.proofs.RoundTrip.{read_built, bytes_built, built_read}
use Rattle.block.proofs.Passing.{failing, passing}
use Rattle.block.proofs.Cancelled.{cancelled-read}

known : is_length 240 ≡ true
unfolding is_length
known = refl

facts : (240 % 8 ≡ 0) × (240 ≤ 240) × (240 ≤ 3840)
facts = length_facts 240 known

length_sync : length (sync_block 240) ≡ 260
length_sync = length-sync_block 240 refl

fails_sync : passes (sync_block 240) ≡ false
fails_sync = sync_fails 240 refl (lit≤ tt) (lit≤ tt)

last_of_sync : xor_bits (cancelled (sync_block 240)) (sync_block 240) ≡ zeros (length (sync_block 240) - 1) ++ true ∷ []
last_of_sync = cancelled_last (sync_block 240) (omega (arith, length_sync))

-- thirty bytes of data, a slice for the block and room for the data read
sample : List ℕ
sample = replicate 30 0x41

sample_lt : (n i : ℕ) → get_or (replicate n 0x41) i 0 < 256
sample_lt zero i = lit< tt
sample_lt (suc n) zero = lit< tt
sample_lt (suc n) (suc i) = sample_lt n i

empty : ℕ → List ℕ
empty n = replicate n 0

read_back : read_packed 240 (built_bytes 240 5 sample (empty 33) (done tt)) (empty 30) ≡ done (passed 5)
unfolding sample empty
read_back = read_built 240 5 sample (empty 33) (empty 30) refl (lit≤ tt) (lit≤ tt) (lit≤ tt) (lit≤ tt)

built : BuildBlock 240 5 sample (empty 33) (Ok tt) (built_bytes 240 5 sample (empty 33) (done tt))
unfolding sample empty build_block is_length
built = record { answers = refl; writes = refl }

read : ReadBlock 240 (built_bytes 240 5 sample (empty 33) (done tt)) (empty 30) (Ok (R.Passed 5)) sample
unfolding sample empty
read =
    read_known 240 known 30 refl _ _ _ _
    (record {
      answers = sym read_back;
      writes = sym (bytes_built 240 5 sample (empty 33) (empty 30) refl (lit≤ tt) (lit≤ tt) (lit≤ tt) (lit≤ tt) (sample_lt 30));
    })

built_and_read : (◌≡◌ {A = Result Read Refusal} (Ok (R.Passed 5)) (Ok (R.Passed 5))) × (sample ≡ take 30 sample ++ drop 30 (empty 30))
unfolding sample empty
built_and_read = built_read 240 5 sample (empty 33) _ (empty 30) sample (Ok (R.Passed 5)) (sample_lt 30) built read (lit≤ tt)

-- a block that is read: all zeros, which passes
zero-read : ReadBlock 240 (empty 33) (empty 30) (Ok (R.Passed 0)) (empty 30)
unfolding empty read_block verdict is_length bits_of bytes_of binary number passes remainder
zero-read = record { answers = refl; writes = refl }

zero_divides : Divides (polynomial (take 260 (bits_of (empty 33))))
zero_divides =
    (passing 240 (empty 33) (empty 30) (empty 30) (Ok (R.Passed 0)) zero-read (λ n e. absurd (let z : ◌≡◌ {A = ℕ} 0 1 = cc in omega arith))).0 (0, refl)

-- the same block cancelled: the bit 0x10 of its last byte
cancelled-zero : List ℕ
cancelled-zero = replicate 32 0 ++ 0x10 ∷ []

zero-cancelled : CancelBlock 240 (empty 33) (Ok tt) cancelled-zero
unfolding empty cancelled-zero cancel_block cancelled is_length bits_of bytes_of binary number
zero-cancelled = record { answers = refl; writes = refl }

one_read : ReadBlock 240 cancelled-zero (empty 30) (Ok (R.Failed 1)) (empty 30)
unfolding empty cancelled-zero read_block verdict is_length bits_of bytes_of binary number passes remainder
one_read = record { answers = refl; writes = refl }

shows_one : ◌≡◌ {A = Result Read Refusal} (Ok (R.Failed 1)) (Ok (R.Failed 1))
unfolding empty
shows_one =
    cancelled-read 240 (empty 33) cancelled-zero zero-cancelled 0 (empty 30) (empty 30) (empty 30) (empty 30) (Ok (R.Failed 1)) zero-read one_read
    (lit≤ tt)

one_remains : Remainder (polynomial (take 260 (bits_of cancelled-zero))) 1
one_remains = (failing 240 cancelled-zero (empty 30) (empty 30) 1 one_read).0

-- 1 is no proof of a cancelled block: this one was not, and has the bits at powers 16, 12 and 5 inverted
other_damage : verdict (binary 260 0x11020) ≡ failed 1
unfolding verdict binary number passes remainder
other_damage = refl

-- the register that takes all n bits at x^16 shows another number for a cancelled block
register_differs : register 0 (take 260 (bits_of cancelled-zero)) ≡ 0x1021
unfolding cancelled-zero register bits_of binary
register_differs = refl
