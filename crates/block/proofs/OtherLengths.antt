-- The theorem over k at two lengths that no call by k admits, each with what meets its hypotheses: k 0, with the examples' five
-- blocks, and k 248. Assumes nothing.
use Rattle.std.specs.Prelude.{Result, Ok}
use Rattle.block.specs.declared.Refusal.{Refusal}
use Rattle.block.specs.declared.Read.{Read}
use mathlib.Core.Path.{◌≡◌, refl, sym}
use mathlib.Core.List.{List, [], ◌∷◌, ◌++◌}
use Prim.Native.Nat.{ℕ, zero, suc, ◌<◌}
use lib.Dec.{lit<, lit≤}
use lib.ListN.{get_or, take, drop, replicate}
use Rattle.crc.specs.Bits.{zeros, binary, number, bits_of, bytes_of}
use Rattle.crc.specs.Polynomial.{polynomial, Remainder}
use Rattle.crc.specs.Check.{remainder, passes, check}
use Rattle.block.specs.Answer as A
use Rattle.block.specs.Answer.{refused, done}
use Rattle.block.specs.Lengths.{is_length}
use Rattle.block.specs.Block.{block_bits, verdict, sync_block, cancelled}
use Rattle.block.specs.Calls.{built_bytes, build_block}
use Rattle.block.specs.Packed.{build_packed, BuildPacked, check_packed, CheckPacked, read_packed, ReadPacked, held_packed, SyncPacked, CancelPacked}
use Rattle.block.specs.EveryLength.{EveryLength}
use Rattle.block.specs.declared.Read.TheVariants as R
use Rattle.block.proofs.RoundTrip.{read_built, bytes_built}
use Rattle.block.proofs.EveryLength.{every_length}

-- ---- k 0: the four service bits and their check, in three bytes

block_of : ℕ → List ℕ
block_of service = built_bytes 0 service [] (0 ∷ 0 ∷ 0 ∷ []) (done tt)

examples : block_of 0b0011 ∷ block_of 0b1001 ∷ block_of 0b1100 ∷ block_of 0b0101 ∷ block_of 0b1000 ∷ []
    ≡ (0x33 ∷ 0x06 ∷ 0x30 ∷ []) ∷ (0x99 ∷ 0x12 ∷ 0x90 ∷ []) ∷ (0xcc ∷ 0x18 ∷ 0xc0 ∷ []) ∷ (0x55 ∷ 0x0a ∷ 0x50 ∷ []) ∷ (0x88 ∷ 0x10 ∷ 0x80 ∷ []) ∷ []
unfolding block_of block_bits check remainder binary number bits_of bytes_of
examples = refl

at_0 : EveryLength 0
at_0 = every_length 0 refl

-- the letter A alone: built, read, cancelled
letter : List ℕ
letter = 0x33 ∷ 0x06 ∷ 0x30 ∷ []

letter_built : BuildPacked 0 3 [] (0 ∷ 0 ∷ 0 ∷ []) (Ok tt) letter
unfolding letter build_packed block_bits check remainder binary number bits_of bytes_of
letter_built = record { answers = refl; writes = refl }

letter-read : ReadPacked 0 letter [] (Ok (R.Passed 3)) []
unfolding letter read_packed verdict passes remainder binary number bits_of bytes_of
letter-read = record { answers = refl; writes = refl }

letter_bits : bits_of letter ≡ block_bits (binary 4 3) (take 0 (bits_of [])) ++ (zeros 4 ++ bits_of (drop 3 (0 ∷ 0 ∷ 0 ∷ [])))
letter_bits = at_0.packing 3 [] (0 ∷ 0 ∷ 0 ∷ []) letter letter_built

letter_back : (◌≡◌ {A = Result Read Refusal} (Ok (R.Passed 3)) (Ok (R.Passed 3))) × (◌≡◌ {A = List ℕ} [] (take 0 [] ++ drop 0 []))
letter_back = at_0.unpacking 3 [] (0 ∷ 0 ∷ 0 ∷ []) letter [] [] (Ok (R.Passed 3)) (λ i. lit< tt) letter_built letter-read (lit≤ tt)

letter-cancelled : CancelPacked 0 letter (Ok tt) (0x33 ∷ 0x06 ∷ 0x20 ∷ [])
unfolding letter held_packed cancelled binary number bits_of bytes_of
letter-cancelled = record { answers = refl; writes = refl }

cancelled-read : ReadPacked 0 (0x33 ∷ 0x06 ∷ 0x20 ∷ []) [] (Ok (R.Failed 1)) []
unfolding read_packed verdict passes remainder binary number bits_of bytes_of
cancelled-read = record { answers = refl; writes = refl }

cancelled_bits : bits_of (0x33 ∷ 0x06 ∷ 0x20 ∷ []) ≡ cancelled (take 20 (bits_of letter)) ++ drop 20 (bits_of letter)
cancelled_bits = at_0.cancelling letter (0x33 ∷ 0x06 ∷ 0x20 ∷ []) letter-cancelled

shows_one : ◌≡◌ {A = Result Read Refusal} (Ok (R.Failed 1)) (Ok (R.Failed 1))
shows_one = at_0.cancelling_fails 3 letter (0x33 ∷ 0x06 ∷ 0x20 ∷ []) [] [] [] [] (Ok (R.Failed 1)) letter-read letter-cancelled cancelled-read (lit≤ tt)

-- without data the synchronising block is the example of 0101, and passes
sync_written : SyncPacked 0 (0 ∷ 0 ∷ 0 ∷ []) (Ok tt) (0x55 ∷ 0x0a ∷ 0x50 ∷ [])
unfolding held_packed sync_block number bytes_of
sync_written = record { answers = refl; writes = refl }

sync_bits : bits_of (0x55 ∷ 0x0a ∷ 0x50 ∷ []) ≡ sync_block 0 ++ (zeros 4 ++ bits_of (drop 3 (0 ∷ 0 ∷ 0 ∷ [])))
sync_bits = at_0.synchronising (0 ∷ 0 ∷ 0 ∷ []) (0x55 ∷ 0x0a ∷ 0x50 ∷ []) sync_written

sync_checked : CheckPacked 0 (0x55 ∷ 0x0a ∷ 0x50 ∷ []) (Ok 0)
unfolding check_packed remainder binary bits_of
sync_checked = record { answers = refl }

sync_divides : Remainder (polynomial (take 20 (bits_of (0x55 ∷ 0x0a ∷ 0x50 ∷ [])))) 0
sync_divides = at_0.checking (0x55 ∷ 0x0a ∷ 0x50 ∷ []) 0 sync_checked

-- ---- k 248: 31 data bytes

at_248 : EveryLength 248
at_248 = every_length 248 refl

sample : List ℕ
sample = replicate 31 0x41

sample_lt : (n i : ℕ) → get_or (replicate n 0x41) i 0 < 256
sample_lt zero i = lit< tt
sample_lt (suc n) zero = lit< tt
sample_lt (suc n) (suc i) = sample_lt n i

built : BuildPacked 248 5 sample (replicate 34 0) (Ok tt) (built_bytes 248 5 sample (replicate 34 0) (done tt))
unfolding sample build_packed
built = record { answers = refl; writes = refl }

-- the same by k is refused
unknown : build_block 248 5 sample (replicate 34 0) ≡ refused A.block
unfolding build_block is_length
unknown = refl

read : ReadPacked 248 (built_bytes 248 5 sample (replicate 34 0) (done tt)) (replicate 31 0) (Ok (R.Passed 5)) sample
unfolding sample
read = record {
  answers = sym (read_built 248 5 sample (replicate 34 0) (replicate 31 0) refl (lit≤ tt) (lit≤ tt) (lit≤ tt) (lit≤ tt));
  writes = sym (bytes_built 248 5 sample (replicate 34 0) (replicate 31 0) refl (lit≤ tt) (lit≤ tt) (lit≤ tt) (lit≤ tt) (sample_lt 31));
}

read_back : (◌≡◌ {A = Result Read Refusal} (Ok (R.Passed 5)) (Ok (R.Passed 5))) × (sample ≡ take 31 sample ++ drop 31 (replicate 31 0))
unfolding sample
read_back = at_248.unpacking 5 sample (replicate 34 0) _ (replicate 31 0) sample (Ok (R.Passed 5)) (sample_lt 31) built read (lit≤ tt)

-- the shortest synchronising block that fails
sync_8 : SyncPacked 8 (0 ∷ 0 ∷ 0 ∷ 0 ∷ []) (Ok tt) (0x5a ∷ 0xa5 ∷ 0x0a ∷ 0x50 ∷ [])
unfolding held_packed sync_block number bytes_of
sync_8 = record { answers = refl; writes = refl }

sync_8_checked : CheckPacked 8 (0x5a ∷ 0xa5 ∷ 0x0a ∷ 0x50 ∷ []) (Ok 0xbbf0)
unfolding check_packed remainder binary bits_of
sync_8_checked = record { answers = refl }

sync_8_fails : ◌≡◌ {A = ℕ} 0xbbf0 0 → ⊥
sync_8_fails =
    (every_length 8 refl).synchronising_fails (0 ∷ 0 ∷ 0 ∷ 0 ∷ []) (0x5a ∷ 0xa5 ∷ 0x0a ∷ 0x50 ∷ []) 0xbbf0 (lit≤ tt) (lit≤ tt) sync_8
    sync_8_checked
