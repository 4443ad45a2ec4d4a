-- The block calls: what each answers and writes, and its promise. Assumes nothing.
use Rattle.std.specs.Prelude.{Result, Ok, Err, ◌≡◌, Bool, not, ◌||◌, List, ◌++◌, ℕ, ◌+◌, ◌*◌, ltb, length, take, drop}
use Rattle.crc.specs.Bits.{Bits, binary, bits_of, bytes_of}
use Rattle.crc.specs.Check.{remainder}
use Rattle.block.specs.Answer as A
use Rattle.block.specs.Answer.{Answer, refused, done, refuse_if}
use Rattle.block.specs.Lengths.{is_length, block_length, payload_bytes, block_bytes}
use Rattle.block.specs.Block.{block_bits, payload_of, Verdict, passed, failed, verdict, sync_block, cancelled}
use Rattle.block.specs.declared.Refusal.{Refusal}
use Rattle.block.specs.declared.Refusal.TheVariants as N
use Rattle.block.specs.declared.Read.{Read}
use Rattle.block.specs.declared.Read.TheVariants as R

-- ---- the answers: a refusal's number, or the values, for each case

abbrev pub refusal_number : Refusal → ℕ
refusal_number N.Block = A.block
refusal_number N.Short = A.short
refusal_number N.Spoiled = A.spoiled

abbrev pub built_answer : Result (Unit {0}) Refusal → Answer (Unit {0})
built_answer (Ok u) = done tt
built_answer (Err r) = refused (refusal_number r)

abbrev pub checked_answer : Result ℕ Refusal → Answer ℕ
checked_answer (Ok r) = done r
checked_answer (Err r) = refused (refusal_number r)

abbrev pub verdict_of : Read → Verdict
verdict_of (R.Passed s) = passed s
verdict_of (R.Failed r) = failed r

abbrev pub read_answer : Result Read Refusal → Answer Verdict
read_answer (Ok v) = done (verdict_of v)
read_answer (Err r) = refused (refusal_number r)

-- the remainder that a reader's answer carries, 0 where it carries none
abbrev pub carried_remainder : Answer Verdict → ℕ
carried_remainder (refused n) = 0
carried_remainder (done (passed s)) = 0
carried_remainder (done (failed r)) = r

-- a slice of bytes holds fewer bits than these
abbrev pub too_short : List ℕ → ℕ → Bool
too_short s bits = ltb (8 * length s) bits

-- the bytes of a packed row over the first bytes of a slice, the others as they were
abbrev pub overwritten : ℕ → Bits → List ℕ → List ℕ
overwritten m row s = bytes_of m row ++ drop m s

-- ---- building one block: 1, 7, 6

unfoldable pub build_block : ℕ → ℕ → List ℕ → List ℕ → Answer (Unit {0})
build_block k service payload slice =
    refuse_if (not (is_length k)) A.block
    (refuse_if (ltb 15 service) A.spoiled
    (refuse_if (too_short payload k || too_short slice (block_length k)) A.short (done tt)))

abbrev pub built_bytes : ℕ → ℕ → List ℕ → List ℕ → Answer (Unit {0}) → List ℕ
built_bytes k service payload slice (refused n) = slice
built_bytes k service payload slice (done u) =
    overwritten (block_bytes k) (block_bits (binary 4 service) (take k (bits_of payload))) slice

pub record BuildBlock (k service : ℕ) (payload slice : List ℕ) (answer : Result (Unit {0}) Refusal) (slice' : List ℕ) : Type 0 where
  pub answers : built_answer answer ≡ build_block k service payload slice
  pub writes : slice' ≡ built_bytes k service payload slice (build_block k service payload slice)

-- ---- checking one: 1, 6; the remainder of all n bits is handed over, and nothing is written

unfoldable pub check_block : ℕ → List ℕ → Answer ℕ
check_block k slice =
    refuse_if (not (is_length k)) A.block
    (refuse_if (too_short slice (block_length k)) A.short (done (remainder (take (block_length k) (bits_of slice)))))

pub record CheckBlock (k : ℕ) (slice : List ℕ) (answer : Result ℕ Refusal) : Type 0 where
  pub answers : checked_answer answer ≡ check_block k slice

-- ---- reading one without its data: 1, 6; nothing is written

unfoldable pub read_service : ℕ → List ℕ → Answer Verdict
read_service k slice =
    refuse_if (not (is_length k)) A.block
    (refuse_if (too_short slice (block_length k)) A.short (done (verdict (take (block_length k) (bits_of slice)))))

pub record ReadService (k : ℕ) (slice : List ℕ) (answer : Result Read Refusal) : Type 0 where
  pub answers : read_answer answer ≡ read_service k slice

-- ---- moving the first m data bytes of a packed block, whatever its check: 6

unfoldable pub move_data : ℕ → List ℕ → List ℕ → Answer (Unit {0})
move_data m slice payload = refuse_if (too_short slice (8 * m + 4) || too_short payload (8 * m)) A.short (done tt)

abbrev pub moved_bytes : ℕ → List ℕ → List ℕ → Answer (Unit {0}) → List ℕ
moved_bytes m slice payload (refused n) = payload
moved_bytes m slice payload (done u) = overwritten m (payload_of (8 * m) (bits_of slice)) payload

pub record MoveData (m : ℕ) (slice payload : List ℕ) (answer : Result (Unit {0}) Refusal) (payload' : List ℕ) : Type 0 where
  pub answers : built_answer answer ≡ move_data m slice payload
  pub writes : payload' ≡ moved_bytes m slice payload (move_data m slice payload)

-- ---- reading one: 1, 6, both slices judged first

unfoldable pub read_block : ℕ → List ℕ → List ℕ → Answer Verdict
read_block k slice payload =
    refuse_if (not (is_length k)) A.block
    (refuse_if (too_short slice (block_length k) || too_short payload k) A.short
    (done (verdict (take (block_length k) (bits_of slice)))))

abbrev pub read_bytes : ℕ → List ℕ → List ℕ → Answer Verdict → List ℕ
read_bytes k slice payload (refused n) = payload
read_bytes k slice payload (done (failed r)) = payload
read_bytes k slice payload (done (passed s)) =
    overwritten (payload_bytes k) (payload_of k (bits_of slice)) payload

pub record ReadBlock (k : ℕ) (slice payload : List ℕ) (answer : Result Read Refusal) (payload' : List ℕ) : Type 0 where
  pub answers : read_answer answer ≡ read_block k slice payload
  pub writes : payload' ≡ read_bytes k slice payload (read_block k slice payload)

-- ---- the synchronising block: 1, 6

unfoldable pub build_sync : ℕ → List ℕ → Answer (Unit {0})
build_sync k slice =
    refuse_if (not (is_length k)) A.block (refuse_if (too_short slice (block_length k)) A.short (done tt))

abbrev pub sync_bytes : ℕ → List ℕ → Answer (Unit {0}) → List ℕ
sync_bytes k slice (refused n) = slice
sync_bytes k slice (done u) = overwritten (block_bytes k) (sync_block k) slice

pub record BuildSync (k : ℕ) (slice : List ℕ) (answer : Result (Unit {0}) Refusal) (slice' : List ℕ) : Type 0 where
  pub answers : built_answer answer ≡ build_sync k slice
  pub writes : slice' ≡ sync_bytes k slice (build_sync k slice)

-- ---- cancelling a packed block: 1, 6; its last bit is inverted, the spare bits stay

unfoldable pub cancel_block : ℕ → List ℕ → Answer (Unit {0})
cancel_block k slice =
    refuse_if (not (is_length k)) A.block (refuse_if (too_short slice (block_length k)) A.short (done tt))

abbrev pub cancel_bytes : ℕ → List ℕ → Answer (Unit {0}) → List ℕ
cancel_bytes k slice (refused n) = slice
cancel_bytes k slice (done u) =
    bytes_of (length slice) (cancelled (take (block_length k) (bits_of slice)) ++ drop (block_length k) (bits_of slice))

pub record CancelBlock (k : ℕ) (slice : List ℕ) (answer : Result (Unit {0}) Refusal) (slice' : List ℕ) : Type 0 where
  pub answers : built_answer answer ≡ cancel_block k slice
  pub writes : slice' ≡ cancel_bytes k slice (cancel_block k slice)
