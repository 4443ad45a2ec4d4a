-- The calls below the look-up, on a packed block of k data bits: k is any multiple of 8, the number of data bytes times 8. No
-- block length is tested, so none of them refuses by 1; the rest is what Calls says of a k that is known. Assumes nothing.
use Rattle.std.specs.Prelude.{Result, Ok, Err, ◌≡◌, not, ◌||◌, List, ℕ, ltb, take}
use Rattle.crc.specs.Bits.{bits_of}
use Rattle.crc.specs.Check.{remainder}
use Rattle.block.specs.Answer as A
use Rattle.block.specs.Answer.{Answer, refused, done, refuse_if}
use Rattle.block.specs.Lengths.{is_length, block_length, payload_bytes}
use Rattle.block.specs.Block.{Verdict, verdict}
use Rattle.block.specs.Calls.{refusal_number, built_answer, checked_answer, read_answer, too_short, built_bytes, read_bytes, sync_bytes, cancel_bytes}
use Rattle.block.specs.declared.Refusal.{Refusal}
use Rattle.block.specs.declared.Read.{Read}

-- ---- the look-up: 1, or the number of data bytes

abbrev pub length_answer : Result ℕ Refusal → Answer ℕ
length_answer (Ok m) = done m
length_answer (Err r) = refused (refusal_number r)

-- refused by 1 unless k is one of the four, and otherwise what follows
abbrev pub if_length : {A : Type 0} → ℕ → Answer A → Answer A
if_length k next = refuse_if (not (is_length k)) A.block next

unfoldable pub look_up : ℕ → Answer ℕ
look_up k = if_length k (done (payload_bytes k))

pub record LookUp (k : ℕ) (answer : Result ℕ Refusal) : Type 0 where
  pub answers : length_answer answer ≡ look_up k

-- refused by 6 unless a slice holds a block of k data bits
abbrev pub if_held : {A : Type 0} → ℕ → List ℕ → A → Answer A
if_held k slice x = refuse_if (too_short slice (block_length k)) A.short (done x)

-- ---- building one: 7, 6

unfoldable pub build_packed : ℕ → ℕ → List ℕ → List ℕ → Answer (Unit {0})
build_packed k service payload slice =
    refuse_if (ltb 15 service) A.spoiled
    (refuse_if (too_short payload k || too_short slice (block_length k)) A.short (done tt))

pub record BuildPacked (k service : ℕ) (payload slice : List ℕ) (answer : Result (Unit {0}) Refusal) (slice' : List ℕ) : Type 0 where
  pub answers : built_answer answer ≡ build_packed k service payload slice
  pub writes : slice' ≡ built_bytes k service payload slice (build_packed k service payload slice)

-- ---- checking one, and reading one without its data: 6; nothing is written

unfoldable pub check_packed : ℕ → List ℕ → Answer ℕ
check_packed k slice = if_held k slice (remainder (take (block_length k) (bits_of slice)))

pub record CheckPacked (k : ℕ) (slice : List ℕ) (answer : Result ℕ Refusal) : Type 0 where
  pub answers : checked_answer answer ≡ check_packed k slice

unfoldable pub service_packed : ℕ → List ℕ → Answer Verdict
service_packed k slice = if_held k slice (verdict (take (block_length k) (bits_of slice)))

pub record ServicePacked (k : ℕ) (slice : List ℕ) (answer : Result Read Refusal) : Type 0 where
  pub answers : read_answer answer ≡ service_packed k slice

-- ---- reading one: 6, both slices judged first

unfoldable pub read_packed : ℕ → List ℕ → List ℕ → Answer Verdict
read_packed k slice payload =
    refuse_if (too_short slice (block_length k) || too_short payload k) A.short
    (done (verdict (take (block_length k) (bits_of slice))))

pub record ReadPacked (k : ℕ) (slice payload : List ℕ) (answer : Result Read Refusal) (payload' : List ℕ) : Type 0 where
  pub answers : read_answer answer ≡ read_packed k slice payload
  pub writes : payload' ≡ read_bytes k slice payload (read_packed k slice payload)

-- ---- the synchronising block, and cancelling one: 6

unfoldable pub held_packed : ℕ → List ℕ → Answer (Unit {0})
held_packed k slice = if_held k slice tt

pub record SyncPacked (k : ℕ) (slice : List ℕ) (answer : Result (Unit {0}) Refusal) (slice' : List ℕ) : Type 0 where
  pub answers : built_answer answer ≡ held_packed k slice
  pub writes : slice' ≡ sync_bytes k slice (held_packed k slice)

pub record CancelPacked (k : ℕ) (slice : List ℕ) (answer : Result (Unit {0}) Refusal) (slice' : List ℕ) : Type 0 where
  pub answers : built_answer answer ≡ held_packed k slice
  pub writes : slice' ≡ cancel_bytes k slice (held_packed k slice)
