-- The tint order's calls for C and Rust, the doses in a slice of 16-bit numbers: what each returns and writes, and its promise.
-- Assumes nothing.
use Rattle.std.specs.Prelude.{◌≡◌, ◌||◌, List, [], ◌∷◌, ◌++◌, ℕ, ◌*◌, ◌≤◌, ltb, length, take, drop, flat_map}
use Rattle.block.specs.Answer as A
use Rattle.block.specs.Answer.{Answer, refused, done, refuse_if}
use Rattle.line.specs.WholeOrder.{Bytes}
use Rattle.tint.specs.Format.{order_bytes, judge_doses}
use Rattle.tint.specs.Calls.{judge_counted, written_slice, read}
use Rattle.tint.specs.declared.Dose.{Dose}
use Rattle.line_c.specs.BlockCalls.{refusal}

-- doses as numbers: canister and steps in turn
abbrev pub numbers_of : List Dose → List ℕ
numbers_of = flat_map (λ (d : Dose). d.canister ∷ d.steps ∷ [])

-- and back; a last number alone is no dose
abbrev pub doses_of_numbers : List ℕ → List Dose
doses_of_numbers (canister ∷ steps ∷ rest) = record { canister = canister; steps = steps } ∷ doses_of_numbers rest
doses_of_numbers (canister ∷ []) = []
doses_of_numbers [] = []

-- ---- writing `count` doses: 10, 11, 12, of the doses that the slice holds; then 6, for the doses' slice and for the order's

abbrev pub doses_held : List ℕ → ℕ → List Dose
doses_held numbers count = take count (doses_of_numbers numbers)

unfoldable pub write_tint : List ℕ → ℕ → List ℕ → Answer (List ℕ)
write_tint numbers count slice =
    judge_counted count (doses_held numbers count)
    (refuse_if (ltb (length numbers) (count * 2) || ltb (length slice) (length (order_bytes (doses_held numbers count)))) A.short
    (done (order_bytes (doses_held numbers count))))

-- what a slice too short for its count is refused by: what the doses are that it holds, and else by 6
abbrev pub judge_held : List ℕ → Answer (List ℕ)
judge_held numbers = judge_doses (doses_of_numbers numbers) (refused A.short)

-- the number of bytes written; refused, the number stays
abbrev pub written_bytes : ℕ → Answer (List ℕ) → ℕ
written_bytes bytes (refused n) = bytes
written_bytes bytes (done order) = length order

pub record WriteTintCall (numbers : List ℕ) (count : ℕ) (slice : List ℕ) (bytes result : ℕ) (slice' : List ℕ) (bytes' : ℕ) : Type 0 where
  pub answers : result ≡ refusal (write_tint numbers count slice)
  pub writes : slice' ≡ written_slice slice (write_tint numbers count slice)
  pub counts : bytes' ≡ written_bytes bytes (write_tint numbers count slice)

-- ---- reading: 10, 11, 12, then the slice for the doses: 6

abbrev pub judge_room : List ℕ → Answer (List Dose) → Answer (List Dose)
judge_room numbers (refused n) = refused n
judge_room numbers (done ds) = refuse_if (ltb (length numbers) (length (numbers_of ds))) A.short (done ds)

unfoldable pub read_tint : List ℕ → List ℕ → Answer (List Dose)
read_tint order numbers = judge_room numbers (read order)

abbrev pub read_numbers : List ℕ → Answer (List Dose) → List ℕ
read_numbers numbers (refused n) = numbers
read_numbers numbers (done ds) = numbers_of ds ++ drop (length (numbers_of ds)) numbers

-- the number of doses; refused, the number stays
abbrev pub read_count : ℕ → Answer (List Dose) → ℕ
read_count count (refused n) = count
read_count count (done ds) = length ds

pub record ReadTintCall (order numbers : List ℕ) (count result : ℕ) (numbers' : List ℕ) (count' : ℕ) : Type 0 where
  pub answers : result ≡ refusal (read_tint order numbers)
  pub writes : numbers' ≡ read_numbers numbers (read_tint order numbers)
  pub counts : count' ≡ read_count count (read_tint order numbers)

-- ---- each call undoes the other

pub record TintRoundTrip : Type 0 where
  -- reading what was written gives the same numbers, in any slice that has room for them
  pub reads_written : (numbers : List ℕ) (count : ℕ) (slice slice' : List ℕ) (bytes bytes' : ℕ) (room room' : List ℕ) (n n' result : ℕ)
      → WriteTintCall numbers count slice bytes 0 slice' bytes' → count * 2 ≤ length room
      → ReadTintCall (take bytes' slice') room n result room' n'
      → (result ≡ 0) × (n' ≡ count) × (room' ≡ take (count * 2) numbers ++ drop (count * 2) room)
  -- writing what was read gives the same bytes, in any slice that has room for them
  pub writes_read : (order room room' : List ℕ) (n n' : ℕ) (slice slice' : List ℕ) (bytes bytes' result : ℕ) → Bytes order
      → ReadTintCall order room n 0 room' n' → length order ≤ length slice → WriteTintCall room' n' slice bytes result slice' bytes'
      → (result ≡ 0) × (bytes' ≡ length order) × (slice' ≡ order ++ drop (length order) slice)
