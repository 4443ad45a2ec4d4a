-- A block that is read passes if and only if the generator divides the polynomial of all its n bits, and one that fails carries
-- that polynomial's remainder: on the promise of the call itself. Assumes nothing.
use Rattle.std.specs.Prelude.{Result, Ok, Err}
use Rattle.block.specs.declared.Refusal.{Refusal}
use mathlib.Core.Path.{◌≡◌, refl, sym, ◌∙◌, subst}
use mathlib.Core.Bool.{Bool, true, false, ◌||◌, cond}
use mathlib.Core.List.{List}
use mathlib.Core.Logic.{◌↔◌}
use Prim.Native.Nat.{ℕ}
use native.Mathlib.Omega.{arith}
use lib.ListN.{take}
use Rattle.crc.specs.Bits.{Bits, number, bits_of}
use Rattle.crc.specs.Polynomial.{polynomial, Divides, Remainder}
use Rattle.crc.specs.Check.{remainder, passes}
use Rattle.crc.proofs.Division.{remainder_is, passes-remainder, passes_divides}
use Rattle.block.specs.Answer as A
use Rattle.block.specs.Answer.{done}
use Rattle.block.specs.Lengths.{block_length}
use Rattle.block.specs.Block.{service_of, Verdict, passed, failed, verdict}
use Rattle.block.specs.Calls.{too_short, ReadBlock}
use Rattle.block.specs.Packed.{check_packed, CheckPacked, read_packed, ReadPacked}
use Rattle.block.specs.declared.Read.{Read}
use Rattle.block.specs.declared.Read.TheVariants as R
use Rattle.block.proofs.Refusals.{passed_test}
use Rattle.block.proofs.LookUp.{read_done_below}

both : (b : Bool) → b ≡ true → b ≡ false → ⊥
both b q r = let z : ◌≡◌ {A = ℕ} 0 1 = cc in omega arith

-- what the verdict says of the check
pub verdict_passed : (t : Bool) (n r s : ℕ) → cond t (passed n) (failed r) ≡ passed s → t ≡ true
verdict_passed true n r s h = refl
verdict_passed false n r s h = absurd (let z : ◌≡◌ {A = ℕ} 0 1 = cc in omega arith)

pub verdict_failed : (t : Bool) (n r s : ℕ) → cond t (passed n) (failed r) ≡ failed s → (t ≡ false) × (r ≡ s)
verdict_failed true n r s h = absurd (let z : ◌≡◌ {A = ℕ} 0 1 = cc in omega arith)
verdict_failed false n r s h = (refl, cc)

-- what the check hands over is the remainder of the row, and of its polynomial
pub row_checked : (k : ℕ) (slice : List ℕ) (r : ℕ) → CheckPacked k slice (Ok r) → r ≡ remainder (take (block_length k) (bits_of slice))
unfolding check_packed
row_checked k slice r p =
    let row : Bits = take (block_length k) (bits_of slice) in
    let t = passed_test (too_short slice (block_length k)) A.short (done (remainder row)) r (sym p.answers) in
    let q : done (remainder row) ≡ done r = t.1 in
    cc

pub checking : (k : ℕ) (slice : List ℕ) (r : ℕ) → CheckPacked k slice (Ok r)
    → Remainder (polynomial (take (block_length k) (bits_of slice))) r
checking k slice r p =
    let row : Bits = take (block_length k) (bits_of slice) in
    subst (Remainder (polynomial row)) (sym (row_checked k slice r p)) (remainder_is row)

module _ (k : ℕ) (slice payload payload' : List ℕ) where
  -- the n bits that are read
  abbrev row : Bits
  row = take (block_length k) (bits_of slice)

  verdict_row : (v : Verdict) → read_packed k slice payload ≡ done v → verdict row ≡ v
  unfolding read_packed
  verdict_row v e =
      let t = passed_test (too_short slice (block_length k) || too_short payload k) A.short (done (verdict row)) v e in
      let q : done (verdict row) ≡ done v = t.1 in
      cc

  -- what the reader says of the row
  pub row_passed : (s : ℕ) → ReadPacked k slice payload (Ok (R.Passed s)) payload' → passes row ≡ true
  unfolding verdict
  row_passed s p = verdict_passed (passes row) (number (service_of row)) (remainder row) s (verdict_row (passed s) (sym p.answers))

  row_failed : (r : ℕ) → ReadPacked k slice payload (Ok (R.Failed r)) payload' → (passes row ≡ false) × (remainder row ≡ r)
  unfolding verdict
  row_failed r p = verdict_failed (passes row) (number (service_of row)) (remainder row) r (verdict_row (failed r) (sym p.answers))

  -- what a block that fails carries is the remainder of that polynomial, and not 0
  pub failing : (r : ℕ) → ReadBlock k slice payload (Ok (R.Failed r)) payload'
      → Remainder (polynomial (take (block_length k) (bits_of slice))) r × (r ≡ 0 → ⊥)
  failing r p =
      let f = row_failed r (read_done_below k slice payload _ payload' (failed r) refl p) in (
        subst (Remainder (polynomial row)) f.1 (remainder_is row),
        λ z. both (passes row) ((passes-remainder row).1 (f.1 ∙ z)) f.0,
      )

  pub passing : (answer : Result Read Refusal) → ReadBlock k slice payload answer payload' → ((n : Refusal) → answer ≡ Err n → ⊥)
      → ((s : ℕ) × (answer ≡ Ok (R.Passed s))) ↔ Divides (polynomial (take (block_length k) (bits_of slice)))
  passing (Ok (R.Passed s)) p h =
      let e : passes row ≡ true = row_passed s (read_done_below k slice payload _ payload' (passed s) refl p) in
      (λ a. (passes_divides row).0 e, λ d. (s, refl))
  passing (Ok (R.Failed r)) p h =
      let e : passes row ≡ false = (row_failed r (read_done_below k slice payload _ payload' (failed r) refl p)).0 in (
        λ a. absurd (other a.0 a.1),
        λ d. absurd (both (passes row) ((passes_divides row).1 d) e),
      )
    where
      other : (s : ℕ) → ◌≡◌ {A = Result Read Refusal} (Ok (R.Failed r)) (Ok (R.Passed s)) → ⊥
      other s q = let z : ◌≡◌ {A = ℕ} 0 1 = cc in omega arith
  passing (Err n) p h = absurd (h n refl)
