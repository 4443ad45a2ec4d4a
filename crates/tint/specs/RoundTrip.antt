-- Writing and reading undo each other, so every order has one encoding. Assumes nothing.
use Rattle.std.specs.Prelude.{Result, Ok, ◌≡◌, List, IsOkAnd, ◌++◌, ℕ, ◌≤◌, length, take, drop}
use Rattle.block.specs.Answer.{done}
use Rattle.line.specs.WholeOrder.{Bytes}
use Rattle.tint.specs.Calls.{doses_of, Write, read, Read}
use Rattle.tint.specs.declared.Refusal.{Refusal}
use Rattle.tint.specs.declared.Dose.{Dose}
use Rattle.tint.specs.declared.Doses.{Doses}

-- not refused, and the same doses
abbrev pub ReadAs : Doses → Result Doses Refusal → Type 0
ReadAs d r = IsOkAnd r (λ e. doses_of e ≡ doses_of d)

pub record RoundTrip : Type 0 where
  -- reading what was written gives the same doses
  pub reads_written : (d : Doses) (slice slice' : List ℕ) (n : ℕ) (r : Result Doses Refusal) → Write d slice (Ok n) slice'
      → Read (take n slice') r → ReadAs d r
  -- writing what was read gives the same bytes, in any slice that has room for them
  pub writes_read : (order slice slice' : List ℕ) (d : Doses) (answer : Result ℕ Refusal) → Bytes order → Read order (Ok d)
      → length order ≤ length slice → Write d slice answer slice'
      → (answer ≡ Ok (length order)) × (slice' ≡ order ++ drop (length order) slice)
  -- orders that read as the same doses are the same bytes
  pub one_encoding : (a b : List ℕ) (ds : List Dose) → Bytes a → Bytes b → read a ≡ done ds → read b ≡ done ds → a ≡ b
