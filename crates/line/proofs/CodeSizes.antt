-- Laws of code sizes in range. Assumes nothing.
use mathlib.Core.Path.{◌≡◌}
use mathlib.Core.Bool.{true}
use Rattle.std.specs.Prelude.{Some}
use Prim.Native.Nat.{ℕ, ◌≤◌}
use borrow.Author.Tests.{leb-true}
use lib.Dec.{leb}
use Rattle.block.proofs.Truth.{and_right}
use Rattle.line.specs.Marks.{marks_of, is_code_size, marks_in_range}

-- a code size fits a byte
pub given_size : (size : ℕ) → marks_in_range (marks_of (Some size)) ≡ true → size ≤ 8
unfolding marks_in_range is_code_size
given_size size h = leb-true size 8 (and_right (leb 5 size) (leb size 8) h)
