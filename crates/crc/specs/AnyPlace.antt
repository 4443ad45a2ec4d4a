-- A row in a longer one that is zero elsewhere: whether it passes does not depend on the place, nor on the length. Assumes nothing.
use Rattle.std.specs.Prelude.{◌≡◌, ◌↔◌, ◌++◌, ℕ}
use Rattle.crc.specs.Bits.{Bits, zeros}
use Rattle.crc.specs.Check.{remainder, passes}

pub record AnyPlace : Type 0 where
  pub no_remainder : (i j : ℕ) (e : Bits) → (remainder (zeros i ++ (e ++ zeros j)) ≡ 0) ↔ (remainder e ≡ 0)
  pub same_verdict : (i j : ℕ) (e : Bits) → passes (zeros i ++ (e ++ zeros j)) ≡ passes e
