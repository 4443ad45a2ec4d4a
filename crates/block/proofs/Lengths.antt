-- Facts about k, for all the lengths of the table together: a computed test over the table, and the law that turns it into
-- a rule for every k. Assumes nothing.
use mathlib.Core.Path.{◌≡◌, refl}
use mathlib.Core.Bool.{Bool, true, false, ◌&&◌}
use mathlib.Core.List.{List, [], ◌∷◌}
use Prim.Native.Nat.{ℕ, ◌*◌, ◌/◌, ◌%◌, ◌≤◌}
use native.Mathlib.Omega.{arith}
use borrow.Author.Tests.{eqb-true, leb-true}
use lib.Dec.{eqb, leb}
use Rattle.block.specs.Lengths.{lengths, among, is_length}
use Rattle.block.proofs.Truth.{and_left, and_right}

-- a test that holds of each number of a list
abbrev pub each : (ℕ → Bool) → List ℕ → Bool
each test [] = true
each test (l ∷ ls) = test l && each test ls

one_of : (test : ℕ → Bool) (l : ℕ) (b : Bool) (k : ℕ) (hit : Bool) → eqb k l ≡ hit → test l && b ≡ true
    → (hit ≡ false → b ≡ true → test k ≡ true) → test k ≡ true
one_of test l b k true e t next = rw (eqb-true k l e) (and_left (test l) b t)
one_of test l b k false e t next = next refl (and_right (test l) b t)

pub among_each : (test : ℕ → Bool) (ls : List ℕ) → each test ls ≡ true → (k : ℕ) → among k ls ≡ true → test k ≡ true
among_each test [] t k h = absurd (let z : ◌≡◌ {A = ℕ} 0 1 = cc in omega arith)
among_each test (l ∷ ls) t k h =
    one_of test l (each test ls) k (eqb k l) refl t (λ e r. among_each test ls r k (rw e at h))

-- what holds of the lengths of the table holds of every k that is one of them
pub of_length : (test : ℕ → Bool) → each test lengths ≡ true → (k : ℕ) → is_length k ≡ true → test k ≡ true
unfolding is_length
of_length test t k h = among_each test lengths t k h

pub length_facts : (k : ℕ) → is_length k ≡ true → (k % 8 ≡ 0) × (240 ≤ k) × (k ≤ 3840)
length_facts k h = (
  eqb-true (k % 8) 0 (of_length (λ l. eqb (l % 8) 0) refl k h),
  leb-true 240 k (of_length (leb 240) refl k h),
  leb-true k 3840 (of_length (λ l. leb l 3840) refl k h),
)

-- the data fill whole bytes, and their number is even
pub whole_bytes : (k : ℕ) → k % 8 ≡ 0 → 8 * (k / 8) ≡ k
whole_bytes k h = omega arith

pub length_bytes : (k : ℕ) → is_length k ≡ true → 8 * (k / 8) ≡ k
length_bytes k h = whole_bytes k (length_facts k h).0

pub length_even : (k : ℕ) → is_length k ≡ true → k / 2 * 2 ≡ k
length_even k h = let f = length_facts k h in omega arith
