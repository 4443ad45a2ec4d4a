-- Tests one after the other, each with the number that it refuses by: what holds of a refusal by each of these numbers, and of
-- what follows the tests, holds of the answer. Assumes nothing.
use mathlib.Core.Path.{◌≡◌}
use mathlib.Core.Bool.{Bool, true}
use mathlib.Core.List.{List, [], ◌∷◌}
use Prim.Native.Nat.{ℕ}
use Rattle.block.specs.Answer.{Answer, refused, refuse_if}
use Rattle.block.proofs.Truth.{and_left, and_right, cond_case}
use Rattle.block.proofs.Lengths.{each}

abbrev pub Tests : Type 0
Tests = List (Bool × ℕ)

-- a call's definition, its tests nested, is this by computation
abbrev pub refuse_all : {A : Type 0} → Tests → Answer A → Answer A
refuse_all [] next = next
refuse_all (t ∷ ts) next = refuse_if t.0 t.1 (refuse_all ts next)

abbrev pub test_numbers : Tests → List ℕ
test_numbers [] = []
test_numbers (t ∷ ts) = t.1 ∷ test_numbers ts

module _ {A : Type 0} (P : Answer A → Type 0) (test : ℕ → Bool) (by_test : (n : ℕ) → test n ≡ true → P (refused n)) where
  pub in_turn : (ts : Tests) → each test (test_numbers ts) ≡ true → (next : Answer A) → P next → P (refuse_all ts next)
  in_turn [] h next p = p
  in_turn (t ∷ ts) h next p =
      let n = t.1 in
      let rest = each test (test_numbers ts) in
      cond_case P t.0 (λ e. by_test n (and_left (test n) rest h)) (λ e. in_turn ts (and_right (test n) rest h) next p)
