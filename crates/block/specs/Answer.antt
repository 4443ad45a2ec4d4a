-- What a call answers: a refusal's number, or the values of a call that is not refused. Assumes nothing.
use Rattle.std.specs.Prelude.{Bool, cond, ℕ}

pub data Answer (A : Type 0) : Type 0 where
  refused : ℕ → Answer A
  done : A → Answer A

-- refused with this number if the test holds, and otherwise what follows
abbrev pub refuse_if : {A : Type 0} → Bool → ℕ → Answer A → Answer A
refuse_if test n next = cond test (refused n) next

-- The numbers that the block's calls refuse by: docs/PROTOCOL.md, "What the ends turn away", by its words. A crate above
-- has its own.
abbrev pub block : ℕ
block = 1

abbrev pub short : ℕ
short = 6

abbrev pub spoiled : ℕ
spoiled = 7
