-- The first word's step is a bijection of the numbers below 2^32: here is its inverse, and both ways round were computed on the
-- powers of two. Assumes nothing.
use Rattle.std.proofs.Common.{◌≡◌, ℕ, ◌*◌, ◌/◌, ◌%◌, ◌^◌, ◌<◌, ◌≤◌, T, eqb, List, [], ◌∷◌, sym, refl, ap, ◌∙◌, arith, lit<}
use lib.Bits.{bit_xor, xor_lt}
use lib.Pow.{shr_le}
use Rattle.crc.proofs.Basis.{Term, reg, ◌>>◌, shl, ◌⊕◌, ◌into◌, eval, eval_xor, same_on, by_basis}
use Rattle.block.specs.Answer.{Answer}
use Rattle.block.specs.Lengths.{block_length}
use Rattle.block.proofs.Truth.{cond_case}
use Rattle.noise.specs.Generator.{xor_left, xor_right, next_first, next, drawn}
use Rattle.noise.specs.Load.{Load, span_load, load, load_block, generator_after}
use Rattle.noise.specs.Facts.{FirstWord, Call, after_calls, OnlyAtTheStart}
use Rattle.noise.specs.declared.Generator.{Generator}
use Rattle.noise.proofs.Loads.{load_cases, not_13}

-- x xor (x shifted), as a term
abbrev left : ℕ → Term
left n = reg ⊕ shl 32 reg n

abbrev right : ℕ → Term
right n = reg ⊕ reg >> n

abbrev step : Term
step = left 13 into right 17 into left 5

-- the three changes undone: what was shifted out of 32 bits is not there to be undone
abbrev back : Term
back =
    (reg ⊕ shl 32 reg 5 ⊕ shl 32 reg 10 ⊕ shl 32 reg 15 ⊕ shl 32 reg 20 ⊕ shl 32 reg 25 ⊕ shl 32 reg 30) into right 17
    into (reg ⊕ shl 32 reg 13 ⊕ shl 32 reg 26)

-- a term at one number
abbrev value : Term → ℕ → ℕ
value e x = eval e x 0

-- one after the other leaves every number of 32 bits
undone : (e : Term) → T (same_on (value e) (λ x. x) 32) → (x : ℕ) → x < 2 ^ 32 → value e x ≡ x
undone e t x h = by_basis (value e) (λ x. x) 32 (λ a b i j. eval_xor e a b 0 0) (λ a b i j. refl) t x h

step_undone : (x : ℕ) → x < 2 ^ 32 → value back (next_first x) ≡ x
unfolding next_first xor_left xor_right
step_undone = undone (step into back) tt

back_undone : (y : ℕ) → y < 2 ^ 32 → next_first (value back y) ≡ y
unfolding next_first xor_left xor_right
back_undone = undone (back into step) tt

-- ---- below 2^32

left_lt : (n x y : ℕ) → x < 2 ^ 32 → bit_xor x (y * 2 ^ n % 2 ^ 32) < 2 ^ 32
left_lt n x y h = xor_lt 32 x (y * 2 ^ n % 2 ^ 32) h (omega arith)

right_lt : (n x : ℕ) → x < 2 ^ 32 → bit_xor x (x / 2 ^ n) < 2 ^ 32
right_lt n x h = let s : x / 2 ^ n ≤ x = shr_le x n in xor_lt 32 x (x / 2 ^ n) h (omega arith)

step_lt : (x : ℕ) → x < 2 ^ 32 → next_first x < 2 ^ 32
unfolding next_first xor_left xor_right
step_lt x h = left_lt 5 _ _ (right_lt 17 _ (left_lt 13 x x h))

back_lt : (y : ℕ) → y < 2 ^ 32 → value back y < 2 ^ 32
back_lt y h =
    left_lt 26 _ _ (left_lt 13 _ _ (right_lt 17 _
    (left_lt 30 _ y (left_lt 25 _ y (left_lt 20 _ y (left_lt 15 _ y (left_lt 10 _ y (left_lt 5 y y h))))))))

-- ---- a bijection, and what follows

one_to_one : (x y : ℕ) → x < 2 ^ 32 → y < 2 ^ 32 → next_first x ≡ next_first y → x ≡ y
one_to_one x y h k e = sym (step_undone x h) ∙ ap (value back) e ∙ step_undone y k

pub first_word : FirstWord
unfolding next_first xor_left xor_right
first_word =
    record {
      below = step_lt;
      one_to_one = one_to_one;
      onto = λ y h. (value back y, back_lt y h, back_undone y h);
      never_0 = λ x h n z. n (one_to_one x 0 h (lit< tt) z);
    }

-- ---- the generator's first word, from one that is not 0 on

pub record Good (g : Generator) : Type 0 where
  pub fits : g.first < 2 ^ 32
  pub not_0 : g.first ≡ 0 → ⊥

next_good : (g : Generator) → Good g → Good (next g)
unfolding next
next_good g a = record { fits = first_word.below g.first a.fits; not_0 = first_word.never_0 g.first a.fits a.not_0 }

load_good : (n : ℕ) (g : Generator) → Good g → Good (load n g).generator
unfolding load span_load
load_good n g a =
    cond_case (λ (l : Load). Good l.generator) (eqb (drawn g % 4) 2)
    (λ e. next_good (next g) (next_good g a)) (λ e. next_good g a)

after_good_lem : (k : ℕ) (g : Generator) (slice : List ℕ) → Good g → Good (generator_after g (load_block k g slice))
after_good_lem k g slice a = load_cases k g slice (λ (r : Answer Load). Good (generator_after g r)) (λ n e. a) (λ t. load_good (block_length k) g a)

calls_good : (g : Generator) (calls : List Call) → Good g → Good (after_calls g calls)
calls_good g [] a = a
calls_good g (c ∷ calls) a = calls_good (generator_after g (load_block c.k g c.slice)) calls (after_good_lem c.k g c.slice a)

pub only_at_the_start : OnlyAtTheStart
unfolding OnlyAtTheStart
only_at_the_start g f n calls k slice e = not_13 k (after_calls g calls) slice (calls_good g calls (record { fits = f; not_0 = n })).not_0 e
