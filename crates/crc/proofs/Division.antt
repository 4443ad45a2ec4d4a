-- What the register holds is the remainder, the only one, and 0 exactly where the generator divides. Assumes nothing.
use mathlib.Core.Path.{◌≡◌, refl, sym, ap, ap₂, ◌∙◌, subst}
use mathlib.Core.Logic.{◌⊎◌, inl, inr, ⊎_elim, ◌↔◌}
use mathlib.Core.Bool.{Bool, true, false}
use mathlib.Core.List.{[], ◌∷◌}
use Prim.Native.Nat.{ℕ, zero, suc, ◌+◌, ◌*◌, ◌/◌, ◌^◌, ◌≤◌, ◌<◌}
use native.Mathlib.Nat.{add-zero}
use native.Mathlib.Omega.{arith}
use lib.Bits.{bit_xor, xor_shr, xor_zero_r, xor_self, xor_lt}
use lib.Dec.{T, eqb, eqb→eq, lit<, lit≤}
use Rattle.crc.specs.Bits.{Bits, bit, number, number_from, xor}
use Rattle.crc.specs.Polynomial.{polynomial, times, generator, Divides, Remainder}
use Rattle.crc.specs.Check.{reduce, divide, remainder, passes}
use Rattle.crc.proofs.Xor.{xor_swap, xor_assoc, xor_cancel, xor_shl}
use Rattle.crc.proofs.Linear.{behind_xor, behind_lt, divide_bit-lt, remainder-lt}

-- ---- what the generator divides is closed under sums and under x

-- the sum of two quotients; the longer one's end stays
abbrev add_terms : Bits → Bits → Bits
add_terms [] m = m
add_terms (a ∷ l) [] = a ∷ l
add_terms (a ∷ l) (b ∷ m) = xor a b ∷ add_terms l m

scale_bit : (a b : Bool) → bit (xor a b) * generator ≡ bit_xor (bit a * generator) (bit b * generator)
scale_bit false b = refl
scale_bit true false = refl
scale_bit true true = refl

times-add : (l m : Bits) → times (add_terms l m) generator ≡ bit_xor (times l generator) (times m generator)
times-add [] m = refl
times-add (a ∷ l) [] = sym (xor_zero_r (times (a ∷ l) generator))
times-add (a ∷ l) (b ∷ m) =
    ap₂ (λ (x y : ℕ). bit_xor x (y * 2)) (scale_bit a b) (times-add l m)
    ∙ ap (λ (x : ℕ). bit_xor (bit_xor (bit a * generator) (bit b * generator)) x) (sym (xor_shl (times l generator) (times m generator) 1))
    ∙ xor_swap (bit a * generator) (bit b * generator) (times l generator * 2) (times m generator * 2)

pub divides_xor : {a b : ℕ} → Divides a → Divides b → Divides (bit_xor a b)
divides_xor p q = (add_terms p.0 q.0, times-add p.0 q.0 ∙ ap₂ bit_xor p.1 q.1)

pub divides_twice : {a : ℕ} → Divides a → Divides (a * 2)
divides_twice p = (false ∷ p.0, ap (λ (x : ℕ). x * 2) p.1)

divides_term : (t : ℕ) → t < 2 → Divides (t * generator)
divides_term zero h = ([], refl)
divides_term (suc zero) h = (true ∷ [], refl)
divides_term (suc (suc t)) h = absurd (omega arith)

-- ---- the register and the polynomial differ by what the generator divides

differ_behind : (u n : ℕ) (l : Bits) → Divides u → Divides (bit_xor (number_from (bit_xor u n) l) (number_from n l))
differ_behind u n [] d = subst Divides (sym (xor_assoc u n n ∙ ap (bit_xor u) (xor_self n) ∙ xor_zero_r u)) d
differ_behind u n (b ∷ l) d =
    subst (λ (x : ℕ). Divides (bit_xor (number_from x l) (number_from (n * 2 + bit b) l)))
    (ap (λ (x : ℕ). bit_xor x (n * 2 + bit b)) (sym (add-zero (u * 2))) ∙ behind_xor u n false b)
    (differ_behind (u * 2) (n * 2 + bit b) l (divides_twice d))

same_rest : (x y z : ℕ) → bit_xor (bit_xor x y) (bit_xor x z) ≡ bit_xor y z
same_rest x y z = xor_swap x y x z ∙ ap (λ (w : ℕ). bit_xor w (bit_xor y z)) (xor_self x)

divide_differs : (c : ℕ) (l : Bits) → c < 2 ^ 16 → Divides (bit_xor (number_from c l) (divide c l))
divide_differs c [] h = ([], sym (xor_self c))
divide_differs c (b ∷ l) h =
    let n : ℕ = c * 2 + bit b in
    subst Divides (same_rest (number_from (reduce n) l) (number_from n l) (divide (reduce n) l))
    (divides_xor (differ_behind (n / 2 ^ 16 * generator) n l (divides_term (n / 2 ^ 16) (omega (arith, behind_lt b h))))
    (divide_differs (reduce n) l (divide_bit-lt b h)))

-- ---- of the numbers below x^16 the generator divides 0 alone

over : (x y : ℕ) → x / 2 ^ 17 ≡ y / 2 ^ 17 → 2 ^ 17 ≤ y → 2 ^ 16 ≤ x
over x y e h = omega arith

times_large : (q : Bits) → (times q generator ≡ 0) ⊎ (2 ^ 16 ≤ times q generator)
times_large [] = inl refl
times_large (b ∷ q) = ⊎_elim (none b (times q generator)) (λ h. inr (some b (times q generator) h)) (times_large q)
  where
    none : (b : Bool) (m : ℕ) → m ≡ 0 → (bit_xor (bit b * generator) (m * 2) ≡ 0) ⊎ (2 ^ 16 ≤ bit_xor (bit b * generator) (m * 2))
    none false m e = inl (ap (λ (x : ℕ). x * 2) e)
    none true m e = inr (subst (λ (x : ℕ). 2 ^ 16 ≤ bit_xor generator (x * 2)) (sym e) (lit≤ tt))

    some : (b : Bool) (m : ℕ) → 2 ^ 16 ≤ m → 2 ^ 16 ≤ bit_xor (bit b * generator) (m * 2)
    some false m h = omega arith
    some true m h = over (bit_xor generator (m * 2)) (m * 2) (xor_shr generator (m * 2) 17) (omega arith)

divides_small : {r : ℕ} → r < 2 ^ 16 → Divides r → r ≡ 0
divides_small {r} h d =
    sym d.1
    ∙ ⊎_elim (λ e. e) (λ (k : 2 ^ 16 ≤ times d.0 generator). let e : times d.0 generator ≡ r = d.1 in absurd (omega arith)) (times_large d.0)

-- ---- the theorems

pub remainder_is : (l : Bits) → Remainder (polynomial l) (remainder l)
unfolding number remainder
remainder_is l = record { small = remainder-lt l; divides = divide_differs 0 l (lit< tt) }

pub remainder_unique : {p r s : ℕ} → Remainder p r → Remainder p s → r ≡ s
remainder_unique {p} {r} {s} a b =
    let z : bit_xor r s ≡ 0 = divides_small (xor_lt 16 r s a.small b.small) (subst Divides (same_rest p r s) (divides_xor a.divides b.divides)) in
    sym (xor_zero_r r) ∙ ap (bit_xor r) (sym z) ∙ xor_cancel r s

pub divides_remainder : (l : Bits) → (remainder l ≡ 0) ↔ Divides (polynomial l)
divides_remainder l = (
  λ e. subst Divides (ap (bit_xor (polynomial l)) e ∙ xor_zero_r (polynomial l)) (remainder_is l).divides,
  λ d. divides_small (remainder-lt l) (subst Divides (xor_cancel (polynomial l) (remainder l)) (divides_xor d (remainder_is l).divides)),
)

pub passes-remainder : (l : Bits) → (passes l ≡ true) ↔ (remainder l ≡ 0)
unfolding passes
passes-remainder l =
    (λ e. eqb→eq (remainder l) 0 (subst T (sym e) tt), λ z. ap (λ (x : ℕ). eqb x 0) z)

pub passes_divides : (l : Bits) → (passes l ≡ true) ↔ Divides (polynomial l)
passes_divides l =
    (λ e. (divides_remainder l).0 ((passes-remainder l).0 e), λ d. (passes-remainder l).1 ((divides_remainder l).1 d))
