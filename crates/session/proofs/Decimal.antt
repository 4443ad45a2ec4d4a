-- Laws of decimal digits: one digit, one digit behind others, and how many there are. Assumes nothing.
use mathlib.Core.Path.{◌≡◌, refl, ap, ◌∙◌}
use mathlib.Core.Bool.{Bool, true, false}
use mathlib.Core.List.{List, [], ◌∷◌, ◌++◌}
use mathlib.Core.Logic.{⊎_elim}
use Prim.Native.Nat.{ℕ, zero, suc, ◌+◌, ◌*◌, ◌/◌, ◌%◌, ◌^◌, ◌≤◌, ◌<◌}
use native.Mathlib.Nat.{pow-suc}
use native.Mathlib.Omega.{arith}
use lib.ListN.{length, length-append}
use borrow.Author.Tests.{lt-ltb, le-ltb}
use Rattle.std.proofs.lemmas.Bool.{cases_lt}
use Rattle.session.specs.Text.{decimal_to, decimal, bit_text}

-- enough places are enough
decimal-places : (f g n : ℕ) → n < f → n < g → decimal_to f n ≡ decimal_to g n
decimal-places zero g n hf hg = absurd (omega arith)
decimal-places (suc f) zero n hf hg = absurd (omega arith)
decimal-places (suc f) (suc g) n hf hg =
    ⊎_elim (λ h. rw (lt-ltb n 10 h))
    (λ h. rw (le-ltb n 10 h) (ap (λ (l : List ℕ). l ++ ((48 + n % 10) ∷ [])) (decimal-places f g (n / 10) (omega arith) (omega arith))))
    (cases_lt n 10)

pub decimal_one : (n : ℕ) → n < 10 → decimal n ≡ (48 + n) ∷ []
unfolding decimal
decimal_one n h = rw (lt-ltb n 10 h)

pub decimal_more : (n : ℕ) → 10 ≤ n → decimal n ≡ decimal (n / 10) ++ ((48 + n % 10) ∷ [])
unfolding decimal
decimal_more n h =
    rw (le-ltb n 10 h)
    (ap (λ (l : List ℕ). l ++ ((48 + n % 10) ∷ [])) (decimal-places n (suc (n / 10)) (n / 10) (omega arith) (omega arith)))

pub longer_decimal : (n : ℕ) → 10 ≤ n → length (decimal n) ≡ length (decimal (n / 10)) + 1
longer_decimal n h = ap length (decimal_more n h) ∙ length-append (decimal (n / 10)) ((48 + n % 10) ∷ [])

pub length-decimal : (p n : ℕ) → n < 10 ^ suc p → length (decimal n) ≤ suc p
length-decimal zero n h = rw (decimal_one n h) (omega arith)
length-decimal (suc p) n h =
    ⊎_elim (λ s. rw (decimal_one n s) (omega arith))
    (λ m.
    let e : 10 ^ suc (suc p) ≡ 10 ^ suc p * 10 = pow-suc 10 (suc p) in
    let l : length (decimal (n / 10)) ≤ suc p = length-decimal p (n / 10) (omega arith) in
    rw (decimal_more n m, length-append) (omega arith))
    (cases_lt n 10)

-- a truth value is shown in one
pub length-bit : (b : Bool) → length (bit_text b) ≡ 1
length-bit false = refl
length-bit true = refl
