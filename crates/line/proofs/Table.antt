-- Laws of tables: a computed test over all cells holds at each, and a number's place in a list. Assumes nothing.
use mathlib.Core.Path.{◌≡◌, refl, sym, ◌∙◌}
use mathlib.Core.Bool.{Bool, true, false, cond, not, ◌&&◌, ◌||◌}
use mathlib.Core.List.{List, [], ◌∷◌}
use Prim.Native.Nat.{ℕ, zero, suc, ◌+◌, ◌<◌}
use native.Mathlib.Nat.{le_of_suc-le-suc, not-suc-le-zero}
use native.Mathlib.Omega.{arith}
use borrow.Author.Tests.{eqb-true, eqb-false, eq-eqb, ne_eqb, lt-ltb, le-ltb, ltb-true, ltb-false}
use lib.Dec.{T, eqb, ltb}
use lib.ListN.{length, get_or}
use Rattle.std.specs.Prelude.{Option, Some, None}
use Rattle.std.specs.List.{list_any, position, position_or_len}
use Rattle.std.proofs.lemmas.List.Folds.{list_any_at}
use Rattle.std.proofs.lemmas.List.Quantifiers.{position-Some}
use Rattle.crc.proofs.Basis.{and_left, and_right}
use Rattle.block.specs.Lengths.{among}

-- ---- a test of each number below a bound

abbrev pub every : (ℕ → Bool) → ℕ → Bool
every f zero = true
every f (suc n) = f 0 && every (λ k. f (suc k)) n

pub at : (f : ℕ → Bool) (n : ℕ) → T (every f n) → (k : ℕ) → k < n → T (f k)
at f zero t k h = absurd (not-suc-le-zero h)
at f (suc n) t zero h = and_left (f 0) (every (λ k. f (suc k)) n) t
at f (suc n) t (suc k) h =
    at (λ k. f (suc k)) n (and_right (f 0) (every (λ k. f (suc k)) n) t) k (le_of_suc-le-suc h)

-- a test of each cell, by row and column
pub at_cell : (f : ℕ → ℕ → Bool) (rows columns : ℕ) → T (every (λ r. every (f r) columns) rows)
    → (row column : ℕ) → row < rows → column < columns → T (f row column)
at_cell f rows columns t row column hr hc = at (f row) columns (at (λ r. every (f r) columns) rows t row hr) column hc

-- ---- the place of a number

swapped : (a b : ℕ) (t : Bool) → eqb b a ≡ t → eqb a b ≡ t
swapped a b true e = eq-eqb a b (sym (eqb-true b a e))
swapped a b false e = ne_eqb a b (λ d. eqb-false b a e (sym d))

-- k is among the numbers of a list exactly if one of them equals it
pub any-among : (k : ℕ) (ls : List ℕ) → list_any (λ l. eqb l k) ls ≡ among k ls
any-among k [] = refl
any-among k (l ∷ ls) = rw (swapped l k (eqb k l) refl, any-among k ls)

passing : (t : Bool) (n m : ℕ) (rest : Bool) → ltb n m ≡ rest → ltb (cond (not t) (1 + n) 0) (suc m) ≡ t || rest
passing true n m rest e = lt-ltb 0 (suc m) (omega arith)
passing false n m true e = lt-ltb (1 + n) (suc m) (omega (arith, ltb-true n m e))
passing false n m false e = le-ltb (1 + n) (suc m) (omega (arith, ltb-false n m e))

any_within : (p : ℕ → Bool) (ls : List ℕ) → ltb (position_or_len p ls) (length ls) ≡ list_any p ls
any_within p [] = refl
any_within p (l ∷ ls) = passing (p l) (position_or_len p ls) (length ls) (list_any p ls) (any_within p ls)

none_any : (t : Bool) (i : ℕ) → ◌≡◌ {A = Option ℕ} (cond t (Some i) None) None → t ≡ false
none_any true i e = cc
none_any false i e = refl

pub record Place (k : ℕ) (ls : List ℕ) (i : ℕ) : Type 0 where
  pub within : i < length ls
  pub here : get_or ls i 0 ≡ k
  pub among : among k ls ≡ true

module _ (k : ℕ) (ls : List ℕ) where
  pub no_place : position (λ l. eqb l k) ls ≡ None → among k ls ≡ false
  no_place e =
      let t = none_any (ltb (position_or_len (λ l. eqb l k) ls) (length ls)) _ e in
      sym (any-among k ls) ∙ sym (any_within (λ l. eqb l k) ls) ∙ t

  pub a_place : (i : ℕ) → position (λ l. eqb l k) ls ≡ Some i → Place k ls i
  a_place i e =
      let p = position-Some (λ l. eqb l k) ls i 0 e in
      record {
        within = p.0;
        here = eqb-true (get_or ls i 0) k p.1;
        among = sym (any-among k ls) ∙ list_any_at (λ l. eqb l k) ls i 0 p.0 p.1;
      }
