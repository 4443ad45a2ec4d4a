-- Doses as 16-bit numbers: how many, a dose at a time, and those that a slice holds. Assumes nothing.
use mathlib.Core.Path.{◌≡◌, refl, ap, sym, ◌∙◌}
use mathlib.Core.List.{List, [], ◌∷◌, ◌++◌, append_assoc}
use native.Mathlib.Numerals.{add-one}
use native.Mathlib.Omega.{arith}
use Prim.Native.Nat.{ℕ, suc, ◌+◌, ◌*◌, ◌/◌, ◌≤◌}
use lib.ListN.{length, get_or, take, drop, set}
use lib.Seq.{drop-cons, take_all, length-take-le, sets-eq}
use Rattle.tint.specs.declared.Dose.{Dose}
use Rattle.line_c.specs.TintCalls.{numbers_of, doses_of_numbers, doses_held}

pub length-numbers_of : (ds : List Dose) → length (numbers_of ds) ≡ length ds * 2
length-numbers_of [] = refl
length-numbers_of (d ∷ ds) = omega (arith, length-numbers_of ds)

pub length-doses_of_numbers : (s : List ℕ) → length (doses_of_numbers s) ≡ length s / 2
length-doses_of_numbers [] = refl
length-doses_of_numbers (a ∷ []) = refl
length-doses_of_numbers (a ∷ b ∷ s) = omega (arith, length-doses_of_numbers s)

-- the dose at place i, and those behind it
pub dose_first : (s : List ℕ) (i : ℕ) → i * 2 + 2 ≤ length s
    → doses_of_numbers (drop (i * 2) s)
    ≡ record { canister = get_or s (i * 2) 0; steps = get_or s (i * 2 + 1) 0 } ∷ doses_of_numbers (drop ((i + 1) * 2) s)
dose_first s i h =
    let one : suc (i * 2) ≡ i * 2 + 1 = sym (add-one (i * 2)) in
    let two : suc (i * 2 + 1) ≡ (i + 1) * 2 = omega arith in
    ap doses_of_numbers
    (drop-cons s (i * 2) 0 (omega arith)
    ∙ ap (λ (l : List ℕ). get_or s (i * 2) 0 ∷ l)
    (ap (λ (n : ℕ). drop n s) one ∙ drop-cons s (i * 2 + 1) 0 (omega arith) ∙ ap (λ (n : ℕ). get_or s (i * 2 + 1) 0 ∷ drop n s) two))

-- a slice that is long enough holds all doses that are meant
pub length-doses_held : (s : List ℕ) (count : ℕ) → count * 2 ≤ length s → length (doses_held s count) ≡ count
length-doses_held s count h = let n = length-doses_of_numbers s in length-take-le count (doses_of_numbers s) (omega arith)

-- of a shorter one all are taken
pub held_all : (s : List ℕ) (count : ℕ) → length s / 2 ≤ count → doses_held s count ≡ doses_of_numbers s
held_all s count h = let n = length-doses_of_numbers s in take_all count (doses_of_numbers s) (omega arith)

-- two numbers stored
pub two_stores : (l : List ℕ) (at a b : ℕ) → at + 2 ≤ length l
    → set (set l at a) (at + 1) b ≡ take at l ++ ((a ∷ b ∷ []) ++ drop (at + 2) l)
two_stores l at a b h = rw add-one (sets-eq (a ∷ b ∷ []) l at h ∙ append_assoc (take at l) (a ∷ b ∷ []) (drop (at + 2) l))
