-- A text parted into lines. Assumes nothing.
use Rattle.std.specs.Prelude.{cond, List, [], ◌∷◌, ℕ, eqb}

abbrev pub newline : ℕ
newline = 10

-- the first line, and what follows its newline
abbrev pub first_line : List ℕ → List ℕ
first_line [] = []
first_line (c ∷ cs) = cond (eqb c newline) [] (c ∷ first_line cs)

abbrev pub after_line : List ℕ → List ℕ
after_line [] = []
after_line (c ∷ cs) = cond (eqb c newline) cs (after_line cs)

-- a byte before the first of these lines
abbrev pub joined : ℕ → List (List ℕ) → List (List ℕ)
joined c [] = (c ∷ []) ∷ []
joined c (l ∷ ls) = (c ∷ l) ∷ ls

-- the lines of a text; a last line with no newline counts
abbrev pub lines : List ℕ → List (List ℕ)
lines [] = []
lines (c ∷ cs) = cond (eqb c newline) ([] ∷ lines cs) (joined c (lines cs))
