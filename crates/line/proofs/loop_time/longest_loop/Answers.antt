-- `longest_loop` reads from the tables which cells have an entry, and the entry: computed tests over all cells. Assumes nothing.
use borrow.Author.Rules.{rules}
use mathlib.Core.Path.{◌≡◌, refl, sym, ◌∙◌}
use mathlib.Core.Bool.{Bool, true, false, not}
use mathlib.Core.List.{List, [], ◌∷◌}
use Prim.Native.Nat.{ℕ, ◌<◌}
use lib.Dec.{T, eqb, eqb→eq}
use lib.ListN.{get_or}
use Rattle.block.specs.Lengths.{lengths}
use Rattle.line.specs.LoopTime.{speeds, block_time, has_entry, longest_loop}
use Rattle.line.proofs.Table.{at_cell}
use Rattle.line.proofs.loop_time.longest_loop.Goals as goal

limits : List (List ℕ)
limits =
    (1210 ∷ 343 ∷ 126 ∷ 18 ∷ 0 ∷ 0 ∷ []) ∷ (2410 ∷ 743 ∷ 326 ∷ 118 ∷ 48 ∷ 14 ∷ [])
    ∷ (4810 ∷ 1543 ∷ 726 ∷ 318 ∷ 182 ∷ 114 ∷ []) ∷ (19210 ∷ 6343 ∷ 3126 ∷ 1518 ∷ 982 ∷ 714 ∷ []) ∷ []

entries : List (List Bool)
entries =
    (true ∷ true ∷ true ∷ true ∷ false ∷ false ∷ []) ∷ (true ∷ true ∷ true ∷ true ∷ true ∷ true ∷ [])
    ∷ (true ∷ true ∷ true ∷ true ∷ true ∷ true ∷ []) ∷ (true ∷ true ∷ true ∷ true ∷ true ∷ true ∷ []) ∷ []

same : Bool → Bool → Bool
same true b = b
same false b = not b

same→eq : (a b : Bool) → T (same a b) → a ≡ b
unfolding same
same→eq true true t = refl
same→eq true false t = absurd t
same→eq false true t = absurd t
same→eq false false t = refl

module _ (row column : ℕ) (h : row < 4) (g : column < 6) where
  abbrev k : ℕ
  k = get_or lengths row 0

  abbrev speed : ℕ
  speed = get_or speeds column 0

  limit_right : get_or (get_or limits row []) column 0 ≡ longest_loop k speed
  unfolding limits longest_loop block_time
  limit_right =
      eqb→eq _ _
      (at_cell (λ (r s : ℕ). eqb (get_or (get_or limits r []) s 0) (longest_loop (get_or lengths r 0) (get_or speeds s 0))) 4 6 tt row column h g)

  entry_right : get_or (get_or entries row []) column false ≡ has_entry k speed
  unfolding entries same has_entry block_time
  entry_right =
      same→eq _ _
      (at_cell (λ (r s : ℕ). same (get_or (get_or entries r []) s false) (has_entry (get_or lengths r 0) (get_or speeds s 0))) 4 6 tt row column h g)

pub returns-then-row-column : goal.returns-then-row-column
unfolding limits entries
returns-then-row-column c =
    let a = c.args in
    let l = limit_right a.row a.column (search rules) (search rules) in
    let e = sym (entry_right a.row a.column (search rules) (search rules)) ∙ c.if-row-column.true in
    rw (l, e)

pub returns-else-row-column : goal.returns-else-row-column
unfolding entries
returns-else-row-column c =
    let a = c.args in
    let e = sym (entry_right a.row a.column (search rules) (search rules)) ∙ c.if-row-column.false in
    rw e
