-- `crc::fold_four` meets its contract, by the law of the same name. Assumes nothing.
use mathlib.Core.Path.{sym, ap, ◌∙◌}
use mathlib.Core.List.{List, [], ◌∷◌, ◌++◌}
use Prim.Native.Nat.{ℕ}
use borrow.Author.Rules.{rules}
use lib.ListN.{get_or}
use Rattle.crc.specs.Words.{left_by}
use Rattle.crc.proofs.Words.{written_out}
use Rattle.crc.proofs.Folding as laws
use Rattle.crc.proofs.fold_four.Goals as goal

pub returns : goal.returns
returns c = let w : List ℕ = c.args.window in
    let n : ℕ = c.args.next in
    sym (laws.fold_four (get_or w 0 0) (get_or w 1 0) (get_or w 2 0) (get_or w 3 0) n (search rules))
    ∙ ap (λ (l : List ℕ). left_by (l ++ n ∷ [])) (written_out 4 w (search rules))
