-- `crc::feed_window` meets its contract: each fold leaves what the register holds. Assumes nothing.
use mathlib.Core.Path.{sym, ap, ◌∙◌}
use mathlib.Core.List.{List, [], ◌∷◌}
use Prim.Native.Nat.{ℕ}
use borrow.Author.Rules.{rules}
use lib.ListN.{get_or}
use Rattle.crc.specs.Words.{left_by}
use Rattle.crc.specs.Check.{register}
use Rattle.crc.proofs.Words.{bits_of_words_one, register-words_behind, written_out}
use Rattle.crc.proofs.feed_window.Goals as goal

pub returns : goal.returns
returns c = let w : List ℕ = c.args.window in
    let p : List ℕ = c.fold_two.result in
    let q : List ℕ = c.fold_two-2.result in
    c.feed_word.ensures ∙ ap (register 0) (sym (bits_of_words_one c.fold_one.result)) ∙ c.fold_one.ensures
    ∙ ap left_by (written_out 2 q (search rules)) ∙ c.fold_two-2.ensures
    ∙ register-words_behind (get_or p 0 0 ∷ get_or p 1 0 ∷ []) (get_or w 0 0 ∷ get_or w 1 0 ∷ get_or w 2 0 ∷ []) (get_or w 3 0 ∷ [])
    (ap left_by (written_out 2 p (search rules)) ∙ c.fold_two.ensures)
    ∙ ap left_by (written_out 4 w (search rules))
