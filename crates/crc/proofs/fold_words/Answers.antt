-- `crc::fold_words` meets its contract: it folds in each word in its turn. Assumes nothing.
use mathlib.Core.Path.{◌≡◌, sym, ap, ◌∙◌}
use mathlib.Core.List.{List, ◌++◌, map, map-id}
use Prim.Native.Nat.{ℕ}
use borrow.Author.Rules.{rules}
use borrow.Author.Tests.{tests}
use Rattle.std.specs.Int.{from_be_bytes, w64}
use Rattle.std.proofs.lemmas.Iterator.{items_from_drains, YieldsList-from_slice, YieldsList-from_map}
use Rattle.crc.specs.Words.{left_by}
use Rattle.crc.proofs.Words.{left_by_folded}
use Rattle.crc.proofs.fold_words.Goals as goal

pub returns : goal.returns
returns c = let start : List ℕ = c.args.start in
    let words : List ℕ = map (from_be_bytes w64) c.args.words.now in
    let run = c.fold.ensures.ran in
    let items : run.0 ≡ words
    = sym (map-id run.0)
    ∙ items_from_drains run.0 (run.2.1.0, run.2.1.1, λ _. (run.2.0, run.2.1.2))
    (YieldsList-from_map _ (from_be_bytes w64) (YieldsList-from_slice c.args.words.now cc) c.map.ensures.closure (λ x r q k. search (rules, tests))) in
    left_by_folded _ (λ p. p.1) (λ p x q k. search (rules, tests)) (tt, start) run.0 (run.1, c.fold.result) run.3
    ∙ ap (λ (l : List ℕ). left_by (start ++ l)) items
