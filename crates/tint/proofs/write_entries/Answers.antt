-- `write_entries`: an entry more in each turn. Assumes nothing.
use mathlib.Core.Path.{refl, ◌∙◌}
use Rattle.tint.specs.Code.{low_entry}
use Rattle.tint.proofs.Arrays.{overwritten_turn, overwritten_last}
use Rattle.tint.proofs.write_entries.Goals as goal

pub loop-place-preserved : goal.loop-place-preserved
loop-place-preserved c = let l = c.loop-place in
    overwritten_turn low_entry 3 (λ d. refl) c.args.doses.now l.place _ l.entries l.invariant _ c.loop-place-test.true
    (c.copy_from_slice.ensures.after ∙ c.entry.ensures)

pub returns : goal.returns
returns c = let l = c.loop-place in
    overwritten_last low_entry 3 (λ d. refl) c.args.doses.now l.place _ l.entries l.invariant l.auto.place-end c.loop-place-test.false
