-- `check_block` is the look_up, then `packed::check`. Assumes nothing.
use mathlib.Core.Path.{sym, ap, ◌∙◌}
use Rattle.std.proofs.lemmas.Result.{err_from_is_err_and}
use Rattle.block.specs.Packed.{length_answer}
use Rattle.block.proofs.LookUp.{found, check_known, check_unknown}
use Rattle.block.proofs.check_block.Goals as goal

pub returns : goal.returns
returns c = let a = c.args in
    let f = found a.k _ (sym c.look_up.ensures.answers ∙ ap length_answer c.in_ok-look_up.was) in
    check_known a.k f.0 _ f.1 a.block.now _ c.check.ensures

pub returns-in_err-look_up : goal.returns-in_err-look_up
returns-in_err-look_up c = let a = c.args in
    let p = err_from_is_err_and c.from_residual.result c.from_residual.ensures.1 in
    rw (p.1, p.2) (check_unknown a.k _ (sym c.look_up.ensures.answers ∙ ap length_answer c.in_err-look_up.was) a.block.now)
