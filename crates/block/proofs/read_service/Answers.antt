-- `read_service` is the look_up, then `packed::read_service`. Assumes nothing.
use mathlib.Core.Path.{sym, ap, ◌∙◌}
use Rattle.std.proofs.lemmas.Result.{err_from_is_err_and}
use Rattle.block.specs.Packed.{length_answer}
use Rattle.block.proofs.LookUp.{found, service_known, service_unknown}
use Rattle.block.proofs.read_service.Goals as goal

pub returns : goal.returns
returns c = let a = c.args in
    let f = found a.k _ (sym c.look_up.ensures.answers ∙ ap length_answer c.in_ok-m.was) in
    service_known a.k f.0 _ f.1 a.block.now _ c.read_service.ensures

pub returns-in_err-m : goal.returns-in_err-m
returns-in_err-m c = let a = c.args in
    let p = err_from_is_err_and c.from_residual.result c.from_residual.ensures.1 in
    rw (p.1, p.2) (service_unknown a.k _ (sym c.look_up.ensures.answers ∙ ap length_answer c.in_err-m.was) a.block.now)
