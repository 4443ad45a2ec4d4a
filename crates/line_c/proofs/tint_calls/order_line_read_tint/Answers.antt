-- `order_line_read_tint`: what the crate `tint` answers, then a slice too short for the doses. Assumes nothing.
use mathlib.Core.List.{List, ◌++◌}
use mathlib.Core.Path.{◌≡◌, sym, ap, ◌∙◌}
use native.Mathlib.Omega.{arith}
use Prim.Native.Nat.{ℕ, ◌*◌}
use lib.ListN.{length, take, drop}
use Rattle.tint.specs.Calls.{doses_of}
use Rattle.tint.specs.declared.Dose.{Dose}
use Rattle.tint.proofs.Arrays.{length_first_places, first_places-take}
use Rattle.tint.proofs.RoundTrip.{read_few}
use Rattle.line_c.specs.TintCalls.{numbers_of}
use Rattle.line_c.proofs.HeldDoses.{read_refused, read_short, read_done}
use Rattle.line_c.proofs.tint_calls.order_line_read_tint.Goals as goal

pub returns-in-Err : goal.returns-in-Err
returns-in-Err c = let a = c.args in
    rw c.into-in-Err.ensures (read_refused a.order.now a.doses.now a.count.now _ c.in-Err.ensures.answers)

pub returns-then-doses-found : goal.returns-then-doses-found
returns-then-doses-found c = let a = c.args in
    let d = c.in-Ok.found in
    let n = length_first_places d.count d.list in
    rw c.into.ensures (read_short a.order.now a.doses.now a.count.now (doses_of d) c.in-Ok.ensures.answers (omega arith))

pub slice_bounds-store_doses-end : goal.slice_bounds-store_doses-end
slice_bounds-store_doses-end c = let d = c.in-Ok.found in
    let n = length_first_places d.count d.list in
    let m = read_few _ (doses_of d) (sym c.in-Ok.ensures.answers) in
    omega arith

pub returns-else-doses-found : goal.returns-else-doses-found
returns-else-doses-found c = let a = c.args in
    let d = c.in-Ok.found in
    let n = length_first_places d.count d.list in
    let m = read_few _ (doses_of d) (sym c.in-Ok.ensures.answers) in
    let held : take d.count d.list ≡ doses_of d = first_places-take d.count d.list (omega arith) in
    read_done a.order.now a.doses.now a.count.now (doses_of d) c.in-Ok.ensures.answers d.count _ (sym n) (omega arith)
    (c.store_doses.ensures ∙ ap (λ (ds : List Dose). numbers_of ds ++ drop (length ds * 2) a.doses.now) held
    ∙ ap (λ (k : ℕ). numbers_of (doses_of d) ++ drop (k * 2) a.doses.now) n)
