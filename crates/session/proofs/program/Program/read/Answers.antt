-- `Program::read` meets its contract: the end, or the bytes of a part. Assumes nothing.
use mathlib.Core.Path.{◌≡◌, sym, ap, ◌∙◌}
use mathlib.Core.List.{List}
use Prim.Native.Nat.{ℕ, min}
use native.Mathlib.Omega.{arith}
use borrow.Author.Rules.{rules}
use lib.ListN.{length, take}
use lib.Seq.{length-take-le}
use Rattle.session.specs.Program.{after_end, end_text, after_bytes, bytes_text, turn}
use Rattle.session.proofs.Outputs.{made_of, not_the_end}
use Rattle.std.proofs.lemmas.List.{take_min}
use Rattle.session.proofs.program.Program.read.Goals as goal
use Rattle.session.proofs.program.Program.read.Goals.{then-count-eq0, else-count-eq0}

pub returns : goal.returns
returns c = let a = c.args in
    let p = a.self in
    let j = c.if-count-eq0 in
    let h : length a.part.now ≡ 2048 = search rules in
    elim c.if-count-eq0.branch [
      | then-count-eq0 w ↦
          let e = w.end.ensures in
          made_of (after_end p) j.program (end_text p) c.new-output.result j.output c.is_over.result c.new-output.ensures
          (w.program-is ∙ e.program) (rw w.output-is e.appends) c.is_over.ensures
          ∙ ap (λ (n : ℕ). turn p (take n a.part.now)) (sym w.if-count-eq0.true)
      | else-count-eq0 w ↦
          let e = w.read_bytes.ensures in
          let part : List ℕ = take w.min.result a.part.now in
          let l = length-take-le w.min.result a.part.now (omega (arith, w.min.ensures)) in
          made_of (after_bytes p part) j.program (bytes_text p part) c.new-output.result j.output c.is_over.result c.new-output.ensures
          (w.program-is ∙ e.program) (rw w.output-is e.appends) c.is_over.ensures
          ∙ sym (not_the_end p part (omega (arith, w.min.ensures, w.if-count-eq0.false)))
          ∙ ap (turn p) (ap (λ (n : ℕ). take n a.part.now) (w.min.ensures ∙ ap (min a.count) (sym h)) ∙ take_min a.count a.part.now)
    ]
