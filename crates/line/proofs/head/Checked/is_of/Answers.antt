-- `Checked::is_of` tells the service bits of item i. Assumes nothing.
use mathlib.Core.Path.{◌≡◌, refl, ap, sym, ◌∙◌}
use Prim.Native.Nat.{ℕ, zero, suc, ◌-◌}
use native.Mathlib.Omega.{arith}
use borrow.Author.Tests.{not-true, not-false}
use lib.Dec.{eqb}
use Rattle.line.specs.Order.{letter}
use Rattle.line.specs.Receiving.{is_marked, is_of}
use Rattle.line.proofs.head.Checked.is_of.Goals as goal

later : (i service : ℕ) → (i ≡ 0 → ⊥) → is_marked i service ≡ eqb service (letter (i - 1))
later zero service n = absurd (n refl)
later (suc i) service n = let e : i ≡ suc i - 1 = omega arith in ap (λ (j : ℕ). eqb service (letter j)) e

pub returns-then-not-self : goal.returns-then-not-self
unfolding is_of
returns-then-not-self c = let a = c.args in
    ap (eqb a.service) c.letter.ensures ∙ sym (simp (not-true _ c.if-not-self.true))

pub returns-then-i-eq0 : goal.returns-then-i-eq0
unfolding is_of
returns-then-i-eq0 c = let a = c.args in
    c.is_mark.ensures ∙ sym (rw (not-false _ c.if-not-self.false, c.if-i-eq0.true) refl)

pub returns : goal.returns
unfolding is_of
returns c = let a = c.args in
    ap (eqb a.service) c.letter-2.ensures
    ∙ sym (simp (not-false _ c.if-not-self.false, later a.i a.service c.if-i-eq0.false))
