-- `store_doses`: the numbers of a dose more in each turn. Assumes nothing.
use borrow.Author.Rules.{rules}
use borrow.Rule.Slice.PartMut.{put_mid}
use mathlib.Core.List.{List, [], ◌∷◌, ◌++◌}
use mathlib.Core.Path.{◌≡◌, refl, ap, sym, ◌∙◌}
use native.Mathlib.Omega.{arith}
use Prim.Native.Nat.{ℕ, ◌+◌, ◌-◌, ◌*◌, ◌≤◌}
use lib.ListN.{length, take, drop, set}
use lib.Seq.{drop-drop}
use Rattle.tint.specs.declared.Dose.{Dose}
use Rattle.tint.proofs.Arrays.{overwritten_turn, overwritten_last}
use Rattle.line_c.proofs.DoseNumbers.{two_stores}
use Rattle.line_c.proofs.tint_calls.store_doses.Goals as goal

abbrev numbers : Dose → List ℕ
numbers d = d.canister ∷ d.steps ∷ []

stored : (l : List ℕ) (at a b : ℕ) → at + 2 ≤ length l → set (set l at a) (at + 1) b ≡ put_mid at (at + 2 - at) l (a ∷ b ∷ [])
stored l at a b h =
    let k : 2 ≡ at + 2 - at = omega arith in
    two_stores l at a b h ∙ ap (λ (x : List ℕ). take at l ++ ((a ∷ b ∷ []) ++ x)) (sym (drop-drop 2 at l))
    ∙ ap (λ (n : ℕ). take at l ++ ((a ∷ b ∷ []) ++ drop n (drop at l))) k

pub loop-place-preserved : goal.loop-place-preserved
loop-place-preserved c = let l = c.loop-place in
    stored l.numbers (l.place * 2) _ _ (search rules)
    ∙ overwritten_turn numbers 2 (λ d. refl) c.args.doses.now l.place _ l.numbers l.invariant _ c.loop-place-test.true refl

pub returns : goal.returns
returns c = let l = c.loop-place in
    overwritten_last numbers 2 (λ d. refl) c.args.doses.now l.place _ l.numbers l.invariant l.auto.place-end c.loop-place-test.false
