-- `load_doses`: a dose more in each turn, and at the end those that the slice holds. Assumes nothing.
use mathlib.Core.List.{List, [], ◌∷◌, map}
use mathlib.Core.Path.{◌≡◌, refl, ap, ◌∙◌}
use native.Mathlib.Omega.{arith}
use Prim.Native.Nat.{ℕ, zero, suc, ◌*◌, ◌/◌, ◌≤◌}
use lib.ListN.{length, take}
use lib.Seq.{length-take-le}
use Rattle.std.specs.Simd.{first_chunks}
use Rattle.tint.specs.Calls.{doses_from}
use Rattle.tint.specs.declared.Dose.{Dose}
use Rattle.tint.proofs.Arrays.{filled_turn, filled_last}
use Rattle.line_c.specs.TintCalls.{doses_held}
use Rattle.line_c.proofs.tint_calls.load_doses.Goals as goal
use Rattle.line_c.proofs.tint_calls.load_doses.Invariants.{dose_of}

by_pair : (s : List ℕ) (count : ℕ) → count * 2 ≤ length s → map dose_of (first_chunks 2 count (take (count * 2) s)) ≡ doses_held s count
by_pair s zero h = refl
by_pair [] (suc n) h = absurd (omega arith)
by_pair (a ∷ []) (suc n) h = absurd (omega arith)
by_pair (a ∷ b ∷ s) (suc n) h =
    let e : suc n * 2 ≡ suc (suc (n * 2)) = omega arith in
    ap (λ (k : ℕ). map dose_of (first_chunks 2 (suc n) (take k (a ∷ b ∷ s)))) e
    ∙ ap (λ (ds : List Dose). record { canister = a; steps = b } ∷ ds) (by_pair s n (omega arith))

pub loop-place-preserved : goal.loop-place-preserved
loop-place-preserved c = let l = c.loop-place in
    let n = length-take-le (c.args.count * 2) c.args.numbers.now c.requires.1 in
    filled_turn dose_of _ l.place l.list l.invariant _ c.loop-place-test.true (omega (arith, c.as_chunks.ensures.front_len)) refl

pub returns : goal.returns
returns c = let l = c.loop-place in
    let s = c.args.numbers.now in
    let count = c.args.count in
    let n = length-take-le (count * 2) s c.requires.1 in
    let k : length (take (count * 2) s) / 2 ≡ count = omega arith in
    filled_last dose_of _ l.place l.list l.invariant c.loop-place-test.false
    ∙ ap (λ (es : List (List ℕ)). doses_from (map dose_of es)) c.as_chunks.ensures.front
    ∙ ap (λ (j : ℕ). doses_from (map dose_of (first_chunks 2 j (take (count * 2) s)))) k ∙ ap doses_from (by_pair s count c.requires.1)
