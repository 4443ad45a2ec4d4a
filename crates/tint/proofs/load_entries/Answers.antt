-- `load_entries`: a dose more in each turn, and at the end those of all entries. Assumes nothing.
use mathlib.Core.List.{List, [], ◌∷◌, map}
use mathlib.Core.Path.{◌≡◌, refl, ap, ◌∙◌}
use native.Mathlib.Omega.{arith}
use Prim.Native.Nat.{ℕ, suc, ◌/◌}
use lib.ListN.{length}
use Rattle.std.specs.Simd.{first_chunks}
use Rattle.tint.specs.Format.{from_big_endian, doses_in}
use Rattle.tint.specs.Calls.{doses_from}
use Rattle.tint.specs.Code.{dose_of_entry}
use Rattle.tint.specs.declared.Dose.{Dose}
use Rattle.tint.proofs.Arrays.{filled_turn, filled_last}
use Rattle.tint.proofs.load_entries.Goals as goal

by_entry : (s : List ℕ) → map dose_of_entry (first_chunks 3 (length s / 3) s) ≡ doses_in s
by_entry [] = refl
by_entry (c ∷ []) = refl
by_entry (c ∷ h ∷ []) = refl
by_entry (c ∷ h ∷ l ∷ r) =
    let e : length (c ∷ h ∷ l ∷ r) / 3 ≡ suc (length r / 3) = omega arith in
    ap (λ (k : ℕ). map dose_of_entry (first_chunks 3 k (c ∷ h ∷ l ∷ r))) e
    ∙ ap (λ (ds : List Dose). record { canister = c; steps = from_big_endian h l } ∷ ds) (by_entry r)

pub loop-place-preserved : goal.loop-place-preserved
loop-place-preserved c = let l = c.loop-place in
    filled_turn dose_of_entry _ l.place l.list l.invariant _ c.loop-place-test.true (omega (arith, c.as_chunks.ensures.front_len)) c.of_entry.ensures

pub returns : goal.returns
returns c = let l = c.loop-place in
    filled_last dose_of_entry _ l.place l.list l.invariant c.loop-place-test.false
    ∙ ap (λ (es : List (List ℕ)). doses_from (map dose_of_entry es)) c.as_chunks.ensures.front ∙ ap doses_from (by_entry c.args.entries.now)
