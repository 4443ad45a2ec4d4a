-- The loop-time test without rounding. Assumes nothing.
use mathlib.Core.Path.{◌≡◌, refl}
use mathlib.Core.Logic.{◌↔◌}
use mathlib.Core.Bool.{Bool, true, false, not, ◌||◌, false≢true}
use Prim.Native.Nat.{ℕ, zero, suc, ◌+◌, ◌-◌, ◌<◌}
use native.Mathlib.Nat.{div-lt_iff_lt-mul}
use native.Mathlib.Omega.{arith}
use borrow.Author.Tests.{ltb-true, leb-true, leb-false, lt-ltb}
use lib.Dec.{leb, ltb}
use Rattle.block.specs.Answer as A
use Rattle.line.specs.Refusals as Refusals
use Rattle.block.specs.Answer.{Answer, refused, done, refuse_if}
use Rattle.block.specs.Lengths.{is_length}
use Rattle.line.specs.LoopTime.{is_speed, block_time, has_entry, longest_loop, loop_time, Unrounded}

speed_pos : (speed : ℕ) → is_speed speed ≡ true → 0 < speed
unfolding is_speed
speed_pos zero h = absurd (false≢true h)
speed_pos (suc s) h = omega arith

-- a block of q ms has no entry, or one below the loop, exactly if q is below the loop and 90 ms
above_entry : (q loop_ms : ℕ) (entry : Bool) → leb 90 q ≡ entry → (not entry || ltb (q - 90) loop_ms ≡ true) ↔ (q < loop_ms + 90)
above_entry q loop_ms false e = let h = leb-false 90 q e in (λ t. omega arith, λ g. refl)
above_entry q loop_ms true e =
    let h = leb-true 90 q e in
    (λ t. let g = ltb-true (q - 90) loop_ms t in omega arith, λ g. lt-ltb (q - 90) loop_ms (omega arith))

-- 3 is answered exactly if k is known, the speed is listed, and the loop is above the entry
third-refusal : (known listed above : Bool)
    → (◌≡◌ {A = Answer (Unit {0})}
    (refuse_if (not known) A.block (refuse_if (not listed) Refusals.speed (refuse_if above Refusals.loop_time (done tt))))
    (refused Refusals.loop_time))
    ↔ ((known ≡ true) × (listed ≡ true) × (above ≡ true))
third-refusal false listed above =
    (λ e. absurd (let z : ◌≡◌ {A = ℕ} A.block Refusals.loop_time = cc in omega arith), λ h. absurd (false≢true h.0))
third-refusal true false above =
    (λ e. absurd (let z : ◌≡◌ {A = ℕ} Refusals.speed Refusals.loop_time = cc in omega arith), λ h. absurd (false≢true h.1))
third-refusal true true false =
    (λ e. absurd (let z : ◌≡◌ {A = ℕ} 0 1 = cc in omega arith), λ h. absurd (false≢true h.2))
third-refusal true true true = (λ e. (refl, refl, refl), λ h. refl)

pub unrounded : Unrounded
unfolding Unrounded loop_time has_entry longest_loop block_time
unrounded k speed loop_ms =
    let third = third-refusal (is_length k) (is_speed speed) (not (has_entry k speed) || ltb (longest_loop k speed) loop_ms) in
    let above = above_entry (block_time k speed) loop_ms (has_entry k speed) refl in (
      λ e. let h = third.0 e in (h.0, h.1, (div-lt_iff_lt-mul (speed_pos speed h.1)).0 (above.0 h.2)),
      λ h. third.1 (h.0, h.1, above.1 ((div-lt_iff_lt-mul (speed_pos speed h.1)).1 h.2)),
    )
