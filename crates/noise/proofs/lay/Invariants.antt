-- The loop of `lay`: the masks so far are laid, and the slice still holds bytes. Assumes nothing.
use Rattle.std.proofs.Common.{◌≡◌, ℕ, ◌/◌, ◌<◌, take, get_or}
use Rattle.noise.proofs.Spans.{masked}
use Rattle.noise.proofs.lay.Given as goal

abbrev pub invariant-loop-i : goal.invariant-loop-i
invariant-loop-i l =
    (l.block ≡ masked (l.place / 8) (take l.i l.mask-items) l.initial.block) × ((k : ℕ) → get_or l.block k 0 < 256)
