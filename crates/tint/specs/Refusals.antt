-- The numbers that the tint order's calls refuse by besides 6, which is the block's: docs/PROTOCOL.md, "Tint orders".
-- Assumes nothing.
use Rattle.std.specs.Prelude.{ℕ}

abbrev pub format : ℕ
format = 10

abbrev pub entry : ℕ
entry = 11

abbrev pub steps : ℕ
steps = 12
