-- The number that the noise load refuses by besides 1 and 6, which are the block's: docs/PROTOCOL.md, "The noise load". Assumes
-- nothing.
use Rattle.std.specs.Prelude.{ℕ}

-- a first word of 0
abbrev pub generator : ℕ
generator = 13
