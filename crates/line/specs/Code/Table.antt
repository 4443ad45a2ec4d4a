-- The table of the longest loops, as the code looks it up. Assumes nothing.
use Rattle.std.specs.Prelude.{cond, ℕ, Option, Some, None}
use Rattle.line.specs.LoopTime.{has_entry, longest_loop}

-- the longest loop, where the table has an entry
abbrev pub entry : ℕ → ℕ → Option ℕ
entry k speed = cond (has_entry k speed) (Some (longest_loop k speed)) None
