-- Start-of-message marks: the code sizes, whether a session uses marks, and the service bits of each. docs/PROTOCOL.md,
-- "Start-of-message marks". Assumes nothing.
use Rattle.std.specs.Prelude.{Bool, true, false, cond, not, ◌&&◌, ◌||◌, ℕ, eqb, leb, Option, Some, None}
use Rattle.line.specs.declared.marks.Marks.{Marks}

-- a session uses marks if a code size is given; without one the size is 0
abbrev pub marks_of : Option ℕ → Marks
marks_of None = record { in_use = false; size = 0 }
marks_of (Some size) = record { in_use = true; size = size }

unfoldable pub is_code_size : ℕ → Bool
is_code_size size = leb 5 size && leb size 8

-- with marks the size is one of these; without, nobody judges it
unfoldable pub marks_in_range : Marks → Bool
marks_in_range m = not m.in_use || is_code_size m.size

-- ---- service bits

abbrev pub mark5 : ℕ
mark5 = 0b0001

abbrev pub mark6 : ℕ
mark6 = 0b1010

abbrev pub mark7 : ℕ
mark7 = 0b1011

abbrev pub mark8 : ℕ
mark8 = 0b0010

-- the mark of a code size
unfoldable pub mark : ℕ → ℕ
mark size = cond (eqb size 5) mark5 (cond (eqb size 6) mark6 (cond (eqb size 7) mark7 mark8))

unfoldable pub is_mark : ℕ → Bool
is_mark service = eqb service mark5 || eqb service mark6 || eqb service mark7 || eqb service mark8
