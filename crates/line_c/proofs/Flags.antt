-- Truth values as bytes. Assumes nothing.
use mathlib.Core.Path.{◌≡◌, refl}
use mathlib.Core.Bool.{Bool, true, false}
use Rattle.std.specs.Int.{from_bool}
use Rattle.line_c.specs.State.{flag_byte}

-- a truth value as the code turns it into a byte
pub from_bool_flag : (t : Bool) → from_bool t ≡ flag_byte t
from_bool_flag true = refl
from_bool_flag false = refl
