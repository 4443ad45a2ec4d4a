-- The version of the library for C and Rust. Assumes nothing.
use Rattle.std.specs.Prelude.{◌≡◌, ℕ, ◌+◌, ◌*◌}

abbrev pub major : ℕ
major = 5

abbrev pub minor : ℕ
minor = 1

abbrev pub patch : ℕ
patch = 1

-- the three in one number, a byte for each of the last two
abbrev pub library_version : ℕ
library_version = major * 65536 + minor * 256 + patch

pub record VersionCall (result : ℕ) : Type 0 where
  pub answers : result ≡ library_version
