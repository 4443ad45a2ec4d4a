-- Bytes in fixed memory. Assumes nothing.
use Rattle.std.specs.Prelude.{◌≡◌, List, ◌++◌, ℕ, ◌+◌, length, take, drop, replicate}
use Rattle.session.specs.declared.buffer.Buffer.{Buffer}

-- the bytes that a buffer holds
abbrev pub held : {N : ℕ} → Buffer N → List ℕ
held t = take t.len t.bytes

abbrev pub empty : (N : ℕ) → Buffer N
empty N = record { bytes = replicate N 0; len = 0 }

-- the buffer of N bytes that holds these alone
abbrev pub filled : (N : ℕ) → List ℕ → Buffer N
filled N s = record { bytes = s ++ drop (length s) (replicate N 0); len = length s }

-- the buffer t with these bytes behind it: they stand over the array's bytes from t's count on, and no other byte changes
pub record Appends {N : ℕ} (t : Buffer N) (added : List ℕ) (r : Buffer N) : Type 0 where
  pub bytes : r.bytes ≡ take t.len t.bytes ++ (added ++ drop (t.len + length added) t.bytes)
  pub len : r.len ≡ t.len + length added
