-- The tint order: docs/PROTOCOL.md, "Tint orders". Its bytes, the doses in them, and what is refused. Assumes nothing.
use Rattle.std.specs.Prelude.{Bool, true, false, not, ◌&&◌, List, [], ◌∷◌, ◌++◌, ℕ, ◌+◌, ◌*◌, ◌/◌, ◌%◌, eqb, leb, ltb, length, map, sum}
use Rattle.block.specs.Answer.{Answer, refuse_if}
use Rattle.tint.specs.Refusals as Refusals
use Rattle.tint.specs.declared.Dose.{Dose}

-- ---- the bytes

abbrev pub format_version : ℕ
format_version = 1

-- a number in 16 bits, big-endian
abbrev pub big_endian : ℕ → List ℕ
big_endian n = n / 256 ∷ n % 256 ∷ []

abbrev pub from_big_endian : ℕ → ℕ → ℕ
from_big_endian high low = high * 256 + low

-- the entries: for each dose three bytes, its canister and its steps
abbrev pub entries : List Dose → List ℕ
entries [] = []
entries (d ∷ ds) = d.canister ∷ (big_endian d.steps ++ entries ds)

-- the order: version, the number of bytes that follow, the entries
unfoldable pub order_bytes : List Dose → List ℕ
order_bytes ds = format_version ∷ (big_endian (length (entries ds)) ++ entries ds)

-- and back: the doses of the entries; a last one of fewer than three bytes is none
abbrev pub doses_in : List ℕ → List Dose
doses_in (canister ∷ high ∷ low ∷ rest) = record { canister = canister; steps = from_big_endian high low } ∷ doses_in rest
doses_in (canister ∷ high ∷ []) = []
doses_in (canister ∷ []) = []
doses_in [] = []

-- ---- what is refused

-- a length is that of entries: not 0, a multiple of three, and what follows
abbrev pub is_length_of : ℕ → List ℕ → Bool
is_length_of n rest = not (eqb n 0) && eqb (n % 3) 0 && eqb n (length rest)

-- at least three bytes, the version, and a length that is right
abbrev pub is_format : List ℕ → Bool
is_format (version ∷ high ∷ low ∷ rest) = eqb version format_version && is_length_of (from_big_endian high low) rest
is_format (version ∷ high ∷ []) = false
is_format (version ∷ []) = false
is_format [] = false

abbrev pub canisters : ℕ
canisters = 12

abbrev pub most_steps : ℕ
most_steps = 4800

abbrev pub most_total : ℕ
most_total = 20000

-- canister 1 to 12, steps 1 to 4,800
abbrev pub is_in_range : Dose → Bool
is_in_range d = leb 1 d.canister && leb d.canister canisters && leb 1 d.steps && leb d.steps most_steps

-- every dose in range, and canisters that rise strictly, the first of them from above `last`
abbrev pub in_range_and_order : ℕ → List Dose → Bool
in_range_and_order last [] = true
in_range_and_order last (d ∷ ds) = is_in_range d && ltb last d.canister && in_range_and_order d.canister ds

abbrev pub total : List Dose → ℕ
total ds = sum (map (λ (d : Dose). d.steps) ds)

-- every entry, then the total: 11, 12, and then what follows
unfoldable pub judge_doses : {A : Type 0} → List Dose → Answer A → Answer A
judge_doses ds next = refuse_if (not (in_range_and_order 0 ds)) Refusals.entry (refuse_if (ltb most_total (total ds)) Refusals.steps next)
