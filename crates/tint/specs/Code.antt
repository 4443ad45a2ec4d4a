-- What the private functions of src/ promise; no public call's promise rests on it. Assumes nothing.
use Rattle.std.specs.Prelude.{List, ◌∷◌, ℕ, ◌%◌, slice_index, flat_map}
use Rattle.tint.specs.Format.{format_version, big_endian, from_big_endian}
use Rattle.tint.specs.declared.Dose.{Dose}

-- the version and a number
abbrev pub head_bytes : ℕ → List ℕ
head_bytes n = format_version ∷ big_endian n

-- an entry, of the canister its low byte
abbrev pub low_entry : Dose → List ℕ
low_entry d = d.canister % 256 ∷ big_endian d.steps

abbrev pub low_entries : List Dose → List ℕ
low_entries = flat_map low_entry

-- the dose of an entry
abbrev pub dose_of_entry : List ℕ → Dose
dose_of_entry entry =
    record { canister = slice_index entry 0; steps = from_big_endian (slice_index entry 1) (slice_index entry 2) }
