-- Without marks a session is one over the letters alone: the service bits of an item, and the rules by them; and no code size
-- is judged. Assumes nothing.
use Rattle.std.specs.Prelude.{◌≡◌, Bool, true, false, cond, ◌&&◌, ℕ, ◌+◌, ◌-◌, eqb, leb}
use Rattle.crc.specs.Bits.{Bits}
use Rattle.line.specs.Marks.{marks_in_range}
use Rattle.line.specs.Order.{letter, is_letter, end_service, data_service}
use Rattle.line.specs.Receiving.{Rule, out_of_sequence, anything_else, Place, expected, last, next, other, place_rule, end_rule, service_rule}
use Rattle.line.specs.declared.marks.Marks.{Marks}

-- a letter against the items taken: of item r, of item r - 1, of item r + 1, or of none of these
unfoldable pub letter_place : ℕ → ℕ → Place
letter_place r service =
    cond (eqb service (letter r)) expected
    (cond (leb 1 r && eqb service (letter (r - 1))) last (cond (eqb service (letter (r + 1))) next other))

-- rules 3 to 7 over the letters
unfoldable pub letter_service_rule : ℕ → ℕ → Bool → ℕ → Bits → Rule
letter_service_rule k r ended service payload =
    cond (is_letter service) (cond ended out_of_sequence (place_rule r (letter_place r service)))
    (cond (eqb service end_service) (end_rule k r ended payload) anything_else)

pub record WithoutMarks : Type 0 where
  pub service_bits : (m : Marks) (i : ℕ) → m.in_use ≡ false → data_service m i ≡ letter i
  pub rules : (k r : ℕ) (ended : Bool) (service : ℕ) (payload : Bits)
      → service_rule false k r ended service payload ≡ letter_service_rule k r ended service payload
  pub no_size : (m : Marks) → m.in_use ≡ false → marks_in_range m ≡ true
