-- The sixteen values of the service bits, each computed: those that items carry, and the rule by each value with r items
-- taken and after the end, with marks and without. Assumes nothing.
use mathlib.Core.Path.{◌≡◌, refl}
use mathlib.Core.Bool.{Bool, true, false}
use mathlib.Core.List.{List, [], ◌∷◌, map}
use Prim.Native.Nat.{ℕ}
use Rattle.std.proofs.Common.{None, Option, Some}
use Rattle.crc.specs.Bits.{number}
use Rattle.line.specs.Marks.{marks_of, mark, is_mark}
use Rattle.line.specs.Order.{letter_a, letter_b, letter_c, letter, is_letter, data_service, valid_length}
use Rattle.line.specs.Receiving.{Rule, accepts, previous, out_of_sequence, wrong_length, ends_again, anything_else, is_of, place, end_rule, mark_rule, service_rule}

-- ---- what items carry

abbrev first_items : Option ℕ → List ℕ
first_items size = map (data_service (marks_of size)) (0 ∷ 1 ∷ 2 ∷ 3 ∷ 4 ∷ [])

pub carried :
    map first_items (None ∷ Some 5 ∷ Some 6 ∷ Some 7 ∷ Some 8 ∷ [])
    ≡ (letter_a ∷ letter_b ∷ letter_c ∷ letter_a ∷ letter_b ∷ [])
    ∷ (0b0001 ∷ letter_a ∷ letter_b ∷ letter_c ∷ letter_a ∷ [])
    ∷ (0b1010 ∷ letter_a ∷ letter_b ∷ letter_c ∷ letter_a ∷ [])
    ∷ (0b1011 ∷ letter_a ∷ letter_b ∷ letter_c ∷ letter_a ∷ [])
    ∷ (0b0010 ∷ letter_a ∷ letter_b ∷ letter_c ∷ letter_a ∷ [])
    ∷ []
unfolding data_service mark letter
carried = refl

-- ---- the rule by each value, of a block whose data are empty, so that an end block has another length

abbrev values : List ℕ
values = 0 ∷ 1 ∷ 2 ∷ 3 ∷ 4 ∷ 5 ∷ 6 ∷ 7 ∷ 8 ∷ 9 ∷ 10 ∷ 11 ∷ 12 ∷ 13 ∷ 14 ∷ 15 ∷ []

abbrev rules : Bool → ℕ → Bool → List Rule
rules in_use r ended = map (λ s. service_rule in_use 240 r ended s []) values

-- by what the value is: a mark, A, B, C or an end block's; rule 7 by every other
abbrev by_value : (m a b c e : Rule) → List Rule
by_value m a b c e =
    let o : Rule = anything_else in
    o ∷ m ∷ m ∷ a ∷ o ∷ o ∷ o ∷ o ∷ e ∷ b ∷ m ∷ m ∷ c ∷ o ∷ o ∷ o ∷ []

pub judged :
    rules true 0 false ∷ rules true 1 false ∷ rules true 2 false ∷ rules true 2 true
    ∷ rules false 0 false ∷ rules false 1 false ∷ rules false 2 false ∷ rules false 2 true ∷ []
    ≡ by_value accepts out_of_sequence anything_else anything_else wrong_length
    ∷ by_value previous accepts out_of_sequence anything_else wrong_length
    ∷ by_value anything_else previous accepts out_of_sequence wrong_length
    ∷ by_value anything_else out_of_sequence out_of_sequence out_of_sequence ends_again
    ∷ by_value anything_else accepts out_of_sequence anything_else wrong_length
    ∷ by_value anything_else previous accepts out_of_sequence wrong_length
    ∷ by_value anything_else out_of_sequence previous accepts wrong_length
    ∷ by_value anything_else out_of_sequence out_of_sequence out_of_sequence ends_again
    ∷ []
unfolding service_rule end_rule mark_rule place is_of is_mark is_letter letter number valid_length
judged = refl
