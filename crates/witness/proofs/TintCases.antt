-- Tint orders by example: one written, what reading answers for byte strings of every refusal, what writing answers for doses of
-- every refusal, a store that was not cut to the order, and two orders joined. Assumes nothing.
use mathlib.Core.Path.{◌≡◌, refl}
use mathlib.Core.List.{List, [], ◌∷◌, ◌++◌, map}
use Prim.Native.Nat.{ℕ}
use lib.ListN.{take, drop, replicate}
use Rattle.block.specs.Answer as A
use Rattle.block.specs.Answer.{Answer, refused, done}
use Rattle.tint.specs.Refusals as Refusals
use Rattle.tint.specs.Format.{order_bytes, judge_doses}
use Rattle.tint.specs.Calls.{judge_counted, doses_from, write, read}
use Rattle.tint.specs.declared.Dose.{Dose}
use Rattle.tint.specs.declared.Doses.{Doses}

abbrev pub dose : ℕ → ℕ → Dose
dose canister steps = record { canister = canister; steps = steps }

-- docs/PROTOCOL.md, "Tint orders"
pub written : order_bytes (dose 1 1 ∷ dose 12 300 ∷ []) ≡ 0x01 ∷ 0x00 ∷ 0x06 ∷ 0x01 ∷ 0x00 ∷ 0x01 ∷ 0x0c ∷ 0x01 ∷ 0x2c ∷ []
unfolding order_bytes
written = refl

-- ---- reading

pub record ReadCase : Type 0 where
  pub order : List ℕ
  pub answer : Answer (List Dose)

abbrev reads : List ℕ → Answer (List Dose) → ReadCase
reads order answer = record { order = order; answer = answer }

abbrev read_cases : List ReadCase
read_cases =
    -- under three bytes, another version, a length of 0, no multiple of three, not what follows
    reads [] (refused Refusals.format)
    ∷ reads (1 ∷ 0 ∷ []) (refused Refusals.format)
    ∷ reads (0 ∷ 0 ∷ 3 ∷ 1 ∷ 0 ∷ 1 ∷ []) (refused Refusals.format)
    ∷ reads (1 ∷ 0 ∷ 0 ∷ []) (refused Refusals.format)
    ∷ reads (1 ∷ 0 ∷ 4 ∷ 1 ∷ 0 ∷ 1 ∷ 0 ∷ []) (refused Refusals.format)
    ∷ reads (1 ∷ 0 ∷ 3 ∷ 1 ∷ 0 ∷ []) (refused Refusals.format)
    ∷ reads (1 ∷ 0 ∷ 3 ∷ 1 ∷ 0 ∷ 1 ∷ 2 ∷ 0 ∷ 1 ∷ []) (refused Refusals.format)
    ∷ reads (1 ∷ 3 ∷ 0 ∷ 1 ∷ 0 ∷ 1 ∷ []) (refused Refusals.format)
    -- one dose; canister 0 and 13; 0 and 4,801 steps
    ∷ reads (1 ∷ 0 ∷ 3 ∷ 1 ∷ 0 ∷ 1 ∷ []) (done (dose 1 1 ∷ []))
    ∷ reads (1 ∷ 0 ∷ 3 ∷ 12 ∷ 0x12 ∷ 0xc0 ∷ []) (done (dose 12 4800 ∷ []))
    ∷ reads (1 ∷ 0 ∷ 3 ∷ 0 ∷ 0 ∷ 1 ∷ []) (refused Refusals.entry)
    ∷ reads (1 ∷ 0 ∷ 3 ∷ 13 ∷ 0 ∷ 1 ∷ []) (refused Refusals.entry)
    ∷ reads (1 ∷ 0 ∷ 3 ∷ 1 ∷ 0 ∷ 0 ∷ []) (refused Refusals.entry)
    ∷ reads (1 ∷ 0 ∷ 3 ∷ 1 ∷ 0x12 ∷ 0xc1 ∷ []) (refused Refusals.entry)
    -- canisters that rise, are equal, fall
    ∷ reads (1 ∷ 0 ∷ 6 ∷ 1 ∷ 0 ∷ 2 ∷ 3 ∷ 1 ∷ 0 ∷ []) (done (dose 1 2 ∷ dose 3 256 ∷ []))
    ∷ reads (1 ∷ 0 ∷ 6 ∷ 3 ∷ 0 ∷ 2 ∷ 3 ∷ 1 ∷ 0 ∷ []) (refused Refusals.entry)
    ∷ reads (1 ∷ 0 ∷ 6 ∷ 3 ∷ 0 ∷ 2 ∷ 1 ∷ 1 ∷ 0 ∷ []) (refused Refusals.entry)
    -- five doses of 4,000, and then one step more; the same with another entry that is out of order
    ∷ reads (1 ∷ 0 ∷ 15 ∷ fives) (done (dose 1 4000 ∷ dose 2 4000 ∷ dose 3 4000 ∷ dose 4 4000 ∷ dose 5 4000 ∷ []))
    ∷ reads (1 ∷ 0 ∷ 18 ∷ (fives ++ (6 ∷ 0 ∷ 1 ∷ []))) (refused Refusals.steps)
    ∷ reads (1 ∷ 0 ∷ 18 ∷ (fives ++ (5 ∷ 0 ∷ 1 ∷ []))) (refused Refusals.entry)
    ∷ []
  where
    fives : List ℕ
    fives =
        1 ∷ 0x0f ∷ 0xa0 ∷ 2 ∷ 0x0f ∷ 0xa0 ∷ 3 ∷ 0x0f ∷ 0xa0 ∷ 4 ∷ 0x0f ∷ 0xa0 ∷ 5 ∷ 0x0f ∷ 0xa0 ∷ []

pub read_cases_lem : map (λ (c : ReadCase). read c.order) read_cases ≡ map (λ (c : ReadCase). c.answer) read_cases
unfolding read judge_doses
read_cases_lem = refl

-- the order of one dose in a store of 30 bytes, as item 0 leaves it
pub whole_store : read ((1 ∷ 0 ∷ 3 ∷ 1 ∷ 0 ∷ 1 ∷ []) ++ replicate 24 0) ≡ refused Refusals.format
unfolding read judge_doses
whole_store = refl

-- ten doses are 33 bytes: at k 240 nine of them are in item 0, and the tenth in item 1
abbrev ten : ℕ → List Dose
ten steps =
    dose 1 steps ∷ dose 2 steps ∷ dose 3 steps ∷ dose 4 steps ∷ dose 5 steps ∷ dose 6 steps ∷ dose 7 steps ∷ dose 8 steps
    ∷ dose 9 steps ∷ dose 10 steps ∷ []

-- two orders that a machine joined which was not opened anew are read as one
pub joined : read (take 30 (order_bytes (ten 100)) ++ drop 30 (order_bytes (ten 200))) ≡ done (take 9 (ten 100) ++ drop 9 (ten 200))
unfolding read judge_doses order_bytes
joined = refl

-- ---- writing

pub record WriteCase : Type 0 where
  pub doses : Doses
  pub room : ℕ
  pub answer : Answer (List ℕ)

abbrev writes : Doses → ℕ → Answer (List ℕ) → WriteCase
writes doses room answer = record { doses = doses; room = room; answer = answer }

-- twelve doses, of which so many are meant
abbrev twelve : ℕ → Doses
twelve count =
    record {
      count = count;
      list =
          dose 1 1 ∷ dose 2 1 ∷ dose 3 1 ∷ dose 4 1 ∷ dose 5 1 ∷ dose 6 1 ∷ dose 7 1 ∷ dose 8 4800 ∷ dose 9 4800 ∷ dose 10 4800
          ∷ dose 11 4800 ∷ dose 12 4800 ∷ [];
    }

abbrev write_cases : List WriteCase
write_cases =
    -- none, one, too many; a canister that a byte would cut to 5
    writes (twelve 0) 39 (refused Refusals.format)
    ∷ writes (twelve 1) 6 (done (1 ∷ 0 ∷ 3 ∷ 1 ∷ 0 ∷ 1 ∷ []))
    ∷ writes (twelve 13) 42 (refused Refusals.entry)
    ∷ writes (doses_from (dose 261 1 ∷ [])) 6 (refused Refusals.entry)
    -- a total of 24,007; and an entry out of order after as many steps
    ∷ writes (twelve 12) 39 (refused Refusals.steps)
    ∷ writes (doses_from (dose 1 4800 ∷ dose 2 4800 ∷ dose 3 4800 ∷ dose 4 4800 ∷ dose 5 4800 ∷ dose 5 1 ∷ [])) 39 (refused Refusals.entry)
    -- a slice too short by one; one too short for doses that are refused
    ∷ writes (twelve 2) 9 (done (1 ∷ 0 ∷ 6 ∷ 1 ∷ 0 ∷ 1 ∷ 2 ∷ 0 ∷ 1 ∷ []))
    ∷ writes (twelve 2) 8 (refused A.short)
    ∷ writes (twelve 12) 0 (refused Refusals.steps)
    ∷ writes (twelve 0) 0 (refused Refusals.format)
    ∷ []

pub write_cases_lem : map (λ (c : WriteCase). write c.doses (replicate c.room 0)) write_cases ≡ map (λ (c : WriteCase). c.answer) write_cases
unfolding write judge_counted judge_doses order_bytes
write_cases_lem = refl
