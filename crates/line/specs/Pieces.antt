-- A receiving call may be lent its bits in pieces, across a block's end too: the calls come to what one call comes to that
-- is lent all of them, the machine being ready at all of these calls or at none. Assumes nothing.
use Rattle.std.specs.Prelude.{◌≡◌, Bool, false, cond, List, [], ◌∷◌, ◌++◌, ℕ, ◌+◌, length, take}
use Rattle.crc.specs.Bits.{Bits, bits_of}
use Rattle.block.specs.Answer.{Answer, refused, done}
use Rattle.block.specs.Calls.{too_short}
use Rattle.line.specs.Receiving.{array_bytes, meaning, Reception, receive, receive_store}
use Rattle.line.specs.declared.receiver.Receiver.{Receiver}

-- what a call is lent of the line: a slice, and the number of its bits
pub record Piece : Type 0 where
  pub line : List ℕ
  pub count : ℕ

abbrev pub lent : Piece → Bits
lent p = take p.count (bits_of p.line)

abbrev pub joined : List Piece → Bits
joined [] = []
joined (p ∷ ps) = lent p ++ joined ps

abbrev pub total : List Piece → ℕ
total [] = 0
total (p ∷ ps) = p.count + total ps

-- what is answered, and the store afterwards
pub record Outcome : Type 0 where
  pub answer : Answer Reception
  pub store : List ℕ

abbrev pub call : Receiver → Bool → List ℕ → Piece → Outcome
call s ready store p =
    let answer = receive s p.line p.count ready store in
    record { answer = answer; store = receive_store s store answer }

-- the bits used counted with those of the calls before
abbrev pub add_used : ℕ → Reception → Reception
add_used before x = record { rule = x.rule; row = x.row; used = before + x.used; state = x.state }

abbrev pub add_used_if_done : ℕ → Answer Reception → Answer Reception
add_used_if_done before (refused n) = refused n
add_used_if_done before (done x) = done (add_used before x)

-- the next call is made if all bits were used, and is given the state and the store as they were left
abbrev pub next_call : Answer Reception → Bool → List ℕ → Piece → Outcome
next_call (refused n) ready store p = record { answer = refused n; store = store }
next_call (done x) ready store p =
    let next = call x.state ready store p in
    cond (meaning x.rule).uses_all (record { answer = add_used_if_done x.used next.answer; store = next.store })
    (record { answer = done x; store = store })

abbrev pub next_calls : Outcome → Bool → List Piece → Outcome
next_calls y ready [] = y
next_calls y ready (p ∷ ps) = next_calls (next_call y.answer ready y.store p) ready ps

-- However a call's bits are divided among calls that share its readiness, none missing; a receiver's array has its length by
-- its type.
unfoldable pub Pieces : Type 0
Pieces =
    (s : Receiver) (ready : Bool) (store : List ℕ) (whole first : Piece) (further : List Piece) → length s.bits ≡ array_bytes
    → too_short whole.line whole.count ≡ false → whole.count ≡ total (first ∷ further)
    → lent whole ≡ joined (first ∷ further) → call s ready store whole ≡ next_calls (call s ready store first) ready further
