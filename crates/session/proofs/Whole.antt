-- The outputs over the parts of an input and its end are the text of the input. Assumes nothing.
use mathlib.Core.Path.{◌≡◌, refl, sym, ap, ap₂, ◌∙◌}
use mathlib.Core.Bool.{true, false}
use mathlib.Core.List.{List, [], ◌∷◌, ◌++◌, append_assoc, append-nil}
use mathlib.Core.Logic.{⊎_elim}
use Prim.Native.Nat.{ℕ, ◌+◌, ◌-◌, ◌^◌, ◌<◌}
use native.Mathlib.Omega.{arith}
use lib.ListN.{length, drop, replicate}
use lib.Seq.{take-append_seam}
use borrow.Author.Tests.{lt-ltb}
use Rattle.block.proofs.Truth.{either}
use Rattle.std.specs.Prelude.{Option, Some, None}
use Rattle.session.specs.Buffer.{held}
use Rattle.session.specs.Program.{keeping, at_start, yield_text, number_after, byte_taken, after_byte, after_bytes, bytes_text, end_text, output_room, output_of, turn_to, turn, outputs, input_of, Whole}
use Rattle.session.specs.Period.{Outcome}
use Rattle.session.specs.Run.{rendered, run_text}
use Rattle.session.specs.Session.{placed, takes, takes_order, takes_store, ends, over, listed, yields, ByBytes}
use Rattle.session.specs.Text.{heading, outcome_text}
use Rattle.session.specs.declared.program.Program.{Program}
use Rattle.session.specs.declared.program.Turn.{Turn}
use Rattle.session.specs.declared.script.Place.{Place}
use Rattle.session.specs.declared.script.Place.TheVariants as P
use Rattle.session.specs.declared.script.Session.{Session}
use Rattle.session.proofs.ByBytes.{by_bytes}
use Rattle.session.proofs.MostPeriods.{few_outcomes}

-- the text of what is yielded over bytes and the end, from a program on
unfoldable rest : Program → List ℕ → List ℕ
rest p [] = end_text p
rest p (c ∷ cs) = yield_text p.number (byte_taken p c).yielded ++ rest (after_byte p c) cs

-- ---- it is the outcomes, rendered

render_yield : (n : ℕ) (y : Option Outcome) (os : List Outcome) → n + length (listed y ++ os) < 2 ^ 64
    → (yield_text n y ++ rendered (number_after n y) os ≡ rendered n (listed y ++ os)) × (number_after n y + length os < 2 ^ 64)
render_yield n None os h = (refl, h)
render_yield n (Some o) os h =
    let t = lt-ltb n (2 ^ 64 - 1) (omega arith) in
    (rw t, rw t (omega arith))

render_end : (n : ℕ) (y : Option Outcome) → yield_text n y ≡ rendered n (listed y)
render_end n None = refl
render_end n (Some o) = sym (append-nil (outcome_text n o))

rest-rendered : (cs : List ℕ) (p : Program) → p.number + length (yields p.session p.order p.store cs) < 2 ^ 64
    → rest p cs ≡ rendered p.number (yields p.session p.order p.store cs)
unfolding rest yields
rest-rendered [] p h = render_end p.number (ends p.session p.session.place p.order p.store).yielded
rest-rendered (c ∷ cs) p h =
    let q : Program = after_byte p c in
    let r = render_yield p.number (byte_taken p c).yielded (yields q.session q.order q.store cs) h in
    ap (λ (l : List ℕ). yield_text p.number (byte_taken p c).yielded ++ l) (rest-rendered cs q r.1) ∙ r.0

-- ---- over the turns

shown_text : (text : List ℕ) → held (output_of text) ≡ text
shown_text text = take-append_seam text (drop (length text) (replicate output_room 0))

-- when the run is over nothing more is written
over_silent : (s : Session) (n : ℕ) (order store cs : List ℕ) → rest (keeping (placed s P.Over) n order store) cs ≡ []
unfolding rest takes takes_order takes_store ends
over_silent s n order store [] = refl
over_silent s n order store (c ∷ cs) = over_silent s n order store cs

over-rest : (p : Program) → over p.session.place ≡ true → (cs : List ℕ) → rest p cs ≡ []
over-rest p e cs = by_place p.session.place e
  where
    by_place : (place : Place) → over place ≡ true → rest (keeping (placed p.session place) p.number p.order p.store) cs ≡ []
    by_place P.LineOne h = absurd (let z : ◌≡◌ {A = ℕ} 0 1 = cc in omega arith)
    by_place P.LineStart h = absurd (let z : ◌≡◌ {A = ℕ} 0 1 = cc in omega arith)
    by_place (P.Kind kind) h = absurd (let z : ◌≡◌ {A = ℕ} 0 1 = cc in omega arith)
    by_place P.Over h = over_silent p.session p.number p.order p.store cs

-- bytes, and what follows them
rest-append : (cs ds : List ℕ) (p : Program) → rest p (cs ++ ds) ≡ bytes_text p cs ++ rest (after_bytes p cs) ds
unfolding rest after_bytes bytes_text
rest-append [] ds p = refl
rest-append (c ∷ cs) ds p =
    let text : List ℕ = yield_text p.number (byte_taken p c).yielded in
    ap (λ (l : List ℕ). text ++ l) (rest-append cs ds (after_byte p c))
    ∙ sym (append_assoc text (bytes_text (after_byte p c) cs) (rest (after_bytes (after_byte p c) cs) ds))

-- the last turn's output is the last
last_output : (t : Turn) → t.over ≡ true → (parts : List (List ℕ)) → outputs t parts ≡ held t.output
unfolding outputs
last_output t e [] = refl
last_output t e (part ∷ parts) = rw e (append-nil (held t.output))

-- the turn after a part, when the run is not over
next-turn : (t : Turn) (part : List ℕ) (parts : List (List ℕ)) → t.over ≡ false
    → outputs t (part ∷ parts) ≡ held t.output ++ outputs (turn t.program part) parts
unfolding outputs
next-turn t part parts e = rw e

-- the end of the input is the last turn
ends_there : (p : Program) (text : List ℕ) (parts : List (List ℕ)) → over p.session.place ≡ false
    → outputs (turn_to p text) ([] ∷ parts) ≡ text ++ rest p []
unfolding rest
ends_there p text parts e =
    next-turn (turn_to p text) [] parts e
    ∙ ap₂ (λ (a b : List ℕ). a ++ b) (shown_text text)
    (last_output (turn p []) refl parts ∙ shown_text (end_text p))

-- bytes, then the turn after them
bytes_then : (p : Program) (text : List ℕ) (c : ℕ) (cs ds : List ℕ) (parts : List (List ℕ)) → over p.session.place ≡ false
    → outputs (turn p (c ∷ cs)) parts ≡ bytes_text p (c ∷ cs) ++ rest (after_bytes p (c ∷ cs)) ds
    → outputs (turn_to p text) ((c ∷ cs) ∷ parts) ≡ text ++ rest p ((c ∷ cs) ++ ds)
bytes_then p text c cs ds parts e further =
    next-turn (turn_to p text) (c ∷ cs) parts e
    ∙ ap₂ (λ (a b : List ℕ). a ++ b) (shown_text text) (further ∙ sym (rest-append (c ∷ cs) ds p))

-- the run is over
over_there : (p : Program) (text ds : List ℕ) (parts : List (List ℕ)) → over p.session.place ≡ true
    → outputs (turn_to p text) parts ≡ text ++ rest p ds
over_there p text ds parts e =
    last_output (turn_to p text) e parts ∙ shown_text text
    ∙ sym (ap (λ (l : List ℕ). text ++ l) (over-rest p e ds) ∙ append-nil text)

from_turn : (parts : List (List ℕ)) (p : Program) (text : List ℕ)
    → outputs (turn_to p text) (parts ++ ([] ∷ [])) ≡ text ++ rest p (input_of parts)
from_turn [] p text =
    ⊎_elim (λ e. over_there p text [] _ e) (λ e. ends_there p text [] e) (either (over p.session.place))
from_turn ([] ∷ parts) p text =
    ⊎_elim (λ e. over_there p text [] _ e) (λ e. ends_there p text (parts ++ ([] ∷ [])) e) (either (over p.session.place))
from_turn ((c ∷ cs) ∷ parts) p text =
    ⊎_elim (λ e. over_there p text ((c ∷ cs) ++ input_of parts) _ e)
    (λ e.
    bytes_then p text c cs (input_of parts) (parts ++ ([] ∷ [])) e
    (from_turn parts (after_bytes p (c ∷ cs)) (bytes_text p (c ∷ cs))))
    (either (over p.session.place))

pub whole : Whole
unfolding run_text ByBytes
whole parts =
    let input : List ℕ = input_of parts in
    from_turn parts at_start heading
    ∙ ap (λ (l : List ℕ). heading ++ l)
    (rest-rendered input at_start (rw (by_bytes input) (omega (arith, few_outcomes input)))
    ∙ ap (rendered 0) (by_bytes input))
